-- Lemmas about the slots of a benchmark. `Underway` has the run so far.
pub mod Alignments
pub mod FirstPool
pub mod SlotChanges
pub mod StepsDone
