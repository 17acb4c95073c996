-- Lemmas about the slots of a run.
mod SlotChanges
