-- Lemmas about runs over a source. `Underway` has the run so far.
pub mod FlexEvents
pub mod HandedOut
pub mod NamedPayloads
pub mod OpsDone
pub mod PlacedPayloads
pub mod Remembered
