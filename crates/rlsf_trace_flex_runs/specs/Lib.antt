-- The definitions of a run over a source, in reading order: `FlexRuns`, `FlexEvents`, `Whole`; and of its source, `Listed`.
pub mod FlexEvents
pub mod FlexRuns
pub mod Listed
pub mod Steps
pub mod Whole
