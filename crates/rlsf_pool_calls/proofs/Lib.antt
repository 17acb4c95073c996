-- Lemmas of the calls.
pub mod Outcomes
pub mod Rewritten
pub mod Zero
