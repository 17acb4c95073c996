-- Lemmas of the exports. `Templates` has a manual proof for each shape of an export, and `Payloads` says what each does.
pub mod AsWords
pub mod Exports
pub mod HeapKinds
pub mod Payloads
pub mod Steps
pub mod Templates
mod Worked
