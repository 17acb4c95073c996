-- Definitions for the calls on pools of numbers. Read `Seen` and `Calls` first; of spaces, `Spaces`.
pub mod Answers
pub mod Calls
pub mod Lengths
pub mod Seen
pub mod Spaces
pub mod Walks
