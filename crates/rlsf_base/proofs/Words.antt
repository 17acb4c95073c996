-- Words in a memory: what a written one leaves as it was.
pub mod Splices
pub mod Written
