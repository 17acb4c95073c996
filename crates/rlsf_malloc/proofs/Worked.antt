-- Worked examples, which nobody cites.
mod Composed
