-- Worked examples, which nobody cites.
mod Sizes
