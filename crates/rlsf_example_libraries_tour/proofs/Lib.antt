-- Lemmas about the lengths that the program prints.
mod ObjectPools
