-- Lemmas about the alignments that the benchmark draws.
mod Alignments
