-- Lemmas about payloads that are filled with their indices.
pub mod Numbered
