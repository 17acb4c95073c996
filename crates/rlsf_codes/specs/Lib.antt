-- Definitions for codes.
pub mod Codes
