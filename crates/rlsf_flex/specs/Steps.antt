-- Definitions for private functions.
pub mod Footing
pub mod Growth
pub mod Outside
pub mod Parts
pub mod Trim
