-- Definitions for private functions. No public contract cites these.
pub mod ClassList
pub mod Places
