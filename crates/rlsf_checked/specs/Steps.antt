-- Definitions for private functions and the type's invariant.
pub mod Classes
pub mod Lists
pub mod Marks
pub mod Standing
