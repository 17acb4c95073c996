-- The block of a payload, and what is left in the bytes of one.
pub mod Filled
pub mod Fronts
pub mod UnknownAlignment
pub mod Unlent
