-- Size classes: what they reach, their order, and their indices on numbers.
pub mod Order
pub mod Reach
