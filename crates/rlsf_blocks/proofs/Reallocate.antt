-- A used block gets another size.
pub mod Addresses
pub mod Computations
pub mod Copies
pub mod Elsewhere
pub mod FirstPlan
pub mod Lengths
pub mod Moves
pub mod Neighbours
pub mod NextPlans
pub mod Occupied
pub mod Previous
pub mod PreviousPlans
pub mod Resized
pub mod Spans
