-- Lemmas of the calls, and what manual proofs of exports cite.
mod Alignments
pub mod AtAddresses
mod Lends
mod Moved
pub mod Outcomes
mod PoolEnds
mod Reallocated
pub mod PassedNumbers
mod TooLong
pub mod Walking
