-- The template of the exports, and what manual proofs of exports cite.
pub mod Contracts
pub mod Exports
pub mod Lending
pub mod Parameters
pub mod Passing
pub mod Replacing
pub mod Walking
