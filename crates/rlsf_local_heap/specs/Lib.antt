-- Definitions for the allocator of collections, and tenants. Read `Ownership` and `Tenants` first.
pub mod Constants
pub mod Leases
pub mod Ownership
pub mod Resized
pub mod Tenants
