-- Definitions for the library of pools of numbers, besides those of `rlsf_pool_calls`.
pub mod Handle
