-- The definitions that callers cite, re-exported: `Words` has all of them.
pub mod Words
