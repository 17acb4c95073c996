-- The definitions that callers cite, re-exported. Read `Words` first.
pub mod Live
pub mod Sources
pub mod Words
