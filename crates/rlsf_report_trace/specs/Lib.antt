-- The definitions of the report.
pub mod Summaries
