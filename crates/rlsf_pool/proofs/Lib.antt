-- What the exports return.
pub mod Results
