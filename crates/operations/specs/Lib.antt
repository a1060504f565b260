-- How much an operation hands out, and an operation on lists whose sizes are in order. Assumes nothing.
pub mod Results
pub mod Lists
