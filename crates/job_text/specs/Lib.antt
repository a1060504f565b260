-- The job text in the parts in which it is put. Assumes nothing.
pub mod Parts
