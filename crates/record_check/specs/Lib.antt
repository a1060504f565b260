-- What the passes over a record's lists have found so far, and what they found at their end. Assumes nothing.
pub mod Scans
pub mod Findings
pub mod Norms
