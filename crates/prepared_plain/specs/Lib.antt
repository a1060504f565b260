-- How the tests on a record and the plain cores meet the promises. Assumes nothing.
pub mod RecordCore
