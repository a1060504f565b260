-- How the tests on a record and the tree's cores meet the promises. Assumes nothing.
pub mod RecordTree
