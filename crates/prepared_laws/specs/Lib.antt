-- The laws over the calls on a prepared family: of the changes, and that the operations answer as with the lists. Assumes nothing.
pub mod PreparedLaws
pub mod Growing
pub mod RecordLaws
