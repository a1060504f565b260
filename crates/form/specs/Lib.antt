-- How the answers for the lines of a family and of a job, which give places and counts, say the same as the readers of definitions.
--   FamilyLines   the lines of a family
--   JobForm       the whole job
-- Assumes nothing.
pub mod FamilyLines
pub mod JobForm
