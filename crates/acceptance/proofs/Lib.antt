-- Lemmas that proofs of calls use.
--   HandedOn   a refusal that `?` hands on
-- Assumes nothing.
pub mod HandedOn
