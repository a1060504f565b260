-- What a record holds, in the definitions' words: its fields are those of Prepared of definitions.
--   held p   the numbers and lists of the record p
-- Assumes nothing.
use Rattle.definitions.specs.Prepared as definition
use Rattle.prepared.specs.declared.Prepared.{Prepared}

abbrev pub held : Prepared → definition.Prepared
held p = record {
  modulus = p.modulus;
  rows = p.rows;
  a = p.a;
  b = p.b;
  c = p.c;
  a_inverses = p.a_inverses;
  c_inverses = p.c_inverses;
  norms = p.norms;
}
