-- The laws over the calls on a prepared family, as the functions of this crate promise them: all that is to be believed of `prepared_laws`,
-- and nothing proved.
--   PutBack     a row is replaced and the old one put back: the answer is that of the replacement, and the record is the old one
--   Dropped     a row is appended and dropped: the answer is that of the append, and the record is the old one
--   ByAppends   the rows of three lists are appended to the empty family: that finishes if and only if their family is accepted, and then
--               the record is that of the family
-- Of what the changes promise, whatever the code is: back-handed and dropped-handed in prepared_model, ChangeLaws.
-- Item 3 of the change requests. Assumes nothing.
use Rattle.std.specs.Prelude.{◌≡◌, List, [], ◌↔◌, ℕ}
use Rattle.definitions.specs.Family.{Row, Accepted, family}
use Rattle.definitions.specs.Prepared.{Prepared, prepared, append_tests, replace_tests}
use Rattle.definitions.specs.Refusals.{Verdict, finished, verdict}

-- v: what the answer says; out: the record that is handed out in the end
pub record PutBack (p : Prepared) (i : ℕ) (row : Row) (v : Verdict) (out : Prepared) : Type 0 where
  pub answer : v ≡ verdict (replace_tests p i row) []
  pub law : out ≡ p

pub record Dropped (p : Prepared) (row : Row) (v : Verdict) (out : Prepared) : Type 0 where
  pub answer : v ≡ verdict (append_tests p row) []
  pub law : out ≡ p

pub record ByAppends (m : ℕ) (a b c : List ℕ) (v : Verdict) (out : Prepared) : Type 0 where
  pub finishes : (v ≡ finished []) ↔ Accepted (family m a b c)
  pub law : v ≡ finished [] → out ≡ prepared (family m a b c)
