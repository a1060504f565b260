-- A number that is given, against its tests.
--   Others k ts   no test of ts that holds has the number k
-- Proved: where a number is given whose test stands behind others with other numbers, none of these holds, and it is given by what is behind
-- (refused-past), and likewise by what is before others (refused-first); it is given by its own test if and only if none before it holds and
-- it does (refused-here). Assumes nothing.
use Rattle.std.specs.Prelude.{◌≡◌, refl, Bool, true, false, List, [], ◌∷◌, ◌++◌, ◌↔◌, ℕ}
use Rattle.std.proofs.Common.{sym, ◌∙◌}
use Rattle.definitions.specs.Refusals.{Test, refused, verdict}
use Rattle.acceptance.specs.Given.{Given, refused-given}
use Rattle.acceptance.specs.Verdicts.{None, verdict-here, verdict-next, verdict-goes-on}

abbrev pub Others : ℕ → List Test → Type 0
Others k ts = Given (λ j. j ≡ k → ⊥) ts

module _ (k : ℕ) (values : List ℕ) where
  pub refused-past : (ts us : List Test) → Others k ts → verdict (ts ++ us) values ≡ refused k → None ts × (verdict us values ≡ refused k)
  refused-past [] us other e = (tt, e)
  refused-past (t ∷ ts) us other e = split t.holds refl (refused-past ts us other.1)
    where
      split : (h : Bool) → t.holds ≡ h → (verdict (ts ++ us) values ≡ refused k → None ts × (verdict us values ≡ refused k))
          → None (t ∷ ts) × (verdict us values ≡ refused k)
      split true q rest =
          let same : refused t.number ≡ refused k = sym (verdict-here t (ts ++ us) values q) ∙ e in
          let number : t.number ≡ k = cc in
          absurd (other.0 q number)
      split false q rest = let further = rest (sym (verdict-next t (ts ++ us) values q) ∙ e) in ((q, further.0), further.1)

pub refused-first : (k : ℕ) (values : List ℕ) (ts us : List Test) → Others k us → verdict (ts ++ us) values ≡ refused k
    → verdict ts [] ≡ refused k
refused-first k values [] us other e = absurd (refused-given (λ j. j ≡ k → ⊥) values k us other e refl)
refused-first k values (t ∷ ts) us other e = split t.holds refl (refused-first k values ts us other)
  where
    split : (h : Bool) → t.holds ≡ h → (verdict (ts ++ us) values ≡ refused k → verdict ts [] ≡ refused k)
        → verdict (t ∷ ts) [] ≡ refused k
    split true q rest = verdict-here t ts [] q ∙ sym (verdict-here t (ts ++ us) values q) ∙ e
    split false q rest = verdict-next t ts [] q ∙ rest (sym (verdict-next t (ts ++ us) values q) ∙ e)

pub refused-here : (values : List ℕ) (before : List Test) (t : Test) (later : List Test) → Others t.number before → Others t.number later
    → (verdict (before ++ t ∷ later) values ≡ refused t.number) ↔ (None before × (t.holds ≡ true))
refused-here values before t later other none = (
  λ e. let past = refused-past t.number values before (t ∷ later) other e in (past.0, holds past.1),
  λ p. verdict-goes-on (t ∷ later) values before p.0 ∙ verdict-here t later values p.1,
)
  where
    holds : verdict (t ∷ later) values ≡ refused t.number → t.holds ≡ true
    holds e = split t.holds refl
      where
        split : (h : Bool) → t.holds ≡ h → t.holds ≡ true
        split true q = q
        split false q =
            absurd (refused-given (λ j. j ≡ t.number → ⊥) values t.number later none (sym (verdict-next t later values q) ∙ e) refl)
