-- What the checks of a record's parts have found, as facts about the parts.
-- Proved: an answer no, where yes would say P, is that P fails (says-no, denied); what the check of the modulus found (modulus-found,
-- modulus-denied); a list is residues and then zeros if and only if the pass over its front and the one behind it find nothing
-- (front-passes, behind-passes). Assumes nothing.
use Rattle.std.specs.Prelude.{◌≡◌, Bool, true, false, List, [], ◌∷◌, ◌↔◌, ℕ, ◌+◌, ◌-◌, ◌<◌, ◌≤◌, length, get_or, take, drop, Ok, Err}
use Rattle.std.proofs.Common.{sym, ◌∙◌, ap, true≢false, arith, length-drop, get_or-take, get_or-drop, length-take-le}
use Rattle.std.proofs.lemmas.Bool.{false≢true}
use Rattle.std.proofs.Math.Logic.Iff
use Rattle.std.proofs.Math.Logic.{by_cases}
use Rattle.std.proofs.Math.Decide.{dec_lt}
use Rattle.std.proofs.Math.ListN.{get_or-eq_default}
use Rattle.definitions.specs.Answers.{Answer, number_of, answered}
use Rattle.definitions.specs.Family.{Modulus}
use Rattle.definitions.specs.Refusals.{verdict, some, not_below, modulus_test}
use Rattle.acceptance.specs.Stages.{stage-none}
use Rattle.acceptance.specs.Verdicts.{verdict-finished, refused-not-finished, some-not_below-false, modulus-passes}
use Rattle.definitions.specs.declared.Refusal.{Refusal}

-- ---- answers
module _ {P : Type 0} where
  pub says-no : (P → ⊥) → (false ≡ true) ↔ P
  says-no n = (λ e. absurd (false≢true e), λ p. absurd (n p))

  pub denied : {r : Bool} → (r ≡ true) ↔ P → r ≡ false → P → ⊥
  denied says e p = true≢false (sym (says.1 p) ∙ e)

module _ (m : ℕ) (r : Answer) (is : answered r ≡ verdict (modulus_test m ∷ []) []) where
  pub modulus-found : r ≡ Ok tt → Modulus m
  modulus-found q = (modulus-passes m).0 (stage-none (modulus_test m ∷ []) r is q).0

  pub modulus-denied : (k : Refusal) → r ≡ Err k → Modulus m → ⊥
  modulus-denied k q h =
      let passes = (verdict-finished (modulus_test m ∷ []) []).1 ((modulus-passes m).1 h, tt) in
      refused-not-finished (number_of k) [] (sym (ap answered q) ∙ is ∙ passes)

-- ---- residues and then zeros
module _ (count : ℕ) (list : List ℕ) (long : count ≤ length list) where
  abbrev front : List ℕ
  front = take count list

  abbrev behind : List ℕ
  behind = take (length list - count) (drop count list)

  pub front-passes : (m : ℕ) → (some (not_below m) front ≡ false) ↔ ((i : ℕ) → i < count → get_or list i 0 < m)
  front-passes m = Iff.trans (some-not_below-false m front 0) (
    λ each i h. let entry = each i (omega (arith, front_length)) in omega (arith, entry, front-entry i h),
    λ below i h. let l : i < count = omega (arith, front_length) in omega (arith, below i l, front-entry i l),
  )
    where
      front_length : length front ≡ count
      front_length = length-take-le count list long

      front-entry : (i : ℕ) → i < count → get_or front i 0 ≡ get_or list i 0
      front-entry i h = get_or-take count list i 0 h

  pub behind-passes : (some (not_below 1) behind ≡ false) ↔ ((i : ℕ) → count ≤ i → get_or list i 0 ≡ 0)
  behind-passes = Iff.trans (some-not_below-false 1 behind 0) (
    λ each i l. by_cases (dec_lt i (length list))
        (λ h.
        let place : count + (i - count) ≡ i = omega arith in
        let entry = each (i - count) (omega (arith, behind-length)) in
        let at_place = behind-entry (i - count) (omega arith) ∙ ap (λ k. get_or list k 0) place in
        omega (arith, entry, at_place))
        (λ h. get_or-eq_default list 0 (omega arith)),
    λ zeros i h. omega (arith, zeros (count + i) (omega arith), behind-entry i (omega (arith, behind-length))),
  )
    where
      behind-length : length behind ≡ length list - count
      behind-length = length-take-le (length list - count) (drop count list) (omega (arith, length-drop count list))

      behind-entry : (i : ℕ) → i < length list - count → get_or behind i 0 ≡ get_or list (count + i) 0
      behind-entry i h = get_or-take (length list - count) (drop count list) i 0 h ∙ get_or-drop count list i 0
