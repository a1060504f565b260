-- Adjoint upwards is Adjoint.
-- Proves that the plain model's lists are the pairings of the curve with the polynomials, W_j[t] = sum of u_i times the coefficient of
-- x^i in x^t F_j, which follow the rows with the shift for an operator; so the answer, the W_j[0], is Adjoint's, for every
-- modulus but 0, every family and every curve. Assumes nothing.
use Rattle.std.specs.Prelude.{◌≡◌, List, length}
use Rattle.std.proofs.Math.Path.{sym, ap}
use Rattle.std.proofs.Common.{◌∙◌, arith}
use Prim.Native.Nat.{ℕ, zero, suc, ◌<◌, ◌≤◌}
use Rattle.algebra.specs.Residues.{Zmod, res, res-add, res-mul, res-mod}
use Rattle.algebra.specs.Ring.{CommRing}
use Rattle.definitions.specs.Conversion.{adjoint}
use Rattle.definitions.specs.Family.{Family, Curve, size}
use Rattle.numbers.specs.Lists.{table-entry}
use Rattle.theory.specs.Bridge.{entries, entries-past, rows_of, entries-adjoint, adjoint-curve}
use Rattle.theory.specs.Operator.{pairing, pairing-start, pairing-none, pairing-past, pairing-follows, pairing-one}
use Rattle.theory.specs.Recurrence.{Rows, term}
use Rattle.theory.specs.Curves.{table-curve, curves-equal-residues}
use Rattle.plain_model.specs.Entries.{Holding, entries-zeros, entries-table}
use Rattle.plain_model.specs.PlainModels.{State, adjoint_entry, adjoint_step, adjoint_state, plain_adjoint, adjoint_state-curves}

module _ (f : Family) (pos : 0 < f.m) (u : List ℕ) (cu : Curve f u) where
  abbrev m : ℕ
  m = f.m

  abbrev Q : CommRing
  Q = Zmod m pos

  abbrev ρ : Rows Q
  ρ = rows_of f pos

  abbrev E : List ℕ → ℕ → Q.Car
  E = entries m pos

  abbrev W : ℕ → ℕ → Q.Car
  W k = (pairing Q (size f) (E u)).to (term Q ρ k)

  ends : (i : ℕ) → size f ≤ i → E u i ≡ Q.zero
  ends i h = let l : length u ≡ size f = cu.long in entries-past m pos u i (omega arith)

  -- the lists of the state after j rows are W_j and W_{j-1}
  abbrev Holds : State → ℕ → Type 0
  Holds s j = Holding m pos s (W (suc j)) (W j)

  adjoint_step-pairing : (j : ℕ) (s : State) → Holds s j → Holds (adjoint_step f j s) (suc j)
  unfolding adjoint_step adjoint_entry
  adjoint_step-pairing j s e = record {
    current_holds = entries-table m pos (size f) _ (W (suc (suc j)))
        (λ t h. simp (res-mod m pos, res-add m pos, res-mul m pos, e.current_holds, e.older_holds)
        (sym (pairing-follows Q (size f) (E u) ends ρ j t)))
        (pairing-past Q (size f) (E u) ends (term Q ρ (suc (suc j))));
    older_holds = e.current_holds;
  }

  adjoint_state-pairing : (j : ℕ) → Holds (adjoint_state f u j) j
  unfolding adjoint_state
  adjoint_state-pairing zero = record {
    current_holds = λ t. sym (pairing-one Q (size f) (E u) ends ρ t);
    older_holds = λ t. entries-zeros m pos (size f) t ∙ sym (pairing-none Q (size f) (E u) ρ t);
  }
  adjoint_state-pairing (suc j) = adjoint_step-pairing j (adjoint_state f u j) (adjoint_state-pairing j)

  pub plain_adjoint-curve : Curve f (plain_adjoint f u)
  unfolding plain_adjoint
  plain_adjoint-curve = table-curve f _ (λ j h. (adjoint_state-curves f pos u cu j).current_curve.below 0 (omega arith))

  pub plain_adjoint-adjoint : plain_adjoint f u ≡ adjoint f u
  unfolding plain_adjoint
  plain_adjoint-adjoint = curves-equal-residues f (plain_adjoint f u) (adjoint f u) plain_adjoint-curve (adjoint-curve f pos u) pos
      (λ j h. ap (res m pos) (table-entry (size f) _ j 0 h) ∙ (adjoint_state-pairing j).current_holds 0
      ∙ pairing-start Q (size f) (E u) (term Q ρ (suc j)) ∙ sym (entries-adjoint f pos u j h))
