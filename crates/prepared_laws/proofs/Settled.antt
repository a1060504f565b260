-- From the record that was made by appends to the promise of the call on the lists.
-- Proved: where an append refuses, the family is not accepted and the lists stay; where all finish, the family is accepted, its record is what
-- was made, and each operation on it keeps the promise of the call on the lists. These rest on the laws of specs/, which edits change.
-- Assumes nothing.
use Rattle.std.specs.Prelude.{◌≡◌, List, [], ℕ, Ok, Err}
use Rattle.std.proofs.Common.{sym, ◌∙◌, ap, subst}
use Rattle.definitions.specs.Answers.{Answer, number_of, answered, NormsCall, MomentsCall}
use Rattle.definitions.specs.Family.{Family, Accepted, family}
use Rattle.definitions.specs.Prepared.{Prepared, prepared}
use Rattle.definitions.specs.PreparedCalls.{PreparedPlainCall, PreparedTreeCall, PreparedNormsCall, PreparedMomentsCall}
use Rattle.definitions.specs.Refusals.{Verdict, finished}
use Rattle.acceptance.specs.Verdicts.{refused-not-finished}
use Rattle.laws.specs.ByWay.{by-plain, by-tree}
use Rattle.laws.specs.Laws.{Made}
use Rattle.laws.specs.declared.Way.{Way}
use Rattle.prepared_laws.specs.PreparedLaws.{ByAppends}
use Rattle.prepared_model.specs.AsLists.{plain-as-lists, tree-as-lists, norms-as-lists, moments-as-lists}
use Rattle.prepared_laws.specs.RecordLaws.{ByRecord}
use Rattle.definitions.specs.declared.Refusal.{Refusal}

module _ (m : ℕ) (a b c : List ℕ) (made : Answer) (q : Prepared) (appends : ByAppends m a b c (answered made) q) where
  abbrev f : Family
  f = family m a b c

  pub rows-refused : (call kept : Type 0) (k : Refusal) → made ≡ Err k → kept → ByRecord f call (answered made) kept
  rows-refused call kept k e stay =
      let not : answered made ≡ finished [] → ⊥ = λ done. refused-not-finished (number_of k) [] (sym (ap answered e) ∙ done) in
      record { law = λ accepted. absurd (not (appends.finishes.1 accepted)); refusal = λ none. (not, stay) }

  module _ (e : made ≡ Ok tt) where
    rows_taken : Accepted f
    rows_taken = appends.finishes.0 (ap answered e)

    record_is : q ≡ prepared f
    record_is = appends.law (ap answered e)

    settled : (call kept : Type 0) (v : Verdict) → call → ByRecord f call v kept
    settled call kept v promise = record { law = λ accepted. promise; refusal = λ none. absurd (none rows_taken) }

    module _ (r : Answer) (output output' work : List ℕ) (kept : Type 0) where
      module _ (convert : Family → List ℕ → List ℕ) (u : List ℕ) where
        pub plain-settled : PreparedPlainCall convert q u (answered r) output output'
            → ByRecord f (Made convert Way.Plain f u r output output' work work) (answered r) kept
        plain-settled call = settled _ kept (answered r) (by-plain convert f u r output output' work
            (plain-as-lists rows_taken (answered r) output output' convert u
            (subst (λ p. PreparedPlainCall convert p u (answered r) output output') record_is call)))

        pub tree-settled : (work' : List ℕ) → PreparedTreeCall convert q u (answered r) output output' work work'
            → ByRecord f (Made convert Way.Tree f u r output output' work work') (answered r) kept
        tree-settled work' call = settled _ kept (answered r) (by-tree convert f u r output output' work work'
            (tree-as-lists rows_taken (answered r) output output' convert u work work'
            (subst (λ p. PreparedTreeCall convert p u (answered r) output output' work work') record_is call)))

    module _ (v : Verdict) (output output' : List ℕ) (kept : Type 0) where
      pub norms-settled : PreparedNormsCall q v output output' → ByRecord f (NormsCall f v output output') v kept
      norms-settled call = settled _ kept v (norms-as-lists rows_taken v output output'
          (subst (λ p. PreparedNormsCall p v output output') record_is call))

      pub moments-settled : (work work' : List ℕ) → PreparedMomentsCall q v output output' work work'
          → ByRecord f (MomentsCall f v output output' work work') v kept
      moments-settled work work' call = settled _ kept v (moments-as-lists rows_taken v output output' work work'
          (subst (λ p. PreparedMomentsCall p v output output' work work') record_is call))
