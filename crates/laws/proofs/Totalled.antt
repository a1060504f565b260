-- The totals of the product law, taken of the lists that the calls handed out.
-- Proved: on any two curves of an accepted family, with lists as long as their calls ask, the calls finish and the product law holds of the
-- lists as they then are; where every call finished, the lists are as long as the totals ask; the totals, or the refusal, come to
-- Weighed. These rest on the laws of specs/, which edits change. Assumes nothing.
use Rattle.std.specs.Prelude.{◌≡◌, List, [], ◌∷◌, ℕ, suc, ◌+◌, ◌*◌, ◌-◌, ◌<◌, ◌≤◌, length, Ok, Err}
use Rattle.std.proofs.Common.{sym, ◌∙◌, ap, ap₂, arith}
use Rattle.definitions.specs.Answers.{Answer, answered, cleared}
use Rattle.definitions.specs.Conversion.{expand}
use Rattle.definitions.specs.Family.{Family, Accepted, rows}
use Rattle.definitions.specs.Orthogonality.{moments, norms, moment_total, norm_total, ProductLaw}
use Rattle.definitions.specs.Refusals.{Test, finished, verdict, moments_tests, norms_tests}
use Rattle.acceptance.specs.Acceptance.{PlainInput, accepted-convertible, moments-passes, norms-passes}
use Rattle.theory.specs.Bridge.{expand-curve}
use Rattle.theory.specs.Moments.{moments-length, norms-curve}
use Rattle.theory.specs.ProductLaw.{product_law}
use Rattle.acceptance.specs.Verdicts.{None, verdict-finished, none-append, with_values, verdict-values}
use Rattle.totals.specs.Totals.{MomentTotalInput, NormTotalInput}
use Rattle.laws.specs.ByWay.{way-input, two-calls-pass, cleared-after}
use Rattle.acceptance.specs.Stages.{stage-none, list-new}
use Rattle.laws.specs.Laws.{Totals, Lists, ProductLawInput, told, both_totals, ProductLawHolds, way_tests, work_left}
use Rattle.laws.specs.Laws.{tests₁, tests₂, tests₃, law_tests, work₁, work₂, ListsHanded, HandedOut, Weighed}
use Rattle.laws.specs.declared.Way.{Way}
use Rattle.definitions.specs.declared.Refusal.{Refusal}

module _ (first second : Way) (f : Family) (u v : List ℕ) (lent : Lists) where
  abbrev T₁ : List Test
  T₁ = tests₁ first second f u v lent

  abbrev T₂ : List Test
  T₂ = tests₂ first second f u v lent

  abbrev T₃ : List Test
  T₃ = tests₃ first second f u v lent

  abbrev T₄ : List Test
  T₄ = law_tests first second f u v lent

  abbrev later₂ : List Test
  later₂ = way_tests second f v (length lent.t) (length lent.work)

  abbrev later₃ : List Test
  later₃ = moments_tests f (length lent.moment) (length lent.work)

  abbrev later₄ : List Test
  later₄ = norms_tests f (length lent.norm)

  passes : ProductLawInput f u v lent → None T₄
  passes input =
      let curves : None T₁ × None later₂ = two-calls-pass first second f u v lent.s lent.t lent.work (record {
        accepted = input.accepted;
        curve = input.u_curve;
        one_length = input.s_length;
        two_length = input.t_length;
        work_long = input.work_long;
      }) input.v_curve in
      let moment : None later₃ = (moments-passes f (length lent.moment) (length lent.work)).1
      (record { accepted = input.accepted; output_length = input.moment_length; work_long = input.work_long }) in
      let norm : None later₄ = (norms-passes f (length lent.norm)).1
      (record { accepted = input.accepted; output_length = input.norm_length }) in
      (none-append T₃ later₄).1 ((none-append T₂ later₃).1 ((none-append T₁ later₂).1 curves, moment), norm)

  -- where no test of any call holds
  module _ (none : None T₄) where
    none₃ : None T₃
    none₃ = ((none-append T₃ later₄).0 none).0

    none₂ : None T₂
    none₂ = ((none-append T₂ later₃).0 none₃).0

    none₁ : None T₁
    none₁ = ((none-append T₁ later₂).0 none₂).0

    u-input : PlainInput f u (length lent.s)
    u-input = way-input f u (length lent.s) (length lent.work) first none₁

    v-input : PlainInput f v (length lent.t)
    v-input = way-input f v (length lent.t) (length lent.work) second ((none-append T₁ later₂).0 none₂).1

    module _ (handed : Lists) (l : ListsHanded first second f u v lent handed) where
      s-new : handed.s ≡ expand f u
      s-new = l.s_is ∙ list-new T₁ none₁ (expand f u) lent.s

      t-new : handed.t ≡ expand f v
      t-new = l.t_is ∙ list-new T₂ none₂ (expand f v) lent.t

      moments-new : handed.moment ≡ moments f
      moments-new = l.moments_are ∙ list-new T₃ none₃ (moments f) lent.moment

      norms-new : handed.norm ≡ norms f
      norms-new = l.norms_are ∙ list-new T₄ none (norms f) lent.norm

      work-new : handed.work ≡ cleared lent.work
      work-new =
          let W₁ = work₁ first second f u v lent in
          let W₂ = work₂ first second f u v lent in
          l.worked ∙ list-new T₃ none₃ (cleared W₂) W₂
          ∙ ap cleared (list-new T₂ none₂ (work_left second W₁) W₁) ∙ cleared-after second W₁
          ∙ ap cleared (list-new T₁ none₁ (work_left first lent.work) lent.work) ∙ cleared-after first lent.work

  law-of : Accepted f → (s t moment norm : List ℕ) → s ≡ expand f u → t ≡ expand f v → moment ≡ moments f → norm ≡ norms f
      → ProductLaw f u v s t moment norm
  law-of accepted s t moment norm s_is t_is moments_are norms_are =
      rw (s_is, t_is, moments_are, norms_are) (product_law f (accepted-convertible f accepted) u v)

  law-holds : (r : Totals) (handed : Lists) → told r ≡ verdict T₄ (both_totals f u v handed) → ListsHanded first second f u v lent handed
      → ProductLawInput f u v lent → ProductLawHolds f u v r lent handed
  law-holds r handed e l input =
      let none : None T₄ = passes input in
      let s_new = s-new none handed l in
      let t_new = t-new none handed l in
      let moments_new = moments-new none handed l in
      let norms_new = norms-new none handed l in
      record {
        finishes = e ∙ (verdict-finished T₄ (both_totals f u v handed)).1 none;
        s_is = s_new;
        t_is = t_new;
        moments_are = moments_new;
        norms_are = norms_new;
        wiped = work-new none handed l;
        law = law-of input.accepted handed.s handed.t handed.moment handed.norm s_new t_new moments_new norms_new;
      }

  -- ---- the totals, or the refusal, after the calls
  module _ (handed : Lists) (r : Answer) (out : HandedOut first second f u v lent r handed) where
    weighed : (x : Totals) → told x ≡ verdict T₄ (both_totals f u v handed) → Weighed first second f u v lent x handed
    weighed x e = record { answer = e; lists = out.lists; holds = law-holds x handed e out.lists }

    pub refused-weighed : (k : Refusal) → r ≡ Err k → Weighed first second f u v lent (Err k) handed
    refused-weighed k q =
        let values = both_totals f u v handed in
        weighed (Err k) (sym (verdict-values values T₄ ∙ ap (with_values values) (sym out.answer ∙ ap answered q)))

    module _ (q : r ≡ Ok tt) where
      none : None T₄
      none = stage-none T₄ r out.answer q

      pub rows_few : rows f ≤ 127
      rows_few = (u-input none).accepted.row_count

      positive : 0 < f.m
      positive = let two : 2 ≤ f.m = (u-input none).accepted.modulus.least in omega arith

      pub moment-total-input : MomentTotalInput f.m (rows f + 1) handed.s handed.t handed.moment
      moment-total-input =
          let ls : length handed.s ≡ suc (rows f) = ap length (s-new none handed out.lists) ∙ (expand-curve f positive u).long in
          let lt : length handed.t ≡ suc (rows f) = ap length (t-new none handed out.lists) ∙ (expand-curve f positive v).long in
          let lm : length handed.moment ≡ 2 * suc (rows f) - 1 = ap length (moments-new none handed out.lists) ∙ moments-length f in
          record { positive = positive; least = omega arith; s_long = omega arith; t_long = omega arith; moment_long = omega arith }

      pub norm-total-input : NormTotalInput f.m (rows f + 1) u v handed.norm
      norm-total-input =
          let lu : length u ≡ suc (rows f) = (u-input none).curve.long in
          let lv : length v ≡ suc (rows f) = (v-input none).curve.long in
          let ld : length handed.norm ≡ suc (rows f) = ap length (norms-new none handed out.lists) ∙ (norms-curve f positive).long in
          record { positive = positive; u_long = omega arith; v_long = omega arith; norm_long = omega arith }

      pub totals-weighed : (x y : ℕ) → x ≡ moment_total f.m (rows f + 1) handed.s handed.t handed.moment
          → y ≡ norm_total f.m (rows f + 1) u v handed.norm → Weighed first second f u v lent (Ok (x, y)) handed
      totals-weighed x y ex ey =
          let n-is : rows f + 1 ≡ suc (rows f) = omega arith in
          weighed (Ok (x, y))
          (ap₂ (λ p o. finished (p ∷ o ∷ []))
          (ex ∙ ap (λ n. moment_total f.m n handed.s handed.t handed.moment) n-is)
          (ey ∙ ap (λ n. norm_total f.m n u v handed.norm) n-is)
          ∙ sym ((verdict-finished T₄ (both_totals f u v handed)).1 none))
