-- The calls of the product law, made one after another: Expand for u, Expand for v, Moments and Norms.
-- Proved: calls that each keep their own promise come to HandedOut, whichever refuses. Assumes nothing.
use Rattle.std.specs.Prelude.{◌≡◌, List, [], ℕ, length, Ok, Err}
use Rattle.std.proofs.Common.{sym, ◌∙◌, ap}
use Rattle.definitions.specs.Answers.{Answer, answered, after, cleared, NormsCall, MomentsCall}
use Rattle.definitions.specs.Conversion.{expand}
use Rattle.definitions.specs.Family.{Family}
use Rattle.definitions.specs.Orthogonality.{moments, norms}
use Rattle.definitions.specs.Refusals.{Test, verdict, moments_tests, norms_tests}
use Rattle.laws.specs.ByWay.{work-length}
use Rattle.acceptance.specs.Stages.{all-remain, stage-refuses, stage-passes, stages-end}
use Rattle.laws.specs.Laws.{Lists, lists, way_tests, work_left, Made, tests₁, tests₂, tests₃, law_tests, work₁, work₂, work₃, HandedOut}
use Rattle.laws.specs.declared.Way.{Way}
use Rattle.definitions.specs.declared.Refusal.{Refusal}

-- a list by the verdict of the tests so far, where the last call made wrote it or refused
module _ (tests : List Test) (x : Answer) (new old : List ℕ) (e : answered x ≡ verdict tests []) where
  settles : (list : List ℕ) → list ≡ after (answered x) new old → list ≡ after (verdict tests []) new old
  settles list w = w ∙ ap (λ v. after v new old) e

  stays : (k : Refusal) → x ≡ Err k → old ≡ after (verdict tests []) new old
  stays k q = ap (λ v. after v new old) (sym (ap answered q) ∙ e)

module _ (first second : Way) (f : Family) (u v : List ℕ) (lent : Lists) (r₁ : Answer) (s' w₁ : List ℕ)
    (one : Made expand first f u r₁ lent.s s' lent.work w₁) where
  abbrev T₁ : List Test
  T₁ = tests₁ first second f u v lent

  abbrev T₂ : List Test
  T₂ = tests₂ first second f u v lent

  abbrev T₃ : List Test
  T₃ = tests₃ first second f u v lent

  abbrev T₄ : List Test
  T₄ = law_tests first second f u v lent

  abbrev later₂ : List Test
  later₂ = way_tests second f v (length lent.t) (length lent.work)

  abbrev later₃ : List Test
  later₃ = moments_tests f (length lent.moment) (length lent.work)

  abbrev later₄ : List Test
  later₄ = norms_tests f (length lent.norm)

  abbrev W₁ : List ℕ
  W₁ = work₁ first second f u v lent

  abbrev W₂ : List ℕ
  W₂ = work₂ first second f u v lent

  s-is : s' ≡ after (verdict T₁ []) (expand f u) lent.s
  s-is = settles T₁ r₁ (expand f u) lent.s one.answer s' one.written

  first-worked : w₁ ≡ W₁
  first-worked = settles T₁ r₁ (work_left first lent.work) lent.work one.answer w₁ one.worked

  pub first-refused : (k : Refusal) → r₁ ≡ Err k
      → HandedOut first second f u v lent r₁ (lists s' lent.t lent.moment lent.norm w₁)
  first-refused k q =
      let e₂ = stage-refuses T₁ later₂ all-remain r₁ one.answer k q in
      let e₃ = stage-refuses T₂ later₃ all-remain r₁ e₂ k q in
      let e₄ = stage-refuses T₃ later₄ all-remain r₁ e₃ k q in
      record {
        answer = e₄;
        lists = record {
          s_is = s-is;
          t_is = stays T₂ r₁ (expand f v) lent.t e₂ k q;
          moments_are = stays T₃ r₁ (moments f) lent.moment e₃ k q;
          norms_are = stays T₄ r₁ (norms f) lent.norm e₄ k q;
          worked = first-worked ∙ stays T₂ r₁ (work_left second W₁) W₁ e₂ k q ∙ stays T₃ r₁ (cleared W₂) W₂ e₃ k q;
        };
      }

  module _ (q₁ : r₁ ≡ Ok tt) (r₂ : Answer) (t' w₂ : List ℕ) (two : Made expand second f v r₂ lent.t t' w₁ w₂) where
    length₁ : length w₁ ≡ length lent.work
    length₁ = ap length (one.worked ∙ ap (λ x. after (answered x) (work_left first lent.work) lent.work) q₁)
        ∙ work-length first f u r₁ (length lent.s) lent.work one.answer q₁

    e₂ : answered r₂ ≡ verdict T₂ []
    e₂ = stages-end later₂ (stage-passes T₁ later₂ all-remain r₁ one.answer q₁) r₂
        (two.answer ∙ ap (λ k. verdict (way_tests second f v (length lent.t) k) []) length₁)

    t-is : t' ≡ after (verdict T₂ []) (expand f v) lent.t
    t-is = settles T₂ r₂ (expand f v) lent.t e₂ t' two.written

    second-worked : w₂ ≡ W₂
    second-worked = settles T₂ r₂ (work_left second w₁) w₁ e₂ w₂ two.worked
        ∙ ap (λ w. after (verdict T₂ []) (work_left second w) w) first-worked

    pub second-refused : (k : Refusal) → r₂ ≡ Err k
        → HandedOut first second f u v lent r₂ (lists s' t' lent.moment lent.norm w₂)
    second-refused k q =
        let e₃ = stage-refuses T₂ later₃ all-remain r₂ e₂ k q in
        let e₄ = stage-refuses T₃ later₄ all-remain r₂ e₃ k q in
        record {
          answer = e₄;
          lists = record {
            s_is = s-is;
            t_is = t-is;
            moments_are = stays T₃ r₂ (moments f) lent.moment e₃ k q;
            norms_are = stays T₄ r₂ (norms f) lent.norm e₄ k q;
            worked = second-worked ∙ stays T₃ r₂ (cleared W₂) W₂ e₃ k q;
          };
        }

    module _ (q₂ : r₂ ≡ Ok tt) (r₃ : Answer) (moment' w₃ : List ℕ)
        (three : MomentsCall f (answered r₃) lent.moment moment' w₂ w₃) where
      length₂ : length w₂ ≡ length lent.work
      length₂ = ap length (two.worked ∙ ap (λ x. after (answered x) (work_left second w₁) w₁) q₂)
          ∙ work-length second f v r₂ (length lent.t) w₁ two.answer q₂ ∙ length₁

      e₃ : answered r₃ ≡ verdict T₃ []
      e₃ = stages-end later₃ (stage-passes T₂ later₃ all-remain r₂ e₂ q₂) r₃
          (three.answer ∙ ap (λ k. verdict (moments_tests f (length lent.moment) k) []) length₂)

      moments-are : moment' ≡ after (verdict T₃ []) (moments f) lent.moment
      moments-are = settles T₃ r₃ (moments f) lent.moment e₃ moment' three.written

      third-worked : w₃ ≡ work₃ first second f u v lent
      third-worked = settles T₃ r₃ (cleared w₂) w₂ e₃ w₃ three.wiped ∙ ap (λ w. after (verdict T₃ []) (cleared w) w) second-worked

      pub third-refused : (k : Refusal) → r₃ ≡ Err k → HandedOut first second f u v lent r₃ (lists s' t' moment' lent.norm w₃)
      third-refused k q =
          let e₄ = stage-refuses T₃ later₄ all-remain r₃ e₃ k q in
          record {
            answer = e₄;
            lists = record {
              s_is = s-is;
              t_is = t-is;
              moments_are = moments-are;
              norms_are = stays T₄ r₃ (norms f) lent.norm e₄ k q;
              worked = third-worked;
            };
          }

      module _ (q₃ : r₃ ≡ Ok tt) (r₄ : Answer) (norm' : List ℕ) (four : NormsCall f (answered r₄) lent.norm norm') where
        pub all-handed-out : HandedOut first second f u v lent r₄ (lists s' t' moment' norm' w₃)
        all-handed-out =
            let e₄ = stages-end later₄ (stage-passes T₃ later₄ all-remain r₃ e₃ q₃) r₄ four.answer in
            record {
              answer = e₄;
              lists = record {
                s_is = s-is;
                t_is = t-is;
                moments_are = moments-are;
                norms_are = settles T₄ r₄ (norms f) lent.norm e₄ norm' four.written;
                worked = third-worked;
              };
            }
