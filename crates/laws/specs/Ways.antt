-- The two ways of a conversion over the lists that the calls hand out.
-- Proved: two calls, each with its own promise, come to Agreed, whichever refuses. Assumes nothing.
use Rattle.std.specs.Prelude.{◌≡◌, List, [], ◌++◌, ℕ, length, Ok, Err}
use Rattle.std.proofs.Common.{sym, ◌∙◌, ap}
use Rattle.definitions.specs.Answers.{Answer, answered, after, cleared, PlainCall, TreeCall}
use Rattle.definitions.specs.Family.{Family}
use Rattle.definitions.specs.Refusals.{Test, finished, verdict, plain_tests, tree_tests}
use Rattle.acceptance.specs.Verdicts.{None, verdict-finished, none-append}
use Rattle.laws.specs.ByWay.{two-calls-pass}
use Rattle.acceptance.specs.Stages.{all-remain, stage-refuses, stage-passes, stages-end, list-new}
use Rattle.laws.specs.Laws.{TwoCallsInput, WaysAgree, Agreed}
use Rattle.laws.specs.declared.Way.{Way}
use Rattle.definitions.specs.declared.Refusal.{Refusal}

module _ (convert : Family → List ℕ → List ℕ) (f : Family) (u plain plain' tree work : List ℕ) (s : Answer)
    (one : PlainCall convert f u (answered s) plain plain') where
  abbrev first : List Test
  first = plain_tests f u (length plain)

  abbrev later : List Test
  later = tree_tests f u (length tree) (length work)

  plain-is : plain' ≡ after (verdict first []) (convert f u) plain
  plain-is = one.written ∙ ap (λ v. after v (convert f u) plain) one.answer

  agree : (r : Answer) (tree' : List ℕ) → answered r ≡ verdict (first ++ later) [] → tree' ≡ after (answered r) (convert f u) tree
      → TwoCallsInput f u plain tree work → WaysAgree convert f u r plain' tree'
  agree r tree' e w input =
      let none : None first × None later = two-calls-pass Way.Plain Way.Tree f u u plain tree work input input.curve in
      let done : answered r ≡ finished [] = e ∙ (verdict-finished (first ++ later) []).1 ((none-append first later).1 none) in
      let new : plain' ≡ convert f u = plain-is ∙ list-new first none.0 (convert f u) plain in
      record { finishes = done; plain_is = new; law = w ∙ ap (λ v. after v (convert f u) tree) done ∙ sym new }

  pub ways-agree : s ≡ Ok tt → (r : Answer) (tree' work' : List ℕ) → TreeCall convert f u (answered r) tree tree' work work'
      → Agreed convert f u r plain plain' tree tree' work work'
  ways-agree q r tree' work' two =
      let e = stages-end later (stage-passes first later all-remain s one.answer q) r two.answer in
      record { answer = e; plain_is = plain-is; tree_is = two.written; wiped = two.wiped; holds = agree r tree' e two.written }

  pub plain-refused : (k : Refusal) → s ≡ Err k → Agreed convert f u s plain plain' tree tree work work
  plain-refused k q =
      let e = stage-refuses first later all-remain s one.answer k q in
      let stays = sym (ap (λ x. after (answered x) (convert f u) tree) q) in
      record {
        answer = e;
        plain_is = plain-is;
        tree_is = stays;
        wiped = sym (ap (λ x. after (answered x) (cleared work) work) q);
        holds = agree s tree e stays;
      }
