-- A call on a curve by the tree way.
-- Proved: from the verdict of the tests to what the tree's cores are handed: the family (core-lending), the record of its lent lists (core-input)
-- and from it what they ask of the family (core-asked). From the list that a core leaves to the definition's: where it is computed in a way of
-- its own (tree-made), as by the tree's model (expand-is, adjoint-is), and where it is the definition's (core-made). Assumes nothing.
use Rattle.std.specs.Prelude.{◌≡◌, refl, List, [], ℕ, suc, ◌+◌, ◌-◌, length, take, Ok}
use Rattle.std.proofs.Common.{◌∙◌, sym, ap₂, subst, arith, take_all}
use Rattle.definitions.specs.Answers.{Answer, answered, TreeCall}
use Rattle.definitions.specs.Conversion.{expand, adjoint}
use Rattle.definitions.specs.Family.{Family, family, ones, size}
use Rattle.definitions.specs.Refusals.{verdict, tree_tests}
use Rattle.acceptance.specs.Acceptance.{TreeInput, tree-passes}
use Rattle.acceptance.specs.Promises.{both-made}
use Rattle.acceptance.specs.Stages.{stage-none}
use Rattle.lists.specs.Held.{Output}
use Rattle.lists.specs.Lending.{Lending, accepted-lending}
use Rattle.lists.specs.Lent.{lent}
use Rattle.tree_model.specs.Tree.{tree_expand, tree_adjoint}
use Rattle.tree_model.proofs.TreeExpand.{tree-expand-accepted}
use Rattle.tree_model.proofs.TreeAdjoint.{tree-adjoint-accepted}
use Rattle.tree.specs.Input.{Input, accepted-input, input-asked}
use Rattle.lists.specs.Whole.{accepted-long, accepted-lent, lent-family, curve-held, output-whole}

pub tree-input : {f : Family} {u : List ℕ} {output work : ℕ} {r : Answer} → answered r ≡ verdict (tree_tests f u output work) []
    → r ≡ Ok tt → TreeInput f u output work
tree-input {f} {u} {output} {work} {r} e q = (tree-passes f u output work).0 (stage-none (tree_tests f u output work) r e q)

module _ {m : ℕ} {a b c u output work : List ℕ} (input : TreeInput (family m a b c) u (length output) (length work)) where
  pub core-input : Input m a b c u (length a + 1) output work
  core-input =
      accepted-input (accepted-long input.plain.accepted) (accepted-lent input.plain.accepted) (curve-held input.plain.curve)
      (omega (arith, input.plain.output_length)) input.work_long

  pub core-asked : Input m a b c u (size (family m a b c)) output work
  core-asked = subst (λ f. Input f.m f.a f.b f.c u (size f) output work) (lent-family input.plain.accepted) (input-asked core-input)

  -- way: what the core computes, which on this input is what is asked for
  pub tree-made : (way convert : Family → List ℕ → List ℕ) → way (family m a b c) u ≡ convert (family m a b c) u
      → {r : Answer} {output' work' : List ℕ}
      → answered r ≡ verdict (tree_tests (family m a b c) u (length output) (length work)) [] → r ≡ Ok tt
      → Output (way (lent m (length a + 1 - 1) a b c ones) (take (length a + 1) u)) (length a + 1) output output' work work'
      → TreeCall convert (family m a b c) u (answered (Ok tt)) output output' work work'
  tree-made way convert same e q left =
      let long : length u ≡ suc (length a) = input.plain.curve.long in
      both-made e q (output-whole left (omega (arith, input.plain.output_length))
      (ap₂ way (lent-family input.plain.accepted) (take_all (length a + 1) u (omega arith)) ∙ same)) left.wiped

  pub core-made : (convert : Family → List ℕ → List ℕ) {r : Answer} {output' work' : List ℕ}
      → answered r ≡ verdict (tree_tests (family m a b c) u (length output) (length work)) [] → r ≡ Ok tt
      → Output (convert (family m a b c) (take (size (family m a b c)) u)) (size (family m a b c)) output output' work work'
      → TreeCall convert (family m a b c) u (answered (Ok tt)) output output' work work'
  core-made convert {output' = output'} {work' = work'} e q left =
      let count : size (family m a b c) ≡ length a + 1 = omega arith in
      tree-made convert convert refl e q
      (subst (λ n. Output (convert (lent m (length a + 1 - 1) a b c ones) (take n u)) n output output' work work') count
      (subst (λ f. Output (convert f (take (size (family m a b c)) u)) (size (family m a b c)) output output' work work')
      (sym (lent-family input.plain.accepted)) left))

pub core-lending : {m : ℕ} {a b c u : List ℕ} {output work : ℕ} → TreeInput (family m a b c) u output work → Lending (family m a b c)
core-lending input = accepted-lending input.plain.accepted

module _ {f : Family} {u : List ℕ} {output work : ℕ} (input : TreeInput f u output work) where
  pub expand-is : tree_expand f u ≡ expand f u
  expand-is = tree-expand-accepted f input.plain.accepted u input.plain.curve

  pub adjoint-is : tree_adjoint f u ≡ adjoint f u
  adjoint-is = tree-adjoint-accepted f input.plain.accepted u input.plain.curve
