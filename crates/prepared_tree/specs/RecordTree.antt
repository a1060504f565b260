-- An operation on a record by the tree way, and Moments, from the verdict of its tests.
-- Proved: where they pass, what the core is lent is the record that it asks for (tree-core, decompose-core, moments-core), and so the record's own
-- rows can be lent to it, the stored inverses beside them; with what it leaves the promise is kept: for Expand and Adjoint, also by the tree's
-- model, for Decompose and for Moments. Assumes nothing.
use Rattle.std.specs.Prelude.{◌≡◌, refl, List, [], ℕ, ◌+◌, ◌*◌, ◌-◌, length, take, Ok}
use Rattle.std.proofs.Common.{sym, ◌∙◌, ap, subst, arith}
use Rattle.definitions.specs.Answers.{Answer, answered}
use Rattle.definitions.specs.Conversion.{expand, adjoint, decompose}
use Rattle.definitions.specs.Family.{Family, ones, rows, size}
use Rattle.definitions.specs.Orthogonality.{moments}
use Rattle.definitions.specs.Prepared.{Prepared, Right, own_rows}
use Rattle.definitions.specs.PreparedCalls.{prepared_tree_tests, prepared_moments_tests, PreparedTreeCall, PreparedMomentsCall}
use Rattle.definitions.specs.Refusals.{verdict}
use Rattle.acceptance.specs.Acceptance.{TreeInput, MomentsInput}
use Rattle.acceptance.specs.Promises.{both-made}
use Rattle.acceptance.specs.Stages.{stage-none}
use Rattle.lists.specs.Held.{Holds, Output}
use Rattle.lists.specs.Inverses.{Inverts}
use Rattle.lists.specs.Lending.{Lending}
use Rattle.lists.specs.Lent.{lent}
use Rattle.lists.specs.Whole.{output-whole}
use Rattle.moment_way.specs.Input.{ClosedBy, MomentsCoreInput, DecomposeInput, accepted-moments, accepted-decompose}
use Rattle.moment_way.specs.Input.{closed-lending, moments-closed, decompose-closed, decompose-inverts}
use Rattle.prepared_model.specs.Accepting.{prepared-tree-passes, prepared-moments-passes}
use Rattle.prepared_model.specs.Lending.{right-size, right-lent, right-curve, right-converts, right-inverts-a, right-inverts-c}
use Rattle.prepared_model.specs.Rightness.{right-long}
use Rattle.tree.specs.Input.{Input, accepted-input, input-lending, input-asked}
use Rattle.tree_model.specs.Tree.{tree_expand, tree_adjoint}
use Rattle.tree_model.proofs.TreeAdjoint.{tree-adjoint-accepted}
use Rattle.tree_model.proofs.TreeExpand.{tree-expand-accepted}

-- ---- the conversions
module _ (p : Prepared) (u output work : List ℕ) {r : Answer}
    (is : answered r ≡ verdict (prepared_tree_tests p u (length output) (length work)) []) (q : r ≡ Ok tt) where
  accepted : Right p × TreeInput (own_rows p) u (length output) (length work)
  accepted =
      (prepared-tree-passes p u (length output) (length work)).0
      (stage-none (prepared_tree_tests p u (length output) (length work)) r is q)

  right : Right p
  right = accepted.0

  input : TreeInput (own_rows p) u (length output) (length work)
  input = accepted.1

  pub record-right : Right p
  record-right = right

  pub tree-core : Input p.modulus p.a p.b p.c u (p.rows + 1) output work
  tree-core =
      accepted-input (right-long right) right.accepted (right-curve right input.plain.curve)
      (omega (arith, right-size right, input.plain.output_length)) input.work_long

  -- the record's own rows, as the cores are lent them
  pub core-lending : Lending (own_rows p)
  core-lending = subst Lending (right-lent right) (input-lending tree-core)

  pub core-asked : Input p.modulus (take p.rows p.a) (take p.rows p.b) (take p.rows p.c) u (size (own_rows p)) output work
  core-asked = subst (λ f. Input f.m f.a f.b f.c u (size f) output work) (right-lent right) (input-asked tree-core)

  pub decompose-core : DecomposeInput p.modulus p.a p.b p.c p.a_inverses p.c_inverses ones 1 1 u (p.rows + 1) output work
  decompose-core =
      accepted-decompose (right-long right) right.accepted (right-inverts-a right) (right-inverts-c right)
      (right-curve right input.plain.curve) (omega (arith, right-size right, input.plain.output_length)) input.work_long

  -- what is lent beside the record's own rows
  pub decompose-beside : Inverts p.modulus 0 (rows (own_rows p)) (take p.rows p.a) p.a_inverses 1 1
  decompose-beside = (subst (λ f. ClosedBy f ones p.a_inverses 1) (right-lent right) (decompose-closed decompose-core)).a_inverts

  pub decompose-beside-c : Inverts p.modulus 1 (rows (own_rows p)) (take p.rows p.c) p.c_inverses 1 1
  decompose-beside-c = subst (λ f. Inverts f.m 1 (rows f) f.c p.c_inverses 1 1) (right-lent right) (decompose-inverts decompose-core)

  pub decompose-curve : Holds p.modulus (size (own_rows p)) u
  decompose-curve = subst (λ n. Holds p.modulus n u) (right-size right) decompose-core.coefficients_hold

  -- way: what the core computes, which on this input is what is asked for
  tree-made : (way convert : Family → List ℕ → List ℕ) → way (own_rows p) u ≡ convert (own_rows p) u → {output' work' : List ℕ}
      → Output (way (lent p.modulus (p.rows + 1 - 1) p.a p.b p.c ones) (take (p.rows + 1) u)) (p.rows + 1)
      output output' work work'
      → PreparedTreeCall convert p u (answered (Ok tt)) output output' work work'
  tree-made way convert same left =
      both-made is q (output-whole left (input.plain.output_length ∙ sym (right-size right))
      (right-converts right input.plain.curve way ∙ same)) left.wiped

  -- a core's list of the record's own rows is that of the lent rows
  pub core-left : (convert : Family → List ℕ → List ℕ) {output' work' : List ℕ}
      → Output (convert (own_rows p) (take (size (own_rows p)) u)) (size (own_rows p)) output output' work work'
      → Output (convert (lent p.modulus (p.rows + 1 - 1) p.a p.b p.c ones) (take (p.rows + 1) u)) (p.rows + 1) output output' work work'
  core-left convert left = rw (right-lent right, right-size right) left

  pub core-made : (convert : Family → List ℕ → List ℕ) {output' work' : List ℕ}
      → Output (convert (own_rows p) (take (size (own_rows p)) u)) (size (own_rows p)) output output' work work'
      → PreparedTreeCall convert p u (answered (Ok tt)) output output' work work'
  core-made convert left = tree-made convert convert refl (core-left convert left)

  pub expand-made : {output' work' : List ℕ}
      → Output (tree_expand (lent p.modulus (p.rows + 1 - 1) p.a p.b p.c ones) (take (p.rows + 1) u)) (p.rows + 1)
      output output' work work'
      → PreparedTreeCall expand p u (answered (Ok tt)) output output' work work'
  expand-made = tree-made tree_expand expand (tree-expand-accepted (own_rows p) right.accepted u input.plain.curve)

  pub adjoint-made : {output' work' : List ℕ}
      → Output (tree_adjoint (lent p.modulus (p.rows + 1 - 1) p.a p.b p.c ones) (take (p.rows + 1) u)) (p.rows + 1)
      output output' work work'
      → PreparedTreeCall adjoint p u (answered (Ok tt)) output output' work work'
  adjoint-made = tree-made tree_adjoint adjoint (tree-adjoint-accepted (own_rows p) right.accepted u input.plain.curve)

  pub decompose-made : {output' work' : List ℕ}
      → Output (decompose (lent p.modulus (p.rows + 1 - 1) p.a p.b p.c ones) (take (p.rows + 1) u)) (p.rows + 1)
      output output' work work'
      → PreparedTreeCall decompose p u (answered (Ok tt)) output output' work work'
  decompose-made = tree-made decompose decompose refl

-- ---- the moments
module _ (p : Prepared) (output work : List ℕ) {r : Answer}
    (is : answered r ≡ verdict (prepared_moments_tests p (length output) (length work)) []) (q : r ≡ Ok tt) where
  asked : Right p × MomentsInput (own_rows p) (length output) (length work)
  asked =
      (prepared-moments-passes p (length output) (length work)).0
      (stage-none (prepared_moments_tests p (length output) (length work)) r is q)

  pub moments-right : Right p
  moments-right = asked.0

  pub moments-core : MomentsCoreInput p.modulus p.a p.b p.c p.a_inverses ones 1 (p.rows + 1) output work
  moments-core =
      let own = asked.0 in
      accepted-moments (right-long own) own.accepted (right-inverts-a own) (omega (arith, right-size own, asked.1.output_length))
      asked.1.work_long

  pub moments-made : {output' work' : List ℕ}
      → Output (moments (lent p.modulus (p.rows + 1 - 1) p.a p.b p.c ones)) (2 * (p.rows + 1) - 1) output output' work work'
      → PreparedMomentsCall p (answered (Ok tt)) output output' work work'
  moments-made left =
      both-made is q (output-whole left (omega (arith, right-size asked.0, asked.1.output_length)) (ap moments (right-lent asked.0)))
      left.wiped

  -- the record's own rows, as the core is lent them, and what it leaves of them
  pub moments-lending : Lending (own_rows p)
  moments-lending = subst Lending (right-lent asked.0) (closed-lending moments-core.closed)

  pub moments-beside : Inverts p.modulus 0 (rows (own_rows p)) (take p.rows p.a) p.a_inverses 1 1
  moments-beside = (subst (λ f. ClosedBy f ones p.a_inverses 1) (right-lent asked.0) (moments-closed moments-core)).a_inverts

  pub moments-left : {output' work' : List ℕ}
      → Output (moments (own_rows p)) (2 * size (own_rows p) - 1) output output' work work'
      → Output (moments (lent p.modulus (p.rows + 1 - 1) p.a p.b p.c ones)) (2 * (p.rows + 1) - 1) output output' work work'
  moments-left left = rw (right-lent asked.0, right-size asked.0) left
