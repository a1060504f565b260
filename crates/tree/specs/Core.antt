-- Expand and Adjoint by the tree, from the lent lists to the answer.
--   stored_tree f        the least subproduct tree that covers the family, as it is stored
--   expand_vectors f u   the pair of the root to which Expand has climbed
--   adjoint_vectors f u  the pair of the root from which Adjoint descends, and behind it the entries to which it has come
--   Stands w at xs       the list xs stands in w from place at on
--   TreeOutput           what they leave before the working list is cleared: the answer in the output, and in the working list the tree from
--                        place 0 on and the way's vectors from place 9,212 on
-- Proved: with one entry the answer is its remainder (alone-output); TreeOutput, with the working list wiped, is the Output of the answer
-- (wiped-output). The steps from the lent lists to the answer stand in Core of proofs/. Assumes nothing.
use Rattle.std.specs.Prelude.{◌≡◌, List, [], ◌∷◌, ◌++◌, ℕ, ◌%◌, ◌≤◌, length, get_or, set, replicate}
use Rattle.std.proofs.Math.Path.{sym, ap, ap₂}
use Rattle.std.proofs.Common.{◌∙◌, arith}
use Rattle.std.proofs.Math.ListN.{take, drop}
use Rattle.std.proofs.Math.Seq.{get_or-take}
use Rattle.std.proofs.lemmas.List.{set_split}
use Rattle.definitions.specs.Answers.{cleared}
use Rattle.definitions.specs.Family.{Family, size}
use Rattle.definitions.specs.Refusals.{work_length}
use Rattle.lists.specs.Held.{Output}
use Rattle.numbers.specs.Regions.{part, KeptOutside}
use Rattle.numbers.specs.Regions.{kept-drop}
use Rattle.tree_model.specs.Level.{level_for}
use Rattle.tree_model.specs.Tree.{padded, up, down, root_pair}
use Rattle.subproduct.specs.Layout.{tree_list, pair_list}

unfoldable pub stored_tree : Family → List ℕ
stored_tree f = tree_list (padded f) (level_for (size f)) 0

unfoldable pub expand_vectors : Family → List ℕ → List ℕ
expand_vectors f u = pair_list (up (padded f) u (level_for (size f)) 0)

unfoldable pub adjoint_vectors : Family → List ℕ → List ℕ
adjoint_vectors f u =
    let pair = root_pair (padded f) (level_for (size f)) u in
    pair_list pair ++ down (padded f) (level_for (size f)) 0 pair

abbrev pub Stands : List ℕ → ℕ → List ℕ → Type 0
Stands w at xs = part w at (length xs) ≡ xs

-- answer and vectors: of the family f and the curve u
pub record TreeOutput (answer vectors : Family → List ℕ → List ℕ) (f : Family) (u : List ℕ) (n : ℕ)
    (output output' work work' : List ℕ) : Type 0 where
  pub written : output' ≡ answer f u ++ drop n output
  pub tree_stands : Stands work' 0 (stored_tree f)
  pub vectors_stand : Stands work' 9212 (vectors f u)
  pub kept : KeptOutside 0 work_length work work'

-- with one entry u_0 the answer is its remainder, by F_0 alone
pub alone-output : (m : ℕ) (u : List ℕ) {n : ℕ} {result output output' work work' : List ℕ} → n ≡ 1 → n ≤ length output
    → result ≡ get_or (take n u) 0 0 % m ∷ [] → output' ≡ set output 0 (get_or u 0 0 % m) → work' ≡ cleared work
    → Output result n output output' work work'
alone-output m u {n} {result} {output} e room r g w = record {
  written = g ∙ set_split output 0 (get_or u 0 0 % m) (omega arith)
      ∙ ap₂ (λ x k. x % m ∷ drop k output) (sym (get_or-take n u 0 0 (omega arith))) (sym e) ∙ ap (λ t. t ++ drop n output) (sym r);
  wiped = w;
}

-- ---- the working list wiped
pub wiped-output : {answer vectors : Family → List ℕ → List ℕ} {f : Family} {u : List ℕ} {n : ℕ} {output output' work work' work'' : List ℕ}
    → TreeOutput answer vectors f u n output output' work work' → work'' ≡ cleared work' → Output (answer f u) n output output' work work''
unfolding cleared
wiped-output {work = work} {work' = work'} t e = record {
  written = t.written;
  wiped = e ∙ ap (λ d. replicate work_length 0 ++ d) (kept-drop 0 work_length work work' t.kept work_length (omega arith));
}
