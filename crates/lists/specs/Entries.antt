-- Entries of lists, and zeros written from the front.
-- Proved: an entry of the first count ones is the list's, and from count on the closing row's; a working list whose first 16,384 places
-- are filled with zeros is cleared, and a cleared list is as long as before and stays when it is cleared again. Assumes nothing.
use Rattle.std.specs.Prelude.{◌≡◌, refl, List, ◌∷◌, ◌++◌, ℕ, zero, suc, ◌≤◌, ◌<◌, length, get_or, take, drop, replicate}
use Rattle.std.proofs.Common.{sym, ◌∙◌, ap, arith, length-append, length-drop, length-take-le, get_or-take}
use Rattle.std.proofs.lemmas.List.{length-replicate}
use Rattle.std.proofs.Math.ListN.{get_or-eq_default}
use Rattle.std.proofs.Math.Seq.{drop-append_seam}
use Rattle.definitions.specs.Answers.{cleared}
use Rattle.definitions.specs.Number.{table}
use Rattle.definitions.specs.Refusals.{work_length}
use Rattle.numbers.specs.Lists.{get_or-default, filled}

-- an entry of a row: of the list, or from count on of the closing row
module _ (count : ℕ) (list : List ℕ) (long : count ≤ length list) (i close : ℕ) where
  pub entry-inside : i < count → get_or list i 0 ≡ get_or (take count list) i close
  entry-inside h = get_or-default list i 0 close (omega arith) ∙ sym (get_or-take count list i close h)

  pub entry_past : count ≤ i → close ≡ get_or (take count list) i close
  entry_past h = sym (get_or-eq_default (take count list) close (rw (length-take-le count list long) h))

zeros-table : (n : ℕ) → table n (λ _. 0) ≡ replicate n 0
unfolding table
zeros-table zero = refl
zeros-table (suc n) = ap (λ t. 0 ∷ t) (zeros-table n)

pub filled-cleared : (work : List ℕ) → filled (λ _. 0) work_length work ≡ cleared work
unfolding filled cleared
filled-cleared work = ap (λ t. t ++ drop work_length work) (zeros-table work_length)

-- k zeros in the place of the first k entries
module _ (k : ℕ) (w : List ℕ) where
  zeros-length : k ≤ length w → length (replicate k 0 ++ drop k w) ≡ length w
  zeros-length h = length-append (replicate k 0) (drop k w) ∙ omega (arith, length-replicate {A = ℕ} k 0, length-drop k w)

  zeros-again : replicate k 0 ++ drop k (replicate k 0 ++ drop k w) ≡ replicate k 0 ++ drop k w
  zeros-again = ap (λ t. replicate k 0 ++ t)
      (ap (λ j. drop j (replicate k 0 ++ drop k w)) (sym (length-replicate {A = ℕ} k 0)) ∙ drop-append_seam (replicate k 0) (drop k w))

pub cleared-length : (work : List ℕ) → work_length ≤ length work → length (cleared work) ≡ length work
unfolding cleared
cleared-length = zeros-length work_length

pub cleared-twice : (work : List ℕ) → cleared (cleared work) ≡ cleared work
unfolding cleared
cleared-twice = zeros-again work_length
