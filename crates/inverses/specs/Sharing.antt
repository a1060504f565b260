-- One inverse shared among the entries of a list, the last entry first.
--   Sharable m list n y output          the first n places of the output hold the running products, and y is the inverse of that of all n
--   Sharing m v n old output i y        the same for the first i places, and from i to n the inverses of the entries stand
-- Proved: how the loop begins, goes on and ends; filling a filled list again. Assumes nothing.
use Rattle.std.specs.Prelude.{List, ◌++◌, ◌≡◌, refl, ℕ, suc, ◌*◌, ◌-◌, ◌%◌, ◌<◌, ◌≤◌, length, get_or, drop, set}
use Rattle.std.proofs.Common.{⊎_elim, sym, ◌∙◌, ap, eq-or-lt_of_le, arith, length-set, drop_at, ext_get_or, get_or-set_same}
use Rattle.std.proofs.Common.{get_or-set_other}
use Rattle.std.proofs.Math.Decide.{dec_lt}
use Rattle.definitions.specs.Number.{HasInverse, inverse, table}
use Rattle.numbers.specs.Lists.{table-length, filled, filled-length, filled-below, filled-from}
use Rattle.numbers.specs.RunningProduct.{running_product, running-factors, last-inverse, earlier-inverse}
use Rattle.residue.specs.Inversion.{IsInverse, found-has}

pub record Sharing (m : ℕ) (v : ℕ → ℕ) (n : ℕ) (old output : List ℕ) (i y : ℕ) : Type 0 where
  pub within : i ≤ n
  pub long : length output ≡ length old
  pub has : HasInverse m (running_product m v i)
  pub is : y ≡ inverse m (running_product m v i)
  pub before : (k : ℕ) → k < i → get_or output k 0 ≡ running_product m v k
  pub done : (k : ℕ) → i ≤ k → k < n → get_or output k 0 ≡ inverse m (v k)
  pub rest : (k : ℕ) → n ≤ k → get_or output k 0 ≡ get_or old k 0

pub record Sharable (m : ℕ) (list : List ℕ) (n y : ℕ) (output : List ℕ) : Type 0 where
  pub modulus : 1 < m
  pub entries : n ≤ length list
  pub room : n ≤ length output
  pub has : HasInverse m (running_product m (λ i. get_or list i 0) n)
  pub is : y ≡ inverse m (running_product m (λ i. get_or list i 0) n)
  pub before : (k : ℕ) → k < n → get_or output k 0 ≡ running_product m (λ i. get_or list i 0) k

pub sharing-starts : (m : ℕ) (list : List ℕ) (n y : ℕ) (output : List ℕ) → Sharable m list n y output
    → Sharing m (λ i. get_or list i 0) n output output n y
sharing-starts m list n y output s = record {
  within = omega arith;
  long = refl;
  has = s.has;
  is = s.is;
  before = s.before;
  done = λ k h l. absurd (omega arith);
  rest = λ k h. refl;
}

module _ (m : ℕ) (v : ℕ → ℕ) (n : ℕ) (old output : List ℕ) (one : 1 < m) (room : n ≤ length old) where
  sharing-before : (k y : ℕ) → Sharing m v n old output (suc k) y → (x z : ℕ) → x ≡ y * get_or output k 0 % m → z ≡ y * v k % m
      → Sharing m v n old (set output k x) k z
  sharing-before k y s x z x_is z_is =
      let inside : k < length output = omega (arith, s.within, s.long) in
      let here : x ≡ inverse m (v k) = x_is ∙ rw (s.is, s.before k (omega arith)) (last-inverse m v one k s.has) in
      record {
        within = omega (arith, s.within);
        long = length-set output k x ∙ s.long;
        has = (running-factors m v k s.has).0;
        is = z_is ∙ rw s.is (earlier-inverse m v one k s.has);
        before = λ j l. get_or-set_other output k j x 0 (λ e. omega arith) ∙ s.before j (omega arith);
        done = λ j h l. ⊎_elim
            (λ (same : k ≡ j). rw (← same) (get_or-set_same output k x 0 inside ∙ here))
            (λ (more : k < j). get_or-set_other output k j x 0 (λ e. omega arith) ∙ s.done j more l)
            (eq-or-lt_of_le {n = k} {m = j} h);
        rest = λ j h. get_or-set_other output k j x 0 (λ e. omega (arith, s.within)) ∙ s.rest j h;
      }

  pub sharing-next : (i y : ℕ) → 0 < i → Sharing m v n old output i y
      → (x z : ℕ) → x ≡ y * get_or output (i - 1) 0 % m → z ≡ y * v (i - 1) % m
      → Sharing m v n old (set output (i - 1) x) (i - 1) z
  sharing-next i y h s = let same : suc (i - 1) ≡ i = omega arith in sharing-before (i - 1) y (rw same s)

  pub sharing-ends : (i y : ℕ) → i ≤ 0 → Sharing m v n old output i y → output ≡ filled (λ k. inverse m (v k)) n old
  sharing-ends i y z s =
      ext_get_or 0 output (filled (λ k. inverse m (v k)) n old) (s.long ∙ sym (filled-length (λ k. inverse m (v k)) old n room)) entry
    where
      entry : (k : ℕ) → k < length output → get_or output k 0 ≡ get_or (filled (λ j. inverse m (v j)) n old) k 0
      entry k l = at (dec_lt k n)
        where
          at : Dec (k < n) → get_or output k 0 ≡ get_or (filled (λ j. inverse m (v j)) n old) k 0
          at (yes h) = s.done k (omega arith) h ∙ sym (filled-below (λ j. inverse m (v j)) old n k 0 h)
          at (no h) = s.rest k (omega arith) ∙ sym (filled-from (λ j. inverse m (v j)) old n k 0 (omega arith))

-- ---- the two passes one after the other
pub filled-again : (f g : ℕ → ℕ) (n : ℕ) (old output : List ℕ) → output ≡ filled g n old → filled f n output ≡ filled f n old
unfolding filled
filled-again f g n old output e = ap (λ list. table n f ++ list) (ap (drop n) e ∙ drop_at (table n g) (drop n old) n (table-length n g))

pub sharable : (m : ℕ) (list : List ℕ) (n : ℕ) (old output : List ℕ) → 1 < m → n ≤ length list → n ≤ length old
    → output ≡ filled (running_product m (λ i. get_or list i 0)) n old
    → (whole y : ℕ) → whole ≡ running_product m (λ i. get_or list i 0) n → IsInverse m whole y → Sharable m list n y output
sharable m list n old output one entries room e whole y is found =
    let R = running_product m (λ i. get_or list i 0) in
    record {
      modulus = one;
      entries = entries;
      room = rw e (rw (filled-length R old n room) room);
      has = rw (← is) (found-has m whole y found);
      is = found.value ∙ ap (inverse m) is;
      before = λ k l. rw e (filled-below R old n k 0 l);
    }
