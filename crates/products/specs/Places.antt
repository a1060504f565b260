-- Products of parts of a working list, written to another part of it.
--   Source m w at n         the n numbers of w from place at on are residues modulo m
--   Aside m w lo hi at n    the same, and they lie apart from the places lo to hi - 1
--   SourceInput             of one coefficient of a sum of two products of parts
--   CoefficientInput        the same where k does not lie past both products
--   slice w at n            the n numbers that are lent by a slice from place at on
--   Used w p r pn n         the first n of the pn numbers from p on and from r on have the entries of all: the rest are zeros
--   UsedLength w p r pn n   the same of the least n: the last of these numbers are not both zero
--   ProductPlaces           of a loop that writes n of them;  product_entry  what it writes at k
--   TermInput, TransposedPlaces, transposed_entry  the same of transposed products
-- Proved: what lies apart from the target is read as it was, so that each step is handed what it requires; what a slice lends is the
-- part; zeros at the end of both factors change nothing; how the loops go on and end.
-- Assumes nothing.
use Rattle.std.specs.Prelude.{◌≡◌, refl, List, ℕ, ◌+◌, ◌-◌, ◌%◌, ◌≤◌, ◌<◌, length, take, drop, set}
use Rattle.std.proofs.Common.{sym, ◌∙◌, inl, inr, add-zero, mod-eq_of_lt, arith}
use Rattle.std.proofs.Math.Path.{ap, ap₂}
use Rattle.std.proofs.Math.Decide.{dec_lt, ℕ_discrete}
use Rattle.std.proofs.Math.ListN.{get_or}
use Rattle.definitions.specs.Family.{greatest_modulus}
use Rattle.numbers.specs.Regions.{part, written, Apart, ResiduesIn, KeptOutside, part_length, part-entry, part-past, part_slice}
use Rattle.numbers.specs.Regions.{part-below, kept-part, kept-residues, Writing, writing-kept, writing-next, writing-ends}
use Rattle.numbers.specs.Products.{Below, product_at, plus_products, transposed_at, transposed_sum}
use Rattle.convolution.specs.Coefficients.{ProductsInput, product-past, product-entries}
use Rattle.convolution.specs.Terms.{TransposedInput, transposed-entries}

pub record Source (m : ℕ) (w : List ℕ) (at n : ℕ) : Type 0 where
  pub inside : at + n ≤ length w
  pub below : ResiduesIn m w at (at + n)

pub record Aside (m : ℕ) (w : List ℕ) (lo hi at n : ℕ) : Type 0 where
  pub source : Source m w at n
  pub apart : Apart lo hi at n

pub record SourceInput (m : ℕ) (w : List ℕ) (start p r pn q s qn : ℕ) : Type 0 where
  pub most : m ≤ greatest_modulus
  pub start_below : start < m
  pub p_source : Source m w p pn
  pub r_source : Source m w r pn
  pub q_source : Source m w q qn
  pub s_source : Source m w s qn

pub record CoefficientInput (m : ℕ) (w : List ℕ) (start p r pn q s qn k : ℕ) : Type 0 where
  pub sources : SourceInput m w start p r pn q s qn
  pub reached : k < pn + qn

-- the first n of the pn numbers from p on, and from r on, have the entries of all
pub record Used (w : List ℕ) (p r pn n : ℕ) : Type 0 where
  pub within : n ≤ pn
  pub p_same : (i : ℕ) → get_or (part w p n) i 0 ≡ get_or (part w p pn) i 0
  pub r_same : (i : ℕ) → get_or (part w r n) i 0 ≡ get_or (part w r pn) i 0

pub record UsedLength (w : List ℕ) (p r pn n : ℕ) : Type 0 where
  pub used : Used w p r pn n
  pub least : 0 < n → get_or (part w p pn) (n - 1) 0 ≡ 0 → get_or (part w r pn) (n - 1) 0 ≡ 0 → ⊥

pub record ProductPlaces (m : ℕ) (w : List ℕ) (target n t tn p r pn q s qn : ℕ) : Type 0 where
  pub least : 0 < m
  pub most : m ≤ greatest_modulus
  pub room : target + n ≤ length w
  pub reached : n ≤ pn + qn
  pub t_aside : Aside m w target (target + n) t tn
  pub p_aside : Aside m w target (target + n) p pn
  pub r_aside : Aside m w target (target + n) r pn
  pub q_aside : Aside m w target (target + n) q qn
  pub s_aside : Aside m w target (target + n) s qn

unfoldable pub product_entry : ℕ → List ℕ → ℕ → ℕ → ℕ → ℕ → ℕ → ℕ → ℕ → ℕ → ℕ → ℕ
product_entry m w t tn p r pn q s qn k =
    (get_or (part w t tn) k 0 + product_at (part w p pn) (part w q qn) k + product_at (part w r pn) (part w s qn) k) % m

pub record TermInput (m : ℕ) (w : List ℕ) (p q pn v u vn : ℕ) : Type 0 where
  pub least : 0 < m
  pub most : m ≤ greatest_modulus
  pub p_source : Source m w p pn
  pub q_source : Source m w q pn
  pub v_source : Source m w v vn
  pub u_source : Source m w u vn

pub record TransposedPlaces (m : ℕ) (w : List ℕ) (target n p q pn v u vn : ℕ) : Type 0 where
  pub least : 0 < m
  pub most : m ≤ greatest_modulus
  pub room : target + n ≤ length w
  pub p_aside : Aside m w target (target + n) p pn
  pub q_aside : Aside m w target (target + n) q pn
  pub v_aside : Aside m w target (target + n) v vn
  pub u_aside : Aside m w target (target + n) u vn

unfoldable pub transposed_entry : ℕ → List ℕ → ℕ → ℕ → ℕ → ℕ → ℕ → ℕ → ℕ → ℕ
transposed_entry m w p q pn v u vn i = (transposed_at (part w p pn) (part w v vn) i + transposed_at (part w q pn) (part w u vn) i) % m

-- ---- parts that lie apart from what is written
pub aside-within : (m : ℕ) (w : List ℕ) (lo hi at n lo' hi' at' n' : ℕ) → Aside m w lo hi at n
    → lo ≤ lo' → hi' ≤ hi → at ≤ at' → at' + n' ≤ at + n → Aside m w lo' hi' at' n'
aside-within m w lo hi at n lo' hi' at' n' h a b c d = record {
  source = record { inside = omega (arith, h.source.inside); below = λ i p q. h.source.below i (omega arith) (omega arith) };
  apart = narrower h.apart;
}
  where
    narrower : Apart lo hi at n → Apart lo' hi' at' n'
    narrower (inl p) = inl (omega arith)
    narrower (inr p) = inr (omega arith)

pub aside-kept : (m lo hi : ℕ) (w w' : List ℕ) (at n : ℕ) → KeptOutside lo hi w w' → Aside m w lo hi at n → Aside m w' lo hi at n
aside-kept m lo hi w w' at n k h = record {
  source = record {
    inside = omega (arith, h.source.inside, k.long);
    below = kept-residues lo hi w w' k m at n h.apart h.source.below;
  };
  apart = h.apart;
}

-- ---- one coefficient
-- what a slice lends is the part
abbrev pub slice : List ℕ → ℕ → ℕ → List ℕ
slice w at n = take (at + n - at) (drop at w)

module _ (m : ℕ) (w : List ℕ) (at n : ℕ) (h : Source m w at n) where
  pub slice-part : slice w at n ≡ part w at n
  slice-part =
      let e : at + n - at ≡ n = omega arith in
      ap (λ k. take k (drop at w)) e ∙ part_slice w at n h.inside

  pub slice-below : 0 < m → Below m (slice w at n)
  slice-below pos = rw slice-part (part-below m w at n pos h.below)

  pub slice-length : length (slice w at n) ≡ n
  slice-length = ap length slice-part ∙ part_length w at n

module _ (m : ℕ) (w : List ℕ) (start p r pn q s qn k : ℕ)
    (input : CoefficientInput m w start p r pn q s qn k) where
  open input.sources use {most, start_below, p_source, q_source, r_source, s_source}

  pub coefficient-input : ProductsInput m start (slice w p pn) (slice w q qn) (slice w r pn) (slice w s qn) k
  coefficient-input = record {
    most = most;
    start_below = start_below;
    p_below = slice-below m w p pn p_source pos;
    q_below = slice-below m w q qn q_source pos;
    r_below = slice-below m w r pn r_source pos;
    s_below = slice-below m w s qn s_source pos;
    r_long = slice-length m w r pn r_source ∙ sym (slice-length m w p pn p_source);
    s_long = slice-length m w s qn s_source ∙ sym (slice-length m w q qn q_source);
    reached = rw (slice-length m w p pn p_source, slice-length m w q qn q_source) input.reached;
  }
    where
      pos : 0 < m
      pos = omega (arith, start_below)

  pub coefficient-is : (v : ℕ) → v ≡ (start + product_at (slice w p pn) (slice w q qn) k + product_at (slice w r pn) (slice w s qn) k) % m
      → v ≡ (start + product_at (part w p pn) (part w q qn) k + product_at (part w r pn) (part w s qn) k) % m
  coefficient-is v e =
      e ∙ ap₂ (λ x y. (start + x + y) % m)
      (ap₂ (λ x y. product_at x y k) (slice-part m w p pn p_source) (slice-part m w q qn q_source))
      (ap₂ (λ x y. product_at x y k) (slice-part m w r pn r_source) (slice-part m w s qn s_source))

-- ---- past the end of both products
module _ (m : ℕ) (w : List ℕ) (start p r pn q s qn k : ℕ) (input : SourceInput m w start p r pn q s qn) where
  pub coefficient-there : k < pn + qn → CoefficientInput m w start p r pn q s qn k
  coefficient-there l = record { sources = input; reached = l }

  pub coefficient-past : pn + qn ≤ k
      → start ≡ (start + product_at (part w p pn) (part w q qn) k + product_at (part w r pn) (part w s qn) k) % m
  coefficient-past l =
      let none : (at at' : ℕ) → product_at (part w at pn) (part w at' qn) k ≡ 0 =
      λ at at'. product-past (part w at pn) (part w at' qn) k (rw (part_length w at pn, part_length w at' qn) l) in
      sym (ap₂ (λ x y. (start + x + y) % m) (none p q) (none r s)
      ∙ rw (add-zero (start + 0), add-zero start) (mod-eq_of_lt input.start_below))

-- ---- zeros at the end
used-more : (w : List ℕ) (at pn n : ℕ) → n < pn → get_or (part w at pn) n 0 ≡ 0
    → ((i : ℕ) → get_or (part w at (n + 1)) i 0 ≡ get_or (part w at pn) i 0)
    → (i : ℕ) → get_or (part w at n) i 0 ≡ get_or (part w at pn) i 0
used-more w at pn n l z same i = at_place (dec_lt i n)
  where
    at_place : Dec (i < n) → get_or (part w at n) i 0 ≡ get_or (part w at pn) i 0
    at_place (yes h) = part-entry w at n i h ∙ sym (part-entry w at (n + 1) i (omega arith)) ∙ same i
    at_place (no h) = part-past w at n i (omega arith) ∙ sym (here (ℕ_discrete i n))
      where
        here : Dec (i ≡ n) → get_or (part w at pn) i 0 ≡ 0
        here (yes e) = rw e z
        here (no e) = sym (same i) ∙ part-past w at (n + 1) i (omega arith)

pub used_all : (w : List ℕ) (p r pn : ℕ) → Used w p r pn pn
used_all w p r pn = record { within = omega arith; p_same = λ i. refl; r_same = λ i. refl }

pub used-none : {w : List ℕ} {p r pn n : ℕ} → n ≤ 0 → Used w p r pn n → UsedLength w p r pn n
used-none none u = record { used = u; least = λ some _ _. absurd (omega arith) }

pub used-less : (w : List ℕ) (p r pn n : ℕ) → 0 < n → Used w p r pn n → get_or (part w p pn) (n - 1) 0 ≡ 0 → get_or (part w r pn) (n - 1) 0 ≡ 0
    → Used w p r pn (n - 1)
used-less w p r pn n pos u zp zr =
    let e : n - 1 + 1 ≡ n = omega arith in
    record {
      within = omega (arith, u.within);
      p_same = used-more w p pn (n - 1) (omega (arith, u.within)) zp (rw e u.p_same);
      r_same = used-more w r pn (n - 1) (omega (arith, u.within)) zr (rw e u.r_same);
    }

-- ---- one term of a sum of two transposed products
module _ (m : ℕ) (w : List ℕ) (p q pn v u vn i : ℕ) (input : TermInput m w p q pn v u vn) where
  pub term-input : TransposedInput m (slice w p pn) (slice w v vn) (slice w q pn) (slice w u vn)
  term-input = record {
    most = input.most;
    p_below = slice-below m w p pn input.p_source pos;
    v_below = slice-below m w v vn input.v_source pos;
    q_below = slice-below m w q pn input.q_source pos;
    u_below = slice-below m w u vn input.u_source pos;
    q_long = slice-length m w q pn input.q_source ∙ sym (slice-length m w p pn input.p_source);
    u_long = slice-length m w u vn input.u_source ∙ sym (slice-length m w v vn input.v_source);
  }
    where
      pos : 0 < m
      pos = input.least

  pub term_is : (y : ℕ) → y ≡ (transposed_at (slice w p pn) (slice w v vn) i + transposed_at (slice w q pn) (slice w u vn) i) % m
      → y ≡ transposed_entry m w p q pn v u vn i
  unfolding transposed_entry
  term_is y e =
      e ∙ ap₂ (λ x y. (x + y) % m)
      (ap₂ (λ x y. transposed_at x y i) (slice-part m w p pn input.p_source) (slice-part m w v vn input.v_source))
      (ap₂ (λ x y. transposed_at x y i) (slice-part m w q pn input.q_source) (slice-part m w u vn input.u_source))

-- ---- all of them
module _ (m : ℕ) (w₀ : List ℕ) (target n : ℕ) (f : ℕ → ℕ) (w : List ℕ) (k : ℕ) (h : Writing w₀ target n f w k)
    (at c : ℕ) (a : Aside m w₀ target (target + n) at c) where
  -- what lies apart from the target is there still
  aside-part : part w at c ≡ part w₀ at c
  aside-part = kept-part target (target + n) w₀ w (writing-kept w₀ target n f w k h) at c a.apart

  aside-source : Source m w at c
  aside-source = record {
    inside = omega (arith, a.source.inside, h.long);
    below = kept-residues target (target + n) w₀ w (writing-kept w₀ target n f w k h) m at c a.apart a.source.below;
  }

-- the front of such a part, as far as it is used
module _ (m : ℕ) (w₀ : List ℕ) (target n : ℕ) (f : ℕ → ℕ) (w : List ℕ) (i : ℕ) (h : Writing w₀ target n f w i)
    (at c k : ℕ) (a : Aside m w₀ target (target + n) at c) (fewer : k ≤ c) where
  front-aside : Aside m w₀ target (target + n) at k
  front-aside = aside-within m w₀ target (target + n) at c target (target + n) at k a (omega arith) (omega arith) (omega arith) (omega arith)

  front-source : Source m w at k
  front-source = aside-source m w₀ target n f w i h at k front-aside

  front-entry : (j : ℕ) → get_or (part w at k) j 0 ≡ get_or (part w₀ at k) j 0
  front-entry j = ap (λ x. get_or x j 0) (aside-part m w₀ target n f w i h at k front-aside)

module _ (m : ℕ) (w₀ : List ℕ) (target n t tn p r pn q s qn : ℕ) (places : ProductPlaces m w₀ target n t tn p r pn q s qn)
    (w : List ℕ) (k : ℕ) (l : k < n) (h : Writing w₀ target n (product_entry m w₀ t tn p r pn q s qn) w k)
    {used held : ℕ} (first : Used w₀ p r pn used) (second : Used w₀ q s qn held) where
  abbrev coefficients : ℕ → ℕ
  coefficients = product_entry m w₀ t tn p r pn q s qn

  pub product-sources : (start : ℕ) → start ≡ get_or (part w t tn) k 0
      → SourceInput m w start p r used q s held
  product-sources start e = record {
    most = places.most;
    start_below = rw e (part-below m w t tn places.least (aside-source m w₀ target n coefficients w k h t tn places.t_aside).below k);
    p_source = front-source m w₀ target n coefficients w k h p pn used places.p_aside first.within;
    r_source = front-source m w₀ target n coefficients w k h r pn used places.r_aside first.within;
    q_source = front-source m w₀ target n coefficients w k h q qn held places.q_aside second.within;
    s_source = front-source m w₀ target n coefficients w k h s qn held places.s_aside second.within;
  }

  pub product-next : (start v : ℕ) → start ≡ get_or (part w t tn) k 0
      → v ≡ (start + product_at (part w p used) (part w q held) k + product_at (part w r used) (part w s held) k) % m
      → Writing w₀ target n (product_entry m w₀ t tn p r pn q s qn) (set w (target + k) v) (k + 1)
  unfolding product_entry
  product-next start v e g =
      let begun = e ∙ ap (λ x. get_or x k 0) (aside-part m w₀ target n coefficients w k h t tn places.t_aside) in
      let one = product-entries (part w p used) (part w₀ p pn) (part w q held) (part w₀ q qn) k
      (λ j. front-entry m w₀ target n coefficients w k h p pn used places.p_aside first.within j ∙ first.p_same j)
      (λ j. front-entry m w₀ target n coefficients w k h q qn held places.q_aside second.within j ∙ second.p_same j) in
      let other = product-entries (part w r used) (part w₀ r pn) (part w s held) (part w₀ s qn) k
      (λ j. front-entry m w₀ target n coefficients w k h r pn used places.r_aside first.within j ∙ first.r_same j)
      (λ j. front-entry m w₀ target n coefficients w k h s qn held places.s_aside second.within j ∙ second.r_same j) in
      writing-next w₀ target n coefficients w k h v l (g ∙ rw (begun, one, other))

pub product-ends : (m : ℕ) (w₀ : List ℕ) (target n t tn p r pn q s qn : ℕ) (w : List ℕ) (k : ℕ) → n ≤ k
    → Writing w₀ target n (product_entry m w₀ t tn p r pn q s qn) w k
    → w ≡ written w₀ target (plus_products m n (part w₀ t tn) (part w₀ p pn) (part w₀ q qn) (part w₀ r pn) (part w₀ s qn))
unfolding product_entry plus_products
product-ends m w₀ target n t tn p r pn q s qn w k l h = writing-ends w₀ target n (product_entry m w₀ t tn p r pn q s qn) w k h l

module _ (m : ℕ) (w₀ : List ℕ) (target n p q pn v u vn : ℕ) (places : TransposedPlaces m w₀ target n p q pn v u vn) where
  abbrev wanted : ℕ → ℕ
  wanted = transposed_entry m w₀ p q pn v u vn

  module _ (w : List ℕ) (i : ℕ) (l : i < n) (h : Writing w₀ target n wanted w i)
      {used held : ℕ} (multipliers : Used w₀ p q pn used) (lists : Used w₀ v u vn held) where
    pub transposed-term : TermInput m w p q used v u held
    transposed-term = record {
      least = places.least;
      most = places.most;
      p_source = front-source m w₀ target n wanted w i h p pn used places.p_aside multipliers.within;
      q_source = front-source m w₀ target n wanted w i h q pn used places.q_aside multipliers.within;
      v_source = front-source m w₀ target n wanted w i h v vn held places.v_aside lists.within;
      u_source = front-source m w₀ target n wanted w i h u vn held places.u_aside lists.within;
    }

    pub transposed-next : (x : ℕ) → x ≡ transposed_entry m w p q used v u held i
        → Writing w₀ target n wanted (set w (target + i) x) (i + 1)
    unfolding transposed_entry
    transposed-next x g =
        let first = transposed-entries (part w p used) (part w₀ p pn) (part w v held) (part w₀ v vn) i
        (λ j. front-entry m w₀ target n wanted w i h p pn used places.p_aside multipliers.within j ∙ multipliers.p_same j)
        (λ j. front-entry m w₀ target n wanted w i h v vn held places.v_aside lists.within j ∙ lists.p_same j) in
        let second = transposed-entries (part w q used) (part w₀ q pn) (part w u held) (part w₀ u vn) i
        (λ j. front-entry m w₀ target n wanted w i h q pn used places.q_aside multipliers.within j ∙ multipliers.r_same j)
        (λ j. front-entry m w₀ target n wanted w i h u vn held places.u_aside lists.within j ∙ lists.r_same j) in
        writing-next w₀ target n wanted w i h x l (g ∙ ap₂ (λ y z. (y + z) % m) first second)

pub transposed-ends : (m : ℕ) (w₀ : List ℕ) (target n p q pn v u vn : ℕ) (w : List ℕ) (i : ℕ) → n ≤ i
    → Writing w₀ target n (transposed_entry m w₀ p q pn v u vn) w i
    → w ≡ written w₀ target (transposed_sum m n (part w₀ p pn) (part w₀ v vn) (part w₀ q pn) (part w₀ u vn))
unfolding transposed_entry transposed_sum
transposed-ends m w₀ target n p q pn v u vn w i l h = writing-ends w₀ target n (transposed_entry m w₀ p q pn v u vn) w i h l
