-- What the functions of Expand and join ask.
--   Sized a c                  two lists of one length, of at most 127 entries
--   ChannelInput m a b c u l   rows and curve of one channel, and l places for the output
-- Assumes nothing.
use Rattle.std.specs.Prelude.{List, ◌≡◌, ℕ, suc, ◌≤◌, ℤ, length}
use Rattle.definitions.specs.Family.{Modulus}

pub record Sized (a c : ℕ) : Type 0 where
  pub few : a ≤ 127
  pub same : c ≡ a

pub record ChannelInput (m : ℕ) (a b c u : List ℤ) (l : ℕ) : Type 0 where
  pub modulus : Modulus m
  pub few : length a ≤ 127
  pub b_same : length b ≡ length a
  pub c_same : length c ≡ length a
  pub curve_long : length u ≡ suc (length a)
  pub room : length u ≤ l
