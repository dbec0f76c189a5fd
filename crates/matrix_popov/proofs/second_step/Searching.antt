-- The search for the lowest row that has the greatest excess.
use Rattle.std.proofs.Common.{◌≡◌, ℕ, ◌+◌, ◌-◌, ◌≤◌, ◌<◌, true, false, Option, Some, None, SomeIff, option_map, arith, below_more}
use Rattle.std.proofs.lemmas.Bool.Decides.{nat_tests}
use Rattle.std.specs.Option.{option_partial_cmp}
use Rattle.std.specs.Ordering.{nat_cmp, is_lt, partial_lt}
use Rattle.std.specs.declared.cmp.Ordering.{Ordering}
use Rattle.matrix_popov.specs.declared.second_step.Found.{Found}
use Rattle.matrix_popov.specs.second_step.Excess.{Greatest, IsHighest}

-- the row that is found, where one has an excess
abbrev pub found : ℕ → Option ℕ → Option Found
found at most = option_map (λ (e : ℕ). record { at = at; exponent = e }) most

module _ (h : ℕ → ℕ) (i : ℕ) where
  -- row i has a greater excess than the rows before it
  highest-new : {e : ℕ} → ((j : ℕ) → j < i → h j ≤ e) → h i ≡ e + 1 → Greatest (i + 1) h i e
  highest-new {e} less is = record {
    fits = omega arith;
    has = is;
    greatest = below_more (λ j. h j ≤ e + 1) i (λ j l. omega (arith, less j l)) (omega arith);
    lowest = less;
  }

  -- or it has not
  highest-old : {at e : ℕ} → Greatest i h at e → h i ≤ e + 1 → Greatest (i + 1) h at e
  highest-old {e = e} x less = record {
    fits = omega (arith, x.fits);
    has = x.has;
    greatest = below_more (λ j. h j ≤ e + 1) i x.greatest less;
    lowest = x.lowest;
  }

less : (m e : ℕ) → is_lt (nat_cmp m e) ≡ true → m < e
less m e t = grind (arith, nat_tests)

not_less : (m e : ℕ) → is_lt (nat_cmp m e) ≡ false → e ≤ m
not_less m e t = grind (arith, nat_tests)

-- by the order of `Option`, where none is less than each of the numbers
module _ {C : ℕ → ℕ → Option Ordering} (agrees : (x y : ℕ) → C x y ≡ Some (nat_cmp x y)) (h : ℕ → ℕ) (i at : ℕ) where
  pub highest-on : (most e : Option ℕ) → IsHighest i h (found at most) → SomeIff e (0 < h i) (h i - 1)
      → true ≡ partial_lt (option_partial_cmp C) most e → IsHighest (i + 1) h (found i e)
  highest-on None None x s t = cc
  highest-on None (Some e) x s t = highest-new h i (λ j l. omega (arith, x j l)) (omega (arith, s))
  highest-on (Some m) None x s t = cc
  highest-on (Some m) (Some e) x s t =
      let more : m < e = less m e (cc (agrees m e)) in
      highest-new h i (λ j l. omega (arith, x.greatest j l)) (omega (arith, s))

  pub highest-off : (most e : Option ℕ) → IsHighest i h (found at most) → SomeIff e (0 < h i) (h i - 1)
      → false ≡ partial_lt (option_partial_cmp C) most e → IsHighest (i + 1) h (found at most)
  highest-off None None x s t = below_more (λ j. h j ≡ 0) i x (omega (arith, s))
  highest-off None (Some e) x s t = cc
  highest-off (Some m) None x s t = highest-old h i x (omega (arith, s))
  highest-off (Some m) (Some e) x s t =
      let no_more : e ≤ m = not_less m e (cc (agrees m e)) in
      highest-old h i x (omega (arith, s))
