-- A division by p as two products (Barrett): x · ⌊2^32 / p⌋ / 2^32 is ⌊x / p⌋ or one less.
use mathlib.Core.Path.{◌≡◌, sym, ap, ◌∙◌}
use Prim.Native.Nat.{ℕ, ◌+◌, ◌*◌, ◌-◌, ◌/◌, ◌%◌, ◌≤◌, ◌<◌}
use native.Mathlib.Nat.{div-add-mod', mod-lt, add-mul, mul-add, mul_assoc, mul_right_comm, mul-le-mul, le_of_lt}
use native.Mathlib.Nat.{mod-eq_of_lt, mul-add-mod_self_right, mod-eq-sub-mod}
use native.Mathlib.Omega.{arith}
use Rattle.poly.specs.residues.Modulus.{Ready}

-- a number that exceeds p by less than p
pub once-over : (p s : ℕ) → p ≤ s → s - p < p → s - p ≡ s % p
once-over p s h low = sym (mod-eq-sub-mod h ∙ mod-eq_of_lt low)

module _ (x p i : ℕ) (x_fits : x < 4294967296) (ready : Ready p i) where
  -- what stands for the quotient, and what the two divisions leave
  q : ℕ
  q = x * i / 4294967296

  s : ℕ
  s = x * i % 4294967296

  t : ℕ
  t = 4294967296 % p

  positive : 0 < p
  positive = let h = ready.range.two in omega arith

  by-quotient : x * i * p ≡ q * p * 4294967296 + s * p
  unfolding q s
  by-quotient = ap (λ (n : ℕ). n * p) (sym (div-add-mod' (x * i) 4294967296)) ∙ add-mul _ _ p ∙ ap (λ (n : ℕ). n + s * p) (mul_right_comm q 4294967296 p)

  by_reciprocal : x * i * p + x * t ≡ x * 4294967296
  unfolding t
  by_reciprocal =
      sym (ap (λ (n : ℕ). x * n) (sym (div-add-mod' 4294967296 p))
      ∙ mul-add x _ _
      ∙ ap (λ (n : ℕ). n + x * t) (sym (mul_assoc x _ p))
      ∙ ap (λ (n : ℕ). x * n * p + x * t) (sym ready.reciprocal_is))

  s-small : s * p ≤ 4294967295 * p
  unfolding s
  s-small = mul-le-mul (omega arith) (omega arith)

  t-small : x * t ≤ 4294967295 * p
  unfolding t
  t-small = mul-le-mul (omega arith) (le_of_lt (mod-lt 4294967296 positive))

  pub not-above : x * i / 4294967296 * p ≤ x
  unfolding q
  not-above = omega (arith, by-quotient, by_reciprocal)

  pub near : x < x * i / 4294967296 * p + p + p
  unfolding q
  near = omega (arith, by-quotient, by_reciprocal, s-small, t-small)

  -- what is left of x is its remainder, or p more
  rest : x % p ≡ (x - x * i / 4294967296 * p) % p
  rest =
      let split : x ≡ x * i / 4294967296 * p + (x - x * i / 4294967296 * p) = omega (arith, not-above) in
      ap (λ (n : ℕ). n % p) split ∙ mul-add-mod_self_right (x * i / 4294967296) p (x - x * i / 4294967296 * p)

  pub rest-low : x - x * i / 4294967296 * p < p → x - x * i / 4294967296 * p ≡ x % p
  rest-low h = sym (rest ∙ mod-eq_of_lt h)

  pub rest-high : p ≤ x - x * i / 4294967296 * p → x - x * i / 4294967296 * p - p ≡ x % p
  rest-high h = once-over p _ h (omega (arith, near)) ∙ sym rest
