-- The residues modulo p, and what is worked out with their numbers.
use Rattle.std.specs.Prelude.{ℕ, zero, suc, ◌+◌, ◌-◌, ◌*◌, ◌/◌, ◌%◌, ◌<◌}
use Rattle.std.proofs.Math.Nat as N

-- a residue modulo p is given by its number below p
pub record Zp (p : ℕ) : Type 0 where
  pub val : ℕ
  pub lt : val < p

-- a number x with a x = 1 modulo a prime p, for 0 < a < p and a ≤ n: by p = (p / a) a + p % a it is -(p / a) times that of p % a,
-- and n counts down with a
unfoldable pub inverse_by : (n p a : ℕ) → ℕ
inverse_by zero p a = 1
inverse_by (suc n) p zero = 1
inverse_by (suc n) p (suc zero) = 1
inverse_by (suc n) p (suc (suc b)) = (p - p / suc (suc b)) * inverse_by n p (p % suc (suc b))

module _ (p : ℕ) (some : 0 < p) where
  -- the residue of n
  abbrev pub of : ℕ → Zp p
  of n = record { val = n % p; lt = N.mod-lt n some }

  -- sum, product, opposite and inverse
  abbrev pub plus : Zp p → Zp p → Zp p
  plus a b = of (a.val + b.val)

  abbrev pub times : Zp p → Zp p → Zp p
  times a b = of (a.val * b.val)

  abbrev pub opposite : Zp p → Zp p
  opposite a = of (p - a.val)

  abbrev pub inverse : Zp p → Zp p
  inverse a = of (inverse_by a.val p a.val)
