-- The operations of the field Z/p by numbers.
use mathlib.Core.Path.{◌≡◌, refl}
use Prim.Native.Nat.{ℕ, ◌+◌, ◌-◌, ◌*◌, ◌%◌}
use native.Mathlib.Nat as N
use Rattle.theory_algebra.specs.Prime.{Prime}
use Rattle.theory_algebra.specs.Residue.{Zp}
use Rattle.theory_rings.specs.PrimeField.{zp_field}

module _ (p : ℕ) (P : Prime p) where
  pub field-add : (a b : Zp p) → ((zp_field p P).ring.add a b).val ≡ (a.val + b.val) % p
  unfolding zp_field
  field-add a b = refl

  pub field-mul : (a b : Zp p) → ((zp_field p P).ring.mul a b).val ≡ a.val * b.val % p
  unfolding zp_field
  field-mul a b = refl

  pub field-neg : (a : Zp p) → ((zp_field p P).ring.neg a).val ≡ (p - a.val) % p
  unfolding zp_field
  field-neg a = refl

  pub field-zero : (zp_field p P).ring.𝟘.val ≡ 0
  unfolding zp_field
  field-zero = N.zero-mod p

  pub field-one : (zp_field p P).ring.𝟙.val ≡ 1
  unfolding zp_field
  field-one = N.mod-eq_of_lt P.two
