-- A quotient modulo p, by an inverse.
use mathlib.Core.Path.{◌≡◌, refl, sym, ap, ◌∙◌}
use Prim.Native.Nat.{ℕ, ◌+◌, ◌-◌, ◌*◌, ◌%◌, ◌<◌}
use native.Mathlib.Nat.{mul_assoc, mul_comm, mul-one, mod-lt, mod-eq_of_lt, zero-add}
use native.Mathlib.Omega.{arith}
use Rattle.theory_algebra.proofs.Residue.{mul_mod_left, mul_mod_right}
use Rattle.poly.specs.residues.Modulus.{Inverse}
use Rattle.matrix_steps.specs.multiple.Factor.{Divided}

pub divided : (p a b r c f e : ℕ) → a < p → Inverse p b r → c ≡ a * r % p → f ≡ (0 + (p - c)) % p → Divided p a b e e c f
divided p a b r c f e small inverse c_is f_is = record {
  e_is = refl;
  c_below = rw c_is (mod-lt (a * r) (omega arith));
  c_is =
      ap (λ (x : ℕ). x * b % p) c_is
      ∙ mul_mod_left (a * r) b p
      ∙ ap (λ (x : ℕ). x % p) (mul_assoc a r b ∙ ap (λ (x : ℕ). a * x) (mul_comm r b))
      ∙ sym (mul_mod_right a (b * r) p)
      ∙ ap (λ (x : ℕ). a * x % p) inverse.one
      ∙ ap (λ (x : ℕ). x % p) (mul-one a)
      ∙ mod-eq_of_lt small;
  f_is = f_is ∙ ap (λ (x : ℕ). x % p) (zero-add (p - c));
}
