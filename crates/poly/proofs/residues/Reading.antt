-- Each function on residues as what it works out in the field Z/p.
use mathlib.Core.Path.{◌≡◌, sym, ap, ◌∙◌}
use Prim.Native.Nat.{ℕ, ◌+◌, ◌*◌, ◌-◌, ◌%◌}
use native.Mathlib.Nat.{add-mod-mod}
use Rattle.theory_algebra.specs.Field.{Field}
use Rattle.theory_algebra.specs.Prime.{Prime}
use Rattle.theory_algebra.specs.Residue.{Zp}
use Rattle.theory_rings.specs.PrimeField.{zp_field}
use Rattle.theory_rings.proofs.PrimeField.{field-add, field-mul, field-neg, field-one}
use Rattle.theory_algebra.proofs.Residue.{zp-path}
use Rattle.poly.specs.residues.Modulus.{Inverse}

module _ (p : ℕ) (P : Prime p) where
  abbrev K : Field (Zp p)
  K = zp_field p P

  -- a residue by its number
  by_number : (a r : Zp p) (v : ℕ) → a.val ≡ v → r.val ≡ v → r ≡ a
  by_number a r v e h = zp-path _ _ (h ∙ sym e)

  pub residue-sum : (a b r : Zp p) → r.val ≡ (a.val + b.val) % p → r ≡ K.ring.add a b
  residue-sum a b r = by_number _ r _ (field-add p P a b)

  pub residue-difference : (a b r : Zp p) → r.val ≡ (a.val + (p - b.val)) % p → r ≡ K.ring.add a (K.ring.neg b)
  residue-difference a b r = by_number _ r _ (field-add p P a _ ∙ ap (λ (x : ℕ). (a.val + x) % p) (field-neg p P b) ∙ add-mod-mod a.val (p - b.val) p)

  pub residue-product : (a b r : Zp p) → r.val ≡ a.val * b.val % p → r ≡ K.ring.mul a b
  residue-product a b r = by_number _ r _ (field-mul p P a b)

  pub residue-inverse : (a r : Zp p) → Inverse p a.val r.val → K.ring.mul a r ≡ K.ring.𝟙
  residue-inverse a r h = by_number _ _ 1 (field-one p P) (field-mul p P a r ∙ h.one)
