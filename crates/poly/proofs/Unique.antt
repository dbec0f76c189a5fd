-- Where a promise is no equation, any two answers that satisfy it are equal all the same. Modulus and residue are read as their numbers.
use mathlib.Core.Path.{◌≡◌, sym, ap, subst₂, ◌∙◌}
use mathlib.Core.Bool.{Bool, true}
use mathlib.Core.Logic.{◌↔◌}
use mathlib.Core.List.{List}
use Prim.Native.Nat.{ℕ, ◌*◌, ◌/◌, ◌%◌, ◌≤◌}
use native.Mathlib.Nat.{mul-one, mul_comm, mul_left_comm, mod-eq_of_lt}
use lib.ListN.{length}
use Rattle.std.proofs.Props.{props}
use Rattle.theory_algebra.specs.Prime.{Prime}
use Rattle.theory_algebra.proofs.Flag.{flag-unique}
use Rattle.theory_algebra.proofs.Residue.{mul_mod_right}
use Rattle.poly.specs.Polynomial.{used_places, SamePolynomial}
use Rattle.poly.specs.residues.Modulus.{Ready, Inverse}
use Rattle.theory_algebra.specs.Modulus.{Accepted}
use Rattle.poly.specs.declared.residues.Modulus.{Modulus}

-- flags of one statement each
pub accepts-unique : (p : ℕ) (r s : Bool) → (r ≡ true) ↔ Accepted p → (s ≡ true) ↔ Accepted p → r ≡ s
accepts-unique p = flag-unique

pub is-prime-unique : (p : ℕ) (r s : Bool) → (r ≡ true) ↔ Prime p → (s ≡ true) ↔ Prime p → r ≡ s
is-prime-unique p = flag-unique

pub equal-unique : (a b : List ℕ) (r s : Bool) → (r ≡ true) ↔ SamePolynomial a b → (s ≡ true) ↔ SamePolynomial a b → r ≡ s
equal-unique a b = flag-unique

pub used-unique : (a : List ℕ) (r s : ℕ) → (r ≡ used_places a) × (r ≤ length a) → (s ≡ used_places a) × (s ≤ length a) → r ≡ s
used-unique a r s f g = f.0 ∙ sym g.0

-- the prime determines the reciprocal, and that it does has one proof
pub modulus-unique : (p : ℕ) (md md' : Modulus) → md.p ≡ p → md'.p ≡ p → md ≡ md'
modulus-unique p md md' f g =
    subst₂ (λ (q r : ℕ). (h : Ready q r) → md ≡ record { p = q; reciprocal = r; ready = h }) same other
    (λ h. ap (λ (h : Ready md.p md.reciprocal). record { p = md.p; reciprocal = md.reciprocal; ready = h }) (one md.ready h)) md'.ready
  where
    one : IsProp (Ready md.p md.reciprocal)
    one = hlevel props

    same : md.p ≡ md'.p
    same = f ∙ sym g

    other : md.reciprocal ≡ md'.reciprocal
    other = md.ready.reciprocal_is ∙ ap (λ (q : ℕ). 4294967296 / q) same ∙ sym md'.ready.reciprocal_is

-- r = r·(a·s) = s·(a·r) = s
pub inverse-unique : (p a r s : ℕ) → Inverse p a r → Inverse p a s → r ≡ s
inverse-unique p a r s f g = sym (other r s f g) ∙ middle ∙ other s r g f
  where
    middle : r * (a * s) % p ≡ s * (a * r) % p
    middle = ap (λ (x : ℕ). x % p) (mul_left_comm r a s ∙ ap (λ (x : ℕ). a * x) (mul_comm r s) ∙ mul_left_comm a s r)

    other : (r s : ℕ) → Inverse p a r → Inverse p a s → r * (a * s) % p ≡ r
    other r s f g =
        sym (mul_mod_right r (a * s) p) ∙ ap (λ (x : ℕ). r * x % p) g.one ∙ ap (λ (x : ℕ). x % p) (mul-one r)
        ∙ mod-eq_of_lt f.below
