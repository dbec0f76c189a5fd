-- A row divided by its pivot's leading coefficient: the value stays, and the pivot is monic.
use mathlib.Core.Path.{◌≡◌, refl, sym, ◌∙◌, ap, fun_ext}
use mathlib.Core.Logic.{◌≢◌}
use Prim.Native.Nat.{ℕ, zero, suc, ◌<◌, zero-le}
use native.Mathlib.Omega.{arith}
use native.Mathlib.Nat as N
use Rattle.theory_algebra.specs.Field.{Field}
use Rattle.theory_algebra.specs.Series.{const}
use Rattle.theory_algebra.specs.Polynomial.{Below}
use Rattle.theory_algebra.proofs.Ring as Ring
use Rattle.theory_algebra.proofs.Cases.{case-le}
use Rattle.theory_rings.specs.Series.{series}
use Rattle.theory_rings.proofs.Series.{one_at, const-mul-at, const-mul}
use Rattle.theory_lattice.specs.Term.{term}
use Rattle.theory_lattice.specs.Row.{Row, coef, Bounded, scale}
use Rattle.theory_lattice.specs.Lead.{Lead}
use Rattle.theory_lattice.proofs.Coefficients.{degree-mono}
use Rattle.theory_lattice.proofs.DegreeOverPosition.{degree-over-position}
use Rattle.theory_lattice.proofs.Lead.{lead-scale}
use Rattle.theory_reduction.specs.Pivot.{value}
use Rattle.theory_reduction.specs.Step.{leading}
use Rattle.theory_reduction.proofs.Pivot.{value-lead, value-null, null-value, lead-value}
use Rattle.theory_popov.specs.SecondKind.{pivot_of}
use Rattle.theory_popov.specs.Scaled.{some_or_one, divisor, dividing}

module _ {F : Type 0} (K : Field F) where
  infixl 70 ◌⊛◌
  open K.ring use {mul as ◌⊛◌, 𝟘, 𝟙}

  -- zeros stay zeros
  pub below-const : (c : F) (f : ℕ → F) (d : ℕ) → Below K.ring f d → Below K.ring ((series K.ring).mul (const K.ring c) f) d
  below-const c f d h k l = const-mul-at K.ring c f k ∙ ap (λ x. c ⊛ x) (h k l) ∙ Ring.mul-zero K.ring c

  module _ (m size : ℕ) (r : Row F) (b : Bounded K.ring m size r) where
    abbrev divided : Row F
    divided c = (series K.ring).mul (const K.ring (dividing K m size r)) (r c)

    pub inverse-is : dividing K m size r ⊛ divisor K m size r ≡ 𝟙
    inverse-is = go (value K m size r) (λ p. (value-lead K m size r b p).top)
      where
        go : (v : ℕ) → (0 < v → leading K m size r ≢ 𝟘) → some_or_one K m size v (K.inv (leading K m size r)) ⊛ some_or_one K m size v (leading K m size r) ≡ 𝟙
        go zero ne = Ring.mul-one K.ring 𝟙
        go (suc v) ne = Ring.mul_comm K.ring _ _ ∙ K.mul-inv _ (ne (omega arith))

    pub inverse-unit : (series K.ring).mul (const K.ring (dividing K m size r)) (const K.ring (divisor K m size r)) ≡ (series K.ring).𝟙
    inverse-unit = const-mul K.ring _ _ ∙ fun_ext (λ k. ap (λ c. const K.ring c k) inverse-is ∙ sym (one_at K.ring k))

    inverse-some : dividing K m size r ≢ 𝟘
    inverse-some z = K.nontrivial (sym inverse-is ∙ ap (λ c. c ⊛ divisor K m size r) z ∙ Ring.zero-mul K.ring _)

    pub divided-bounded : Bounded K.ring m size divided
    divided-bounded c l = below-const _ (r c) size (b c l)

    lead-divided : 0 < value K m size r → Lead K.ring (degree-over-position m) (pivot_of K m size r) divided
    unfolding scale
    lead-divided p = rw N.zero-add at (lead-scale K (degree-over-position m) _ r 0 _ (degree-mono K.ring _ 0 inverse-some) (value-lead K m size r b p))

    pub divided-value : value K m size divided ≡ value K m size r
    divided-value = case-le 1 (value K m size r)
        (λ p. lead-value K m size divided divided-bounded _ (lead-divided p) ∙ sym (lead-value K m size r b _ (value-lead K m size r b p)))
        (λ p. let none : value K m size r ≡ 0 = omega arith in
        null-value K m size divided divided-bounded
        (λ t l. below-const _ (r t.col) 0 (λ k _. value-null K m size r b none (term t.col k) l) t.deg zero-le)
        ∙ sym none)

    pub divided-monic : 0 < value K m size r → coef divided (pivot_of K m size r) ≡ 𝟙
    divided-monic p =
        const-mul-at K.ring _ (r (pivot_of K m size r).col) (pivot_of K m size r).deg
        ∙ ap (λ x. dividing K m size r ⊛ x) (sym (own (value K m size r) p))
        ∙ inverse-is
      where
        own : (v : ℕ) → 0 < v → some_or_one K m size v (leading K m size r) ≡ leading K m size r
        own zero p = absurd (omega arith)
        own (suc v) p = refl
