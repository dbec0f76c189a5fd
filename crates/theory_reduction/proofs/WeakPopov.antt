-- The end of the reduction is the weak Popov form.
use mathlib.Core.Path.{sym, ◌∙◌, ap}
use mathlib.Core.Logic.{◌↔◌}
use Prim.Native.Nat.{ℕ, suc}
use native.Mathlib.Omega.{arith}
use Rattle.theory_algebra.specs.Field.{Field}
use Rattle.theory_algebra.proofs.Cases.{case-le}
use Rattle.theory_lattice.specs.Row.{Row}
use Rattle.theory_lattice.specs.Lead.{LeadsApart}
use Rattle.theory_lattice.specs.PolynomialMatrix.{AllBounded}
use Rattle.theory_lattice.proofs.DegreeOverPosition.{degree-over-position}
use Rattle.theory_reduction.specs.Pivot.{values, Clash}
use Rattle.theory_reduction.specs.WeakPopov.{WeakPopov}
use Rattle.theory_reduction.specs.Pair.{NoPair}
use Rattle.theory_reduction.proofs.Index.{clash-first, clash-second, clash-columns, clash-turned, clash-of}
use Rattle.theory_reduction.proofs.Pivot.{lead-pivot, value-pivot, lead-some, lead_is}

module _ {F : Type 0} (K : Field F) (n m size : ℕ) (M : ℕ → Row F) (b : AllBounded K.ring n m size M) where
  abbrev v : ℕ → ℕ
  v = values K m size M

  -- where there is no pair the leading terms stand in different columns
  pub no-pair-apart : NoPair n m v → LeadsApart K.ring (degree-over-position m) n M
  no-pair-apart h i j li lj ne s t x y e = case-le (suc i) j (λ l. h i j l lj clash) (λ l. h j i (omega arith) li (clash-turned clash))
    where
      clash : Clash m (v i) (v j)
      clash = clash-of (lead-some K m size (M i) (b i li) s x) (lead-some K m size (M j) (b j lj) t y)
          (ap (λ u. u.col) (lead_is K m size (M i) (b i li) s x) ∙ e ∙ sym (ap (λ u. u.col) (lead_is K m size (M j) (b j lj) t y)))

  -- no step applies exactly where the weak Popov form is reached
  pub weak-popov-iff : NoPair n m v ↔ WeakPopov K.ring n m M
  weak-popov-iff = (
    (λ h i j li lj ne s t x y. no-pair-apart h i j li lj ne s t ((lead-pivot K.ring m s (M i)).1 x) ((lead-pivot K.ring m t (M j)).1 y)),
    λ w i j l lj c. w i j (omega arith) lj (omega arith) _ _
        (value-pivot K m size (M i) (b i (omega arith)) (clash-first c)) (value-pivot K m size (M j) (b j lj) (clash-second c)) (clash-columns c),
  )
