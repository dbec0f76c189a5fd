-- The leading terms of a reduced basis, and its coefficients at their multiples.
use mathlib.Core.Path.{◌≡◌, sym, ◌∙◌}
use mathlib.Core.Logic.{◌≢◌, inl, inr}
use Prim.Native.Nat.{ℕ, zero, suc, ◌+◌, ◌<◌}
use native.Mathlib.Omega.{arith}
use native.Mathlib.Decide.{ℕ_discrete}
use native.Mathlib.Nat as N
use Rattle.theory_algebra.specs.Ring.{CommRing}
use Rattle.theory_algebra.specs.Field.{Field}
use Rattle.theory_algebra.specs.Matrix.{identity}
use Rattle.theory_algebra.proofs.Cases.{case-le}
use Rattle.theory_algebra.proofs.Series.{mono-same, mono-other}
use Rattle.theory_rings.specs.Series.{series}
use Rattle.theory_rings.proofs.Series.{one_at, zero-at}
use Rattle.theory_algebra.proofs.Matrix.{identity-same, identity-other}
use Rattle.theory_lattice.specs.Term.{Term, up, TermOrder}
use Rattle.theory_lattice.specs.RowOrder.{RowOrder}
use Rattle.theory_lattice.specs.Row.{Row, coef}
use Rattle.theory_lattice.specs.Lead.{Lead, LeadsApart}
use Rattle.theory_lattice.specs.ReducedBasis.{ReducedBasis}
use Rattle.theory_lattice.proofs.Lead.{lead-unique, null-lead}
use Rattle.theory_lattice.proofs.LeadTheorem.{Known}

module _ {F : Type 0} {R : CommRing F} {m : ℕ} {T : TermOrder m} {O : RowOrder} {n : ℕ} {P : ℕ → Row F} (b : ReducedBasis R T O n P) where
  -- a row with a leading term is one of the first
  pub basis-lead : (i : ℕ) → i < n → (t : Term) → Lead R T t (P i) → (i < b.rank) × (t ≡ b.lead i)
  basis-lead i l t x = case-le (suc i) b.rank
      (λ p. (p, lead-unique R T t (b.lead i) (P i) x (b.leads i p)))
      (λ p. absurd (null-lead R T t (P i) (b.null i (omega arith) l) x))

  -- of two leading terms in one column each would have the smaller degree
  lower : (i j : ℕ) → i < n → j < n → i ≢ j → (s t : Term) → Lead R T s (P i) → Lead R T t (P j) → s.col ≡ t.col → s.deg < t.deg
  lower i j li lj ne s t x y e =
      let (rj, w) = basis-lead j lj t y in
      case-le t.deg s.deg (λ l. absurd (x.top (rw (e, w) (b.smaller i j li rj ne s.deg (rw w at l))))) (λ l. l)

  pub basis-apart : LeadsApart R T n P
  basis-apart i j li lj ne s t x y e = omega (arith, lower i j li lj ne s t x y e, lower j i lj li (λ w. ne (sym w)) t s y x (sym e))

  -- at x^a times the leading term of row j, row i has the coefficient that entry (i, j) of the identity has at x^a
  pub basis-at : (i j a : ℕ) → i < n → j < b.rank → coef (P i) (up a (b.lead j)) ≡ identity (series R) i j a
  basis-at i j a li lj = elim (ℕ_discrete i j) [
    | yes e ↦ rw (e, identity-same) (own a)
    | no ne ↦ rw (identity-other (series R) i j ne) (b.smaller i j li lj ne (a + (b.lead j).deg) (omega arith) ∙ sym (zero-at R a))
  ]
    where
      own : (a : ℕ) → coef (P j) (up a (b.lead j)) ≡ (series R).𝟙 a
      own zero = rw N.zero-add (b.monic j lj ∙ sym (one_at R 0 ∙ mono-same R R.𝟙 0))
      own (suc a) =
          let x = b.leads j lj in
          x.above (up (suc a) (b.lead j)) x.inside (T.grow _ _ _ x.inside (omega arith))
          ∙ sym (one_at R (suc a) ∙ mono-other R R.𝟙 0 (suc a) (omega arith))

pub basis-known : {F : Type 0} (K : Field F) {m : ℕ} {T : TermOrder m} {O : RowOrder} {n : ℕ} {P : ℕ → Row F}
    → ReducedBasis K.ring T O n P → Known K T n P
basis-known K b i l = case-le (suc i) b.rank (λ p. inr (b.lead i, b.leads i p)) (λ p. inl (b.null i (omega arith) l))
