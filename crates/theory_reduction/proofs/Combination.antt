-- A combination of the rows of A is one of the rows of R = U A, and there the lead theorem holds.
use mathlib.Core.Path.{◌≡◌, ◌∙◌, ap}
use Prim.Native.Nat.{ℕ, ◌<◌}
use Rattle.theory_algebra.specs.Field.{Field}
use Rattle.theory_algebra.specs.Polynomial.{IsPolynomial}
use Rattle.theory_lattice.specs.Term.{Term}
use Rattle.theory_lattice.specs.Row.{Row, coef, comb}
use Rattle.theory_lattice.proofs.DegreeOverPosition.{degree-over-position}
use Rattle.theory_lattice.proofs.Row.{comb-polynomial, comb-comb, comb-same}
use Rattle.theory_lattice.proofs.LeadTheorem.{Led, lead-theorem}
use Rattle.theory_reduction.specs.Step.{Carried}
use Rattle.theory_reduction.proofs.Pivot.{value-known}
use Rattle.theory_reduction.proofs.WeakPopov.{no-pair-apart}
use Rattle.theory_reduction.proofs.Transforms.{Ended}

module _ {F : Type 0} (K : Field F) (n m size : ℕ) (A : ℕ → Row F) (u : Carried F) (h : Ended K n m size A u)
    (q : ℕ → ℕ → F) (p : (i : ℕ) → i < n → IsPolynomial K.ring (q i)) where
  -- the combination of A by q is that of R by q V'
  pub comb-same-rows : (t : Term) → t.col < m → coef (comb K.ring n (comb K.ring n q u.V') u.R) t ≡ coef (comb K.ring n q A) t
  comb-same-rows t l =
      ap (λ r. coef r t) (comb-comb K.ring n q u.V' u.R)
      ∙ ap (λ f. f t.deg) (comb-same K.ring n m q _ A h.transformed.back t.col l)

  pub comb-led : Led K (degree-over-position m) n (comb K.ring n q u.V') u.R
  comb-led = lead-theorem K (degree-over-position m) n _ u.R
      (comb-polynomial K.ring n n q u.V' p h.transformed.inverse.right_polynomial)
      (λ i l. value-known K m size (u.R i) (h.bounded i l))
      (no-pair-apart K n m size u.R h.bounded h.done)
