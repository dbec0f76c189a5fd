-- Two matrices have equal Popov forms exactly when one is turned into the other from the left.
use mathlib.Core.Logic.{◌↔◌}
use Prim.Native.Nat.{ℕ, ◌<◌}
use native.Mathlib.Omega.{arith}
use Rattle.theory_algebra.specs.Ring.{CommRing}
use Rattle.theory_algebra.specs.Field.{Field}
use Rattle.theory_algebra.specs.Matrix.{Same}
use Rattle.theory_lattice.specs.Row.{Row}
use Rattle.theory_lattice.specs.RowOrder.{ascending}
use Rattle.theory_lattice.specs.ReducedBasis.{ReducedBasis}
use Rattle.theory_lattice.specs.PolynomialMatrix.{AllBounded, LeftEquivalent}
use Rattle.theory_lattice.proofs.DegreeOverPosition.{degree-over-position}
use Rattle.theory_lattice.proofs.Equivalence.{equivalent-iff}
use Rattle.theory_reduction.specs.Step.{Carried}
use Rattle.theory_reduction.proofs.Pivot.{lead-pivot}
use Rattle.theory_popov.specs.PopovForm.{PopovForm}
use Rattle.theory_popov.specs.PopovRun.{PopovRun}
use Rattle.theory_popov.proofs.PopovForm.{before-key}
use Rattle.theory_popov.proofs.Facts.{popov-facts}

-- a matrix in Popov form is a reduced basis, for the order "degree over position" and ascending rows
form-basis : {F : Type 0} (R : CommRing F) (n m : ℕ) (P : ℕ → Row F) → PopovForm R n m P
    → ReducedBasis R (degree-over-position m) (ascending (degree-over-position m)) n P
unfolding degree-over-position
form-basis R n m P form = record {
  rank = form.rank;
  rank_fits = form.rank_fits;
  lead = form.lead;
  leads = λ i l. (lead-pivot R m (form.lead i) (P i)).1 (form.pivots i l);
  null = form.null;
  sorted = λ i j l lj. (before-key m _ _ (form.pivots i (omega arith)).inside (form.pivots j lj).inside).1 (form.sorted i j l lj);
  monic = form.monic;
  smaller = form.reduced;
}

-- "Two accepted matrices […] have equal Popov forms exactly when a square polynomial matrix with a polynomial inverse, multiplied
-- from the left, turns the one into the other."
module _ {F : Type 0} (K : Field F) (n m size : ℕ) (columns : 0 < m) (places : 0 < size) {A B : ℕ → Row F}
    (a : AllBounded K.ring n m size A) (b : AllBounded K.ring n m size B) where
  pub popov-equivalent : {c d c' d' : ℕ} {t s : Carried F} → PopovRun K n m size A c d t → PopovRun K n m size B c' d' s
      → Same n m t.R s.R ↔ LeftEquivalent K.ring n m A B
  popov-equivalent {t = t} {s} p q =
      let f = popov-facts K n m size A columns places a p in
      let g = popov-facts K n m size B columns places b q in
      equivalent-iff K f.transformed g.transformed (form-basis K.ring n m t.R f.form) (form-basis K.ring n m s.R g.form)
