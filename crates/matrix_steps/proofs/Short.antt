-- What buffers that hold R, U and V offer a subtraction: their sizes, and which places can be other than zero.
use mathlib.Core.Path.{ap, ◌∙◌}
use mathlib.Core.List.{List}
use Prim.Native.Nat.{ℕ, suc, ◌+◌, ◌-◌, ◌*◌, ◌≤◌, ◌<◌}
use native.Mathlib.Nat.{mul-sub, mul-one, mul-le-mul_left}
use native.Mathlib.Omega.{arith}
use Rattle.theory_algebra.specs.Field.{Field}
use Rattle.theory_algebra.specs.Prime.{Prime}
use Rattle.theory_algebra.specs.Residue.{Zp}
use Rattle.theory_rings.specs.PrimeField.{zp_field}
use Rattle.theory_rings.proofs.PrimeField.{field-zero}
use Rattle.theory_lattice.specs.Row.{Row}
use Rattle.theory_lattice.specs.PolynomialMatrix.{AllBounded}
use Rattle.theory_lists.proofs.Total.{total-one, total-bound}
use Rattle.theory_lists.specs.Place.{spot}
use Rattle.matrix_rows.specs.Asked.{Short}
use Rattle.theory_reduction.specs.Step.{Carried}
use Rattle.theory_reduction.proofs.Degrees.{degrees-most}
use Rattle.theory_reduction.specs.Narrow.{pivot_degree, spent_since, Narrow}
use Rattle.matrix_pivots.specs.Pivot.{values_of, degree_at, Pivots}
use Rattle.matrix_pivots.specs.declared.pivot.Pivot.{Pivot}
use Rattle.matrix_promises.specs.Holding.{Holding}
use Rattle.matrix_steps.proofs.Moving.{height-is}

-- by the bounds on the degrees
module _ (p : ℕ) (P : Prime p) (n m w : ℕ) (A : ℕ → Row (Zp p)) {r u v : List ℕ} {t : Carried (Zp p)} (h : Holding p n m w r u v t)
    (narrow : Narrow (zp_field p P) n m w A t) where
  abbrev K : Field (Zp p)
  K = zp_field p P

  pub u_short : (k top : ℕ) → k < n → ((j : ℕ) → j < n → suc (pivot_degree K n m w t.R k + spent_since K n m w A t) - pivot_degree K n m w A j ≤ top)
      → Short (n * w) top n (spot n (n * w) k) u
  u_short k top lk ends = record {
    zero = λ j s lj from lt.
        h.U.at k j s lk lj lt ∙ ap (λ (x : Zp p). x.val) (narrow.u_bound k j lk lj s (omega (arith, ends j lj))) ∙ field-zero p P;
  }

  -- column l of V has no term from w - D on, for the pivot degree D of row l of the result
  pub v_short : 0 < m → 0 < w → AllBounded K.ring n m w A → {pivots : List Pivot} → Pivots n m (values_of m w r) pivots
      → (l : ℕ) → l < n → Short w (w + 1 - degree_at pivots l) n (λ i. spot n w i l) v
  v_short columns places bounded found l ll = record {
    zero = λ i s li from lt.
        h.V'.at i l s li ll lt
        ∙ ap (λ (x : Zp p). x.val) (narrow.v_bound i l li ll s
        (omega (arith, height-is p P n m w columns h.R found l ll, degrees-most K n m w A bounded i li)))
        ∙ field-zero p P;
  }

  -- a row of U so shifted that it is as high as row k of the result has room
  pub spent_fits : 0 < w → AllBounded K.ring n m w A → (k : ℕ) → k < n → suc (pivot_degree K n m w t.R k + spent_since K n m w A t) ≤ n * w
  spent_fits places bounded k lk = omega (
    arith,
    narrow.less,
    total-one n k (pivot_degree K n m w t.R) lk,
    total-bound n (w - 1) (pivot_degree K n m w A) (degrees-most K n m w A bounded),
    mul-sub n w 1,
    mul-one n,
    mul-le-mul_left n places,
  )
