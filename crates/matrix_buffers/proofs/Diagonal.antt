-- The identity in a buffer is the identity of the matrices.
use mathlib.Core.Path.{◌≡◌, sym, ap, ◌∙◌}
use mathlib.Core.Logic.{◌≢◌}
use mathlib.Core.List.{List}
use Prim.Native.Nat.{ℕ, ◌<◌}
use native.Mathlib.Decide.{ℕ_discrete}
use native.Mathlib.Omega.{arith}
use Rattle.theory_algebra.specs.Ring.{CommRing}
use Rattle.theory_algebra.specs.Matrix.{identity}
use Rattle.theory_algebra.specs.Prime.{Prime}
use Rattle.theory_algebra.specs.Residue.{Zp}
use Rattle.theory_algebra.proofs.Matrix.{identity-same, identity-other}
use Rattle.theory_rings.specs.PrimeField.{zp_field}
use Rattle.theory_rings.proofs.PrimeField.{field-zero, field-one}
use Rattle.theory_algebra.proofs.Series.{mono-same}
use Rattle.theory_rings.specs.Series.{series}
use Rattle.theory_rings.proofs.Series.{zero-at, one_at}
use Rattle.theory_lattice.proofs.Coefficients.{below-identity}
use Rattle.matrix_promises.specs.Held.{Held}
use Rattle.matrix_buffers.specs.Diagonal.{Diagonal}
use Rattle.matrix_promises.specs.Layout.{by_rows}
use Rattle.theory_lists.proofs.Place.{spot-own}

module _ (p : ℕ) (P : Prime p) (n w : ℕ) (some : 0 < w) where
  abbrev R : CommRing (Zp p)
  R = (zp_field p P).ring

  -- the numbers of the identity
  one_number : (i : ℕ) → (identity (series R) i i 0).val ≡ 1
  one_number i = ap (λ (f : ℕ → Zp p). (f 0).val) (identity-same (series R) i) ∙ ap (λ (x : Zp p). x.val) (one_at R 0 ∙ mono-same R R.𝟙 0) ∙ field-one p P

  above-number : (i j t : ℕ) → 0 < t → (identity (series R) i j t).val ≡ 0
  above-number i j t l = ap (λ (x : Zp p). x.val) (below-identity R i j t l) ∙ field-zero p P

  other-number : (i j t : ℕ) → i ≢ j → (identity (series R) i j t).val ≡ 0
  other-number i j t ne = ap (λ (f : ℕ → Zp p). (f t).val) (identity-other (series R) i j ne) ∙ ap (λ (x : Zp p). x.val) (zero-at R t) ∙ field-zero p P

  pub held-identity : {b : List ℕ} → Diagonal n w b → Held (by_rows n n w) p b (identity (series R))
  held-identity {b} d = record {
    size = d.size;
    at = λ i j t li lj lt. elim (ℕ_discrete i j) [
      | yes same ↦ elim (ℕ_discrete t 0) [
        | yes low ↦ rw (← same, low) (d.one i li ∙ sym (one_number i))
        | no high ↦
            d.others _ (λ a la q. high (spot-own n w i j t a a 0 lj lt la some q).1.1)
            ∙ sym (above-number i j t (omega arith))
      ]
      | no differ ↦
          d.others _ (λ a la q. let (row, (col, deg)) = spot-own n w i j t a a 0 lj lt la some q in differ (row ∙ sym col))
          ∙ sym (other-number i j t differ)
    ];
    beyond = λ i j t li lj past. above-number i j t (omega arith);
  }
