-- Rows that are divided one after another: what the buffers hold when some of them are, and what is asked of the next.
use mathlib.Core.Path.{◌≡◌, refl, sym, ◌∙◌, ap, subst}
use mathlib.Core.List.{List}
use Prim.Native.Nat.{ℕ, zero, suc, ◌+◌, ◌-◌, ◌*◌, ◌%◌, ◌≤◌, ◌<◌}
use native.Mathlib.Decide.{ℕ_discrete}
use native.Mathlib.Omega.{arith}
use lib.ListN.{get_or}
use Rattle.theory_algebra.specs.Ring.{CommRing}
use Rattle.theory_algebra.specs.Field.{Field}
use Rattle.theory_algebra.specs.Matrix.{Mat, transpose, scalerow, dilate}
use Rattle.theory_algebra.specs.Prime.{Prime}
use Rattle.theory_algebra.specs.Residue.{Zp}
use Rattle.theory_algebra.specs.Series.{const}
use Rattle.theory_algebra.proofs.Ring as Ring
use Rattle.theory_algebra.proofs.Matrix.{setrow-same, setrow-other}
use Rattle.theory_rings.specs.PrimeField.{zp_field}
use Rattle.theory_rings.proofs.PrimeField.{field-mul, field-one}
use Rattle.theory_algebra.proofs.Residue.{zp-path}
use Rattle.theory_rings.specs.Series.{series}
use Rattle.matrix_buffers.specs.Scaled.{RowScaled, ColumnScaled}
use Rattle.matrix_promises.specs.Layout.{by_rows}
use Rattle.matrix_promises.proofs.Held.{held-bounded, held-matrix-same}
use Rattle.matrix_buffers.proofs.Scaled.{held-row-scaled, held-column-scaled}
use Rattle.theory_reduction.specs.Pivot.{index}
use Rattle.theory_reduction.specs.Step.{Carried, leading}
use Rattle.theory_reduction.proofs.Index.{value-is}
use Rattle.theory_popov.specs.Scaled.{some_or_one, divisor, dividing, scaled}
use Rattle.theory_popov.proofs.Scaling.{inverse-is}
use Rattle.matrix_pivots.specs.Pivot.{values_of, zero_row, index_at, degree_at}
use Rattle.matrix_pivots.specs.declared.pivot.Pivot.{Pivot}
use Rattle.matrix_steps.specs.multiple.Asked.{PivotAsked}
use Rattle.matrix_steps.specs.multiple.Factor.{leading_at}
use Rattle.matrix_promises.specs.Holding.{Holding}
use Rattle.matrix_steps.proofs.Moving.{leading-is}
use Rattle.matrix_steps.proofs.RowsOf.{pivot-asked}
use Rattle.matrix_steps.proofs.Value.{value-held}
use Rattle.matrix_popov.specs.monic.Monic.{RowToDivide, where_some, RowDivided, MonicAsked, MadeMonic}

module _ {F : Type 0} (R : CommRing F) where
  -- an element has one inverse
  inverse-unique : (a b c : F) → R.mul a b ≡ R.𝟙 → R.mul b c ≡ R.𝟙 → a ≡ c
  inverse-unique a b c e g =
      sym (Ring.mul-one R a) ∙ ap (R.mul a) (sym g) ∙ sym (Ring.mul_assoc R a b c) ∙ ap (λ x. R.mul x c) e ∙ Ring.one-mul R c

  module _ (u : ℕ → F) (A : Mat F) where
    -- the first i rows of A are multiplied by u
    abbrev pub dilate-first : ℕ → Mat F
    dilate-first zero = A
    dilate-first (suc i) = scalerow R (dilate-first i) i (u i)

    rest-kept : (i j : ℕ) → i ≤ j → dilate-first i j ≡ A j
    rest-kept zero j l = refl
    rest-kept (suc i) j l = setrow-other _ i _ j (λ e. omega arith) ∙ rest-kept i j (omega arith)

    first-dilated : (i j c : ℕ) → j < i → dilate-first i j c ≡ dilate R u A j c
    first-dilated zero j c l = absurd (omega arith)
    first-dilated (suc i) j c l = elim (ℕ_discrete j i) [
      | yes e ↦ rw e (ap (λ f. f c) (setrow-same (dilate-first i) i _) ∙ ap (λ f. R.mul (u i) (f c)) (rest-kept i i (omega arith)))
      | no ne ↦ ap (λ f. f c) (setrow-other (dilate-first i) i _ j ne) ∙ first-dilated i j c (omega arith)
    ]

module _ {F : Type 0} (K : Field F) (m w : ℕ) (t : Carried F) where
  abbrev S : CommRing (ℕ → F)
  S = series K.ring

  abbrev inverses : ℕ → ℕ → F
  inverses i = const K.ring (dividing K m w (t.R i))

  abbrev divisors : ℕ → ℕ → F
  divisors i = const K.ring (divisor K m w (t.R i))

  -- the first i rows of R and U are divided, and the first i columns of V are multiplied
  abbrev pub partly : ℕ → Carried F
  partly i = record {
    R = dilate-first S inverses t.R i;
    U = dilate-first S inverses t.U i;
    V' = transpose (dilate-first S divisors (transpose t.V') i);
  }

  row_kept : (i : ℕ) → (partly i).R i ≡ t.R i
  row_kept i = rest-kept S inverses t.R i i (omega arith)

-- all of them
held_all : {p n m w : ℕ} {r u v : List ℕ} (P : Prime p) (t : Carried (Zp p))
    → Holding p n m w r u v (partly (zp_field p P) m w t n) → Holding p n m w r u v (scaled (zp_field p P) m w t)
held_all {p} {n} {m} {w} P t h = let K = zp_field p P in record {
  R = held-matrix-same (by_rows n m w) p (λ i j li _. first-dilated (S K m w t) (inverses K m w t) t.R n i j li) h.R;
  U = held-matrix-same (by_rows n n (n * w)) p (λ i j li _. first-dilated (S K m w t) (inverses K m w t) t.U n i j li) h.U;
  V' = held-matrix-same (by_rows n n w) p (λ i j _ lj. first-dilated (S K m w t) (divisors K m w t) (transpose t.V') n j i lj) h.V';
}

-- at the loop's head
pub record Dividing (p n m w : ℕ) (r₀ u₀ v₀ r u v : List ℕ) (i : ℕ) : Type 0 where
  pub most : i ≤ n
  pub held : (P : Prime p) (t : Carried (Zp p)) → Holding p n m w r₀ u₀ v₀ t → Holding p n m w r u v (partly (zp_field p P) m w t i)

-- the number of what a row is divided by, from its pivot index
number_is : (p : ℕ) (P : Prime p) (m w v : ℕ) (a : Zp p) (x : ℕ) → (0 < v → a.val ≡ x)
    → (some_or_one (zp_field p P) m w v a).val ≡ where_some (index m v) x
unfolding index
number_is p P m w zero a x h = field-one p P
number_is p P m w (suc v) a x h = h (omega arith)

module _ {p n m w : ℕ} {r₀ u₀ v₀ : List ℕ} {pivots : List Pivot} (asked : MonicAsked p n m w r₀ u₀ v₀ pivots) where
  open asked use {prime, bounds, holding, pivots_are}

  pub dividing-all : {r u v : List ℕ} → Dividing p n m w r₀ u₀ v₀ r u v n → MadeMonic p n m w r₀ u₀ v₀ r u v
  dividing-all inv = record { by = λ P t h. held_all P t (inv.held P t h) }

  module _ {r u v : List ℕ} {i : ℕ} (inv : Dividing p n m w r₀ u₀ v₀ r u v i) where
    here : Holding p n m w r u v (partly (zp_field p prime) m w asked.t i)
    here = inv.held prime asked.t holding

    module _ (li : i < n) where
      abbrev pivot : Pivot
      pivot = get_or pivots i zero_row

      -- the leading coefficient of row i is as it was
      leading-kept : PivotAsked m w i pivot r₀ → leading_at m w r i pivot ≡ leading_at m w r₀ i pivot
      leading-kept x =
          let col : index_at pivots i - 1 < m = omega (arith, x.leading.column, x.leading.column_most) in
          let deg : degree_at pivots i - 1 < w = omega (arith, x.leading.height, x.leading.height_most) in
          here.R.at i _ _ li col deg
          ∙ ap (λ row. (row (index_at pivots i - 1) (degree_at pivots i - 1)).val) (row_kept (zp_field p prime) m w asked.t i)
          ∙ sym (holding.R.at i _ _ li col deg)

      pivot-there : 0 < values_of m w r₀ i → PivotAsked m w i pivot r₀
      pivot-there l = pivot-asked n m w bounds.columns r₀ holding.R.size pivots_are i li l

      pub row-asked : RowToDivide p n m w i pivot r u v
      row-asked = record {
        prime = prime;
        t = _;
        holding = here;
        fits = li;
        led = λ l.
            let x = pivot-there (omega (arith, (pivots_are.row i li).index_is, value-is m (values_of m w r₀ i))) in
            record {
              leading = record {
                row = omega (arith, here.R.size, holding.R.size, x.leading.row);
                column = x.leading.column;
                column_most = x.leading.column_most;
                height = x.leading.height;
                height_most = x.leading.height_most;
              };
              nonzero = rw (leading-kept x) x.nonzero;
            };
      }

      module _ {r' u' v' : List ℕ} (d : RowDivided p n m w i pivot r u v r' u' v') where
        module _ (P : Prime p) (t : Carried (Zp p)) (h : Holding p n m w r₀ u₀ v₀ t) where
          abbrev K : Field (Zp p)
          K = zp_field p P

          divisor-number : (divisor K m w (t.R i)).val ≡ d.c
          divisor-number =
              number_is p P m w _ (leading K m w (t.R i)) (leading_at m w r i pivot) (λ l.
              leading-is p P n m w bounds.columns h.R pivots_are i li l
              ∙ sym (leading-kept (pivot-there (omega (arith, value-held p P n m w h.R bounds.columns i li)))))
              ∙ ap (λ (x : ℕ). where_some x (leading_at m w r i pivot))
              (sym ((pivots_are.row i li).index_is ∙ ap (index m) (sym (value-held p P n m w h.R bounds.columns i li))))
              ∙ sym d.c_is

          inverse-number : (dividing K m w (t.R i)).val ≡ d.f
          inverse-number =
              let f : Zp p = record { val = d.f; lt = d.inverse.below } in
              ap (λ (x : Zp p). x.val) (inverse-unique K.ring _ (divisor K m w (t.R i)) f
              (inverse-is K m w (t.R i) (held-bounded (by_rows n m w) p P h.R i li))
              (zp-path _ _ (field-mul p P _ f ∙ ap (λ (x : ℕ). x * d.f % p) divisor-number ∙ d.inverse.one ∙ sym (field-one p P))))

          next-held : Holding p n m w r' u' v' (partly K m w t (suc i))
          next-held = let held = inv.held P t h in record {
            R = held-row-scaled p P n m w _ i li held.R (subst (λ (f : ℕ). RowScaled p m w f i r r') (sym inverse-number) d.r_divided);
            U = held-row-scaled p P n n (n * w) _ i li held.U (subst (λ (f : ℕ). RowScaled p n (n * w) f i u u') (sym inverse-number) d.u_divided);
            V' = held-column-scaled p P n w _ i li held.V' (subst (λ (c : ℕ). ColumnScaled p n w c i v v') (sym divisor-number) d.v_multiplied);
          }

        pub dividing-on : Dividing p n m w r₀ u₀ v₀ r' u' v' (i + 1)
        dividing-on = let next : i + 1 ≡ suc i = omega arith in rw next (record { most = omega arith; held = next-held })
