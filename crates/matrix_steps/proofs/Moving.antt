-- A move on the three buffers is the step on the three matrices that they hold.
use mathlib.Core.Path.{◌≡◌, sym, ◌∙◌, ap, ap₂, subst}
use mathlib.Core.Logic.{◌≢◌}
use mathlib.Core.List.{List}
use Prim.Native.Nat.{ℕ, ◌+◌, ◌-◌, ◌*◌, ◌<◌}
use native.Mathlib.Nat as N
use native.Mathlib.Omega.{arith}
use lib.ListN.{get_or}
use Rattle.theory_algebra.specs.Field.{Field}
use Rattle.theory_algebra.specs.Prime.{Prime}
use Rattle.theory_algebra.specs.Residue.{Zp}
use Rattle.theory_algebra.specs.Series.{mono}
use Rattle.theory_algebra.specs.Matrix.{transpose, addrow}
use Rattle.theory_algebra.proofs.Ring as Ring
use Rattle.theory_rings.specs.PrimeField.{zp_field}
use Rattle.theory_rings.proofs.PrimeField.{field-mul}
use Rattle.theory_algebra.proofs.Residue.{zp-path}
use Rattle.theory_rings.specs.Series.{series}
use Rattle.theory_lattice.specs.Term.{up}
use Rattle.theory_lattice.specs.Row.{Row, coef}
use Rattle.theory_lattice.specs.PolynomialMatrix.{AllBounded}
use Rattle.theory_lists.specs.Total.{total}
use Rattle.theory_lists.proofs.Total.{total-lt}
use Rattle.theory_lists.specs.Place.{spot}
use Rattle.matrix_promises.specs.Held.{Held}
use Rattle.matrix_buffers.specs.Added.{RowAdded, ColumnAdded}
use Rattle.matrix_promises.specs.Layout.{by_rows}
use Rattle.matrix_promises.proofs.Held.{held-bounded}
use Rattle.matrix_buffers.proofs.Added.{held-subtract, held-column}
use Rattle.theory_reduction.specs.Pivot.{value, values, pivot, index, height}
use Rattle.theory_reduction.specs.Pair.{StepRows}
use Rattle.theory_reduction.specs.Step.{Carried, leading, factor, subtract, carry, reduce_row, advance}
use Rattle.theory_reduction.proofs.Index.{index-less, height-less, height-some, height_bound, clash-first, clash-second}
use Rattle.theory_reduction.proofs.Pivot.{value-bound, value-lead}
use Rattle.theory_reduction.proofs.Lowering.{Lowered as Lowering, lowered, value-le}
use Rattle.theory_reduction.proofs.Degrees.{narrow_step, u-fits, v_degrees}
use Rattle.theory_reduction.specs.Narrow.{Narrow}
use Rattle.matrix_pivots.specs.Pivot.{values_of, zero_row, index_at, degree_at, Pivots}
use Rattle.matrix_pivots.specs.declared.pivot.Pivot.{Pivot}
use Rattle.matrix_promises.specs.Holding.{Holding}
use Rattle.matrix_steps.specs.multiple.Factor.{coefficient_at, leading_at, Divided, Factor}
use Rattle.matrix_steps.specs.Subtraction.{IsLowered, Followed}
use Rattle.matrix_steps.specs.declared.Lowered.{Lowered}
use Rattle.matrix_steps.proofs.Value.{value-held}

-- the quotient is what gives the dividend
pub quotient_is : {F : Type 0} (K : Field F) (a b c : F) → b ≢ K.ring.𝟘 → K.ring.mul c b ≡ a → K.ring.mul a (K.inv b) ≡ c
quotient_is K a b c ne e =
    ap (λ x. K.ring.mul x (K.inv b)) (sym e) ∙ Ring.mul_assoc K.ring c b (K.inv b) ∙ ap (K.ring.mul c) (K.mul-inv b ne) ∙ Ring.mul-one K.ring c

module _ (p : ℕ) (P : Prime p) where
  abbrev K : Field (Zp p)
  K = zp_field p P

  -- q is x^d times the quotient of two residues a and b, which has been worked out by their numbers
  module _ (a b : Zp p) (nonzero : b ≢ K.ring.𝟘) {d e c f : ℕ} (g : Divided p a.val b.val d e c f) where
    abbrev q : ℕ → Zp p
    q = mono K.ring (K.ring.mul a (K.inv b)) d

    c₀ : Zp p
    c₀ = record { val = c; lt = g.c_below }

    q-is : q ≡ mono K.ring c₀ e
    unfolding c₀
    q-is = ap₂ (mono K.ring) (quotient_is K a b c₀ nonzero (zp-path _ _ (field-mul p P c₀ b ∙ g.c_is))) (sym g.e_is)

    -- q times row k is taken from row l of R or U, where nothing falls outside
    pub row_moved : (n m w l k : ℕ) → l < n → k < n → {s s' : List ℕ} {M : ℕ → Row (Zp p)} → Held (by_rows n m w) p s M → RowAdded p m w f e l k s s'
        → AllBounded K.ring n m w (subtract K.ring l k q M) → Held (by_rows n m w) p s' (subtract K.ring l k q M)
    unfolding c₀
    row_moved n m w l k ll lk {s' = s'} {M = M} held added fits =
        subst (λ q. Held (by_rows n m w) p s' (subtract K.ring l k q M)) (sym q-is)
        (held-subtract p P n m w c₀ f e l k g.f_is ll lk held added (subst (λ q. AllBounded K.ring n m w (subtract K.ring l k q M)) q-is fits))

    -- and q times column l is added to column k of V
    pub column-moved : (n w l k : ℕ) → l < n → k < n → {s s' : List ℕ} {M : ℕ → Row (Zp p)} → Held (by_rows n n w) p s M → ColumnAdded p n w c e k l s s'
        → AllBounded K.ring n n w (transpose (addrow (series K.ring) (transpose M) k l q))
        → Held (by_rows n n w) p s' (transpose (addrow (series K.ring) (transpose M) k l q))
    unfolding c₀
    column-moved n w l k ll lk {s' = s'} {M = M} held added fits =
        subst (λ q. Held (by_rows n n w) p s' (transpose (addrow (series K.ring) (transpose M) k l q))) (sym q-is)
        (held-column p P n w c₀ e k l lk ll held added
        (subst (λ q. AllBounded K.ring n n w (transpose (addrow (series K.ring) (transpose M) k l q))) q-is fits))

    -- what the buffers hold after both
    pub subtracted-holding : (n m w l k : ℕ) → l < n → k < n → {r u v r' u' v' : List ℕ} {t : Carried (Zp p)} → Holding p n m w r u v t
        → RowAdded p m w f e l k r r' → Followed p n w l k e c f u v u' v' → let t' = carry K.ring l k q t in
        AllBounded K.ring n m w t'.R → AllBounded K.ring n n (n * w) t'.U → AllBounded K.ring n n w t'.V' → Holding p n m w r' u' v' t'
    subtracted-holding n m w l k ll lk h r_move s r-fits u-fits v-fits = record {
      R = row_moved n m w l k ll lk h.R r_move r-fits;
      U = row_moved n n (n * w) l k ll lk h.U s.u_move u-fits;
      V' = column-moved n w l k ll lk h.V' s.v_move v-fits;
    }

  module _ (n m w : ℕ) (columns : 0 < m) where
    -- a matrix that a buffer holds, with the pivots of its rows
    module _ {r : List ℕ} {pivots : List Pivot} {M : ℕ → Row (Zp p)} (h : Held (by_rows n m w) p r M)
        (found : Pivots n m (values_of m w r) pivots) where
      bounded : AllBounded K.ring n m w M
      bounded = held-bounded (by_rows n m w) p P h

      pub height-is : (i : ℕ) → i < n → degree_at pivots i ≡ height m (value K m w (M i))
      height-is i li = (found.row i li).degree_is ∙ ap (height m) (sym (value-held p P n m w h columns i li))

      pub column-is : (i : ℕ) → i < n → index_at pivots i - 1 ≡ (pivot m (value K m w (M i))).col
      column-is i li =
          ap (λ (x : ℕ). x - 1) ((found.row i li).index_is ∙ ap (index m) (sym (value-held p P n m w h columns i li))) ∙ index-less m (value K m w (M i))

      pub degree_is : (i : ℕ) → i < n → degree_at pivots i - 1 ≡ (pivot m (value K m w (M i))).deg
      degree_is i li = ap (λ (x : ℕ). x - 1) (height-is i li) ∙ height-less m (value K m w (M i))

      -- the coefficient of row k at x^e times the leading term of row i, which is not zero
      pub coefficient-is : (k i e : ℕ) → k < n → i < n → 0 < value K m w (M i) → e + (pivot m (value K m w (M i))).deg < w
          → (coef (M k) (up e (pivot m (value K m w (M i))))).val ≡ coefficient_at m w r k (index_at pivots i) (degree_at pivots i + e)
      coefficient-is k i e lk li some fits =
          let degree : degree_at pivots i + e - 1 ≡ e + (pivot m (value K m w (M i))).deg = omega (arith, height-is i li, height-some m _ some) in
          sym (h.at k _ _ lk (N.mod-lt _ columns) fits) ∙ sym (ap₂ (λ (x y : ℕ). get_or r (spot m w k x y) 0) (column-is i li) degree)

      pub leading-is : (i : ℕ) → i < n → 0 < value K m w (M i) → (leading K m w (M i)).val ≡ leading_at m w r i (get_or pivots i zero_row)
      leading-is i li some =
          let v = value K m w (M i) in
          let bound = height_bound m w v (value-bound K m w (M i) (bounded i li)) in
          rw (N.zero-add, N.add-zero) at (coefficient-is i i 0 li li some (omega (arith, height-some m v some)))

      -- a step of the first kind on rows l and k
      module _ (l k : ℕ) (x : StepRows n m (values K m w M) l k) where
        lowering : Lowering K n m w M l k
        lowering = lowered K n m w M l k bounded x

        k-nonzero : leading K m w (M k) ≢ K.ring.𝟘
        k-nonzero = (value-lead K m w (M k) (bounded k x.k_fits) (clash-second x.clash)).top

        factor-is : {e c f : ℕ} → Factor p m w l k (get_or pivots l zero_row) (get_or pivots k zero_row) r e c f
            → Divided p (leading K m w (M l)).val (leading K m w (M k)).val (height m (value K m w (M l)) - height m (value K m w (M k))) e c f
        factor-is g = rw (leading-is l x.l_fits (clash-first x.clash), leading-is k x.k_fits (clash-second x.clash))
            (rw (← height-is l x.l_fits, ← height-is k x.k_fits) g)

        -- another matrix that follows, where nothing falls outside
        pub step-followed : {e c f : ℕ} → Factor p m w l k (get_or pivots l zero_row) (get_or pivots k zero_row) r e c f
            → (m' w' : ℕ) {s s' : List ℕ} {N' : ℕ → Row (Zp p)} → Held (by_rows n m' w') p s N' → RowAdded p m' w' f e l k s s'
            → AllBounded K.ring n m' w' (subtract K.ring l k (factor K m w (M l) (M k)) N')
            → Held (by_rows n m' w') p s' (subtract K.ring l k (factor K m w (M l) (M k)) N')
        unfolding factor
        step-followed g m' w' = row_moved _ _ k-nonzero (factor-is g) n m' w' l k x.l_fits x.k_fits

        -- the matrix itself
        module _ {r' : List ℕ} {y : Lowered} (lowered : IsLowered p m w l k (get_or pivots l zero_row) (get_or pivots k zero_row) r r' y) where
          pub step-held : Held (by_rows n m w) p r' (reduce_row K m w l k M)
          step-held = step-followed lowered.factor m w h lowered.r_move lowering.bounded

          -- the sum of the values falls
          pub step_falls : total n (values_of m w r') < total n (values_of m w r)
          step_falls =
              let before = value-held p P n m w h columns in
              let after = value-held p P n m w step-held columns in
              total-lt n l _ _ x.l_fits (omega (arith, after l x.l_fits, before l x.l_fits, lowering.lower))
              (λ i li. omega (arith, after i li, before i li, value-le K n m w M l k lowering i))

    -- with the transforms
    module _ {A : ℕ → Row (Zp p)} (ab : AllBounded K.ring n m w A) (places : 0 < w)
        {r u v : List ℕ} {pivots : List Pivot} {t : Carried (Zp p)} (h : Holding p n m w r u v t)
        (narrow : Narrow K n m w A t) (found : Pivots n m (values_of m w r) pivots)
        (l k : ℕ) (x : StepRows n m (values K m w t.R) l k) where
      move-lowers : Lowering K n m w t.R l k
      move-lowers = lowering h.R found l k x

      pub move-narrow : Narrow K n m w A (advance K m w l k t)
      move-narrow = narrow_step K n m w A t l k (held-bounded (by_rows n m w) p P h.R) move-lowers narrow

      pub move-holding : {r' u' v' : List ℕ} {y : Lowered} → IsLowered p m w l k (get_or pivots l zero_row) (get_or pivots k zero_row) r r' y
          → Followed p n w l k y.multiple.exponent y.multiple.factor.0 y.multiple.negated.0 u v u' v'
          → Holding p n m w r' u' v' (advance K m w l k t)
      unfolding factor
      move-holding lowered followed =
          subtracted-holding _ _ (k-nonzero h.R found l k x) (factor-is h.R found l k x lowered.factor)
          n m w l k x.l_fits x.k_fits h lowered.r_move followed move-lowers.bounded
          (λ i li j lj. u-fits K n m w A _ ab move-narrow places i j li lj) (λ i li j lj. v_degrees K n m w A _ ab move-narrow places i j li lj)
