-- A step of the second kind on a matrix whose rows ascend: the values of the rows stay, and what is left to remove gets less.
use mathlib.Core.Path.{◌≡◌, sym, ◌∙◌, ap, subst, fun_ext}
use mathlib.Core.Logic.{◌≢◌}
use Prim.Native.Nat.{ℕ, suc, ◌+◌, ◌-◌, ◌≤◌, ◌<◌}
use native.Mathlib.Omega.{arith}
use native.Mathlib.Decide.{ℕ_discrete}
use native.Mathlib.Nat as N
use Rattle.theory_algebra.specs.Field.{Field}
use Rattle.theory_algebra.specs.Polynomial.{Below}
use Rattle.theory_algebra.proofs.Cases.{case-le}
use Rattle.theory_rings.specs.Series.{series}
use Rattle.theory_algebra.proofs.Matrix.{setrow-same, setrow-other}
use Rattle.theory_lattice.specs.Term.{term}
use Rattle.theory_lattice.specs.Row.{Row, plus, scale}
use Rattle.theory_lattice.proofs.Coefficients.{below_more}
use Rattle.theory_lattice.proofs.DegreeOverPosition.{degree-over-position}
use Rattle.theory_lists.specs.Total.{total}
use Rattle.theory_lists.proofs.Total.{total-lt}
use Rattle.theory_reduction.specs.Pivot.{top, value, values, pivot}
use Rattle.theory_reduction.specs.Step.{subtract}
use Rattle.theory_reduction.proofs.Index.{key-pivot, clash-of}
use Rattle.theory_reduction.proofs.Pivot.{value-lead, value-null}
use Rattle.theory_popov.specs.SecondKind.{Removal, pivot_of, excess, excesses, remover}
use Rattle.theory_popov.specs.Tidy.{Ascending, Tidy}
use Rattle.theory_popov.proofs.Excess.{excess-least, excess-below}
use Rattle.theory_popov.proofs.Removing.{Removed, removed}
use Rattle.theory_popov.proofs.Load.{load, load-falls}

module _ {F : Type 0} (K : Field F) (n m size : ℕ) where
  abbrev v : (ℕ → Row F) → ℕ → ℕ
  v = values K m size

  abbrev x : (ℕ → Row F) → ℕ → ℕ → ℕ
  x = excesses K m size

  -- row i has smaller degree in the pivot column of row j than row j has
  abbrev Small : (ℕ → Row F) → ℕ → ℕ → Type 0
  Small M i j = Below K.ring (M i (pivot_of K m size (M j)).col) (pivot_of K m size (M j)).deg

  -- what is left to remove
  abbrev pub left : (ℕ → Row F) → ℕ
  left M = total n (λ a. load a (x M a))

  module _ (r : ℕ) (columns : 0 < m) (M : ℕ → Row F) (y : Tidy K n m size r M) where
    abbrev A : Ascending n m r (v M)
    A = y.ascends

    pub zero-excess : (a j : ℕ) → r ≤ a → a < n → x M a j ≡ 0
    zero-excess a j l la = omega (
      arith,
      excess-least K m size (M a) (M j) 0
          (λ d _. value-null K m size (M a) (y.bounded a la) (A.none a l la) (term (pivot_of K m size (M j)).col d) (N.mod-lt _ columns)),
    )

    -- an earlier row is small for its smaller leading term, and a later row where it has no excess
    pub small : (i j : ℕ) → i < n → j < r → i ≢ j → (j < i → x M i j ≡ 0) → Small M i j
    unfolding degree-over-position
    small i j li lj ne none d ld = case-le (suc i) j
        (λ l.
        let fits = A.rank_fits in
        let lead-i = value-lead K m size (M i) (y.bounded i li) (A.some i (omega arith)) in
        let lead-j = value-lead K m size (M j) (y.bounded j (omega arith)) (A.some j lj) in
        lead-i.above (term (pivot m (v M j)).col d) lead-j.inside
        (omega (arith, A.ascending i j l lj, A.some i (omega arith), key-pivot m (v M i), key-pivot m (v M j), N.mul-le-mul_right m ld)))
        (λ l. excess-below K m size (M i) (M j) columns (y.bounded i li) d (omega (arith, none (omega arith))))

    module _ (p : Removal n (x M)) where
      abbrev k : ℕ
      k = p.k

      abbrev i : ℕ
      i = p.highest.at

      -- row k is not zero
      pub k_some : k < r
      k_some = case-le r k (λ l. absurd (omega (arith, zero-excess k i l p.fits, p.highest.some))) (λ l. l)

      pub i_fits : i < n
      i_fits = omega (arith, p.highest.fits, p.fits)

      pub removed-row : Removed K m size (M k) (M i)
      removed-row =
          let i-some = A.some i (omega (arith, p.highest.fits, k_some)) in
          removed K m size (M k) (M i) (y.bounded k p.fits) (y.bounded i i_fits) (A.some k k_some) i-some
          (λ e. A.apart i k p.highest.fits p.fits (clash-of i-some (A.some k k_some) e)) p.highest.some

      abbrev q : ℕ → F
      q = remover K m size (M k) (M i)

      abbrev M' : ℕ → Row F
      M' = subtract K.ring k i q M

      abbrev new : Row F
      new = plus K.ring (M k) (scale K.ring ((series K.ring).neg q) (M i))

      own : M' k ≡ new
      unfolding plus scale
      own = setrow-same M k _

      others : (j : ℕ) → j ≢ k → M' j ≡ M j
      others = setrow-other M k _

      pub values-kept : (j : ℕ) → v M' j ≡ v M j
      values-kept j = elim (ℕ_discrete j k) [
        | yes e ↦ rw (e, own) removed-row.kept
        | no ne ↦ ap (value K m size) (others j ne)
      ]

      pub tidy-step : Tidy K n m size r M'
      tidy-step = record {
        bounded = λ j lj. elim (ℕ_discrete j k) [ yes e ↦ rw (e, own) removed-row.bounded | no ne ↦ rw (others j ne) (y.bounded j lj) ];
        ascends = subst (Ascending n m r) (sym (fun_ext values-kept)) A;
      }

      -- excesses depend on the values of the earlier rows alone
      excess-kept : (f : Row F) (j : ℕ) → excess K m size f (M' j) ≡ excess K m size f (M j)
      unfolding excess
      excess-kept f j = ap (λ z. top K size (f (pivot m z).col) - (pivot m z).deg) (values-kept j)

      new-excess : (j : ℕ) → x M' k j ≡ excess K m size new (M j)
      new-excess j = excess-kept (M' k) j ∙ ap (λ f. excess K m size f (M j)) own

      -- the greatest becomes less, and no other grows beyond that, for row i is small in the pivot columns of the other rows before k
      own-less : excess K m size new (M i) < x M k i
      own-less = let s = p.highest.some in omega (arith, excess-least K m size new (M i) (x M k i - 1) removed-row.own)

      other-less : (j : ℕ) → j < k → j ≢ i → excess K m size new (M j) ≤ x M k j + (x M k i - 1 - x M k j)
      other-less j lj ne = excess-least K m size new (M j) _ (removed-row.other (pivot_of K m size (M j)).col _ _ (omega arith)
          (below_more K.ring _ _ _ (omega arith) (excess-below K m size (M k) (M j) columns (y.bounded k p.fits)))
          (small i j i_fits (omega (arith, k_some)) (λ e. ne (sym e)) (λ l. p.done i j l p.highest.fits)))

      load-less : load k (x M' k) < load k (x M k)
      load-less = load-falls k (x M k) (x M' k) p.highest (omega (arith, new-excess i, own-less)) (λ j lj. elim (ℕ_discrete j i) [
        | yes e ↦ rw e (omega (arith, new-excess i, own-less))
        | no ne ↦ omega (arith, new-excess j, other-less j lj ne)
      ])

      -- no other row's excesses change
      pub excesses-kept : (a : ℕ) → a ≢ k → x M' a ≡ x M a
      excesses-kept a ne = fun_ext (λ j. excess-kept (M' a) j ∙ ap (λ f. excess K m size f (M j)) (others a ne))

      pub left-falls : left M' < left M
      left-falls = total-lt n k _ _ p.fits load-less (λ a _. elim (ℕ_discrete a k) [
        | yes e ↦ rw e (omega (arith, load-less))
        | no ne ↦ rw (excesses-kept a ne) (omega arith)
      ])
