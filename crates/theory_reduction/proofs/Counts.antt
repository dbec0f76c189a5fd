-- The two bounds on the number of steps.
use mathlib.Core.Path.{◌≡◌, refl, sym, ◌∙◌, ap}
use mathlib.Core.Logic.{◌≢◌}
use Prim.Native.Nat.{ℕ, zero, suc, ◌+◌, ◌-◌, ◌*◌, ◌/◌, ◌≤◌, ◌<◌}
use native.Mathlib.Omega.{arith}
use native.Mathlib.Decide.{ℕ_discrete}
use native.Mathlib.Nat as N
use Rattle.theory_algebra.specs.Field.{Field}
use Rattle.theory_lattice.specs.Term.{Term}
use Rattle.theory_lattice.specs.DegreeOverPosition.{key}
use Rattle.theory_lattice.specs.Row.{Row}
use Rattle.theory_lattice.specs.PolynomialMatrix.{AllBounded}
use Rattle.theory_lists.specs.Total.{total}
use Rattle.theory_reduction.specs.Pivot.{values, pivot, index}
use Rattle.theory_reduction.specs.Pair.{StepRows}
use Rattle.theory_reduction.specs.Process.{halt, more}
use Rattle.theory_reduction.specs.Step.{Carried, reduce_row}
use Rattle.theory_reduction.specs.Run.{advance_pair, Runs}
use Rattle.theory_reduction.specs.State.{state}
use Rattle.theory_reduction.specs.Rank.{sign, rank}
use Rattle.theory_lists.proofs.Total.{total-le, total-lt, total-bound, total-scale}
use Rattle.theory_reduction.proofs.Index.{key-pivot, value-is}
use Rattle.theory_reduction.proofs.Pivot.{value-bound}
use Rattle.theory_reduction.proofs.Lowering.{Lowered, value-le}
use Rattle.theory_reduction.proofs.Ending.{pair-lowered}

-- the number of terms up to the value v in the column of pivot index x; 0 for the index 0 of a zero row
unfoldable hits : ℕ → ℕ → ℕ → ℕ
hits m zero v = 0
hits m (suc c) v = (v + (m - suc c)) / m

module _ (m : ℕ) (pos : 0 < m) where
  hits-mono : (x v w : ℕ) → w ≤ v → hits m x w ≤ hits m x v
  unfolding hits
  hits-mono zero v w l = omega arith
  hits-mono (suc c) v w l = (N.le-div_iff_mul-le pos).1 (omega (arith, N.div-mul-le_self (w + (m - suc c)) m))

  -- below v there are fewer of its own column
  hits-drop : (v w : ℕ) → w < v → hits m (index m v) w < hits m (index m v) v
  unfolding hits index
  hits-drop zero w l = absurd (omega arith)
  hits-drop (suc y) w l =
      let t : Term = pivot m (suc y) in
      let k : key m t ≡ suc y - 1 = key-pivot m (suc y) in
      let s : suc t.deg * m ≡ t.deg * m + m = N.suc-mul t.deg m in
      let c : t.col < m = N.mod-lt (suc y - 1) pos in
      let low : (w + (m - suc t.col)) / m < suc t.deg = (N.div-lt_iff_lt-mul pos).1 (omega arith) in
      let high : suc t.deg ≤ (suc y + (m - suc t.col)) / m = (N.le-div_iff_mul-le pos).1 (omega arith) in
      omega arith

  hits-bound : (z v size : ℕ) → v ≤ size * m → hits m (index m z) v ≤ sign z * size
  unfolding hits index
  hits-bound zero v size l = omega arith
  hits-bound (suc z) v size l =
      let s : suc size * m ≡ size * m + m = N.suc-mul size m in
      let h : (v + (m - suc (pivot m (suc z)).col)) / m < suc size = (N.div-lt_iff_lt-mul pos).1 (omega arith) in
      omega arith

module _ {F : Type 0} (K : Field F) (n m size : ℕ) where
  abbrev v : (ℕ → Row F) → ℕ → ℕ
  v = values K m size

  -- x is the pivot index of a row of M
  record Uses (M : ℕ → Row F) (x : ℕ) : Type 0 where
    at : ℕ
    fits : at < n
    same : index m (v M at) ≡ x

  -- no pivot index is lost: that of row l is also that of row k
  step-uses : (M : ℕ → Row F) (l k : ℕ) → Lowered K n m size M l k → (x : ℕ) → Uses M x → Uses (reduce_row K m size l k M) x
  step-uses M l k w x y = elim (ℕ_discrete y.at l) [
    | yes e ↦ kept k g.k_fits (λ z. g.apart (sym z)) (sym g.clash.same ∙ ap (λ i. index m (v M i)) (sym e) ∙ y.same)
    | no ne ↦ kept y.at y.fits ne y.same
  ]
    where
      g : StepRows n m (v M) l k
      g = w.reducing

      kept : (i : ℕ) → i < n → i ≢ l → index m (v M i) ≡ x → Uses (reduce_row K m size l k M) x
      kept i li ne e = record { at = i; fits = li; same = rw (w.others i ne) e }

  runs-uses : {c : ℕ} {t u : Carried F} → Runs K n m size c t u → AllBounded K.ring n m size t.R → (x : ℕ) → Uses t.R x → Uses u.R x
  unfolding advance_pair
  runs-uses (halt h) b x y = y
  runs-uses (more {x = t} p r) b x y = let w = pair-lowered K n m size t b p in runs-uses r w.bounded x (step-uses t.R _ _ w x y)

  -- a measure of values bounds the count, where it falls with those that have a pivot index of the result
  measured : (w : ℕ → ℕ) {c : ℕ} {t u : Carried F} → Runs K n m size c t u → AllBounded K.ring n m size t.R
      → ((x y : ℕ) → y ≤ x → w y ≤ w x) → ((x y : ℕ) → Uses u.R (index m x) → y < x → w y < w x)
      → c + total n (λ i. w (v u.R i)) ≤ total n (λ i. w (v t.R i))
  unfolding advance_pair
  measured w (halt h) b mono drop = omega arith
  measured w (more {x = t} p r) b mono drop =
      let y = pair-lowered K n m size t b p in
      let used = runs-uses (more p r) b _ (record { at = _; fits = y.reducing.l_fits; same = refl }) in
      omega (
        arith,
        total-lt n _ _ _ y.reducing.l_fits (drop _ _ used y.lower) (λ i _. mono _ _ (value-le K n m size t.R _ _ y i)),
        measured w r y.bounded mono drop,
      )

  module _ {c : ℕ} {t u : Carried F} (r : Runs K n m size c t u) (b : AllBounded K.ring n m size t.R) where
    -- "the count is at most the state of A less the state of R"
    pub count_state : c + state K n m size u.R ≤ state K n m size t.R
    count_state = simp (← value-is) (measured (λ x. x) r b (λ x y l. l) (λ x y _ l. l))

    -- "With rank r the count is at most n·r·(d+1)": a row is measured by
    -- the number of terms up to its value in the pivot columns of R
    pub count_rank : 0 < m → c ≤ n * (rank K n m size u.R * size)
    count_rank pos =
        omega (
          arith,
          measured weight r b (λ x y l. total-le n _ _ (λ i _. hits-mono m pos _ x y l)) drop,
          total-bound n (rank K n m size u.R * size) (λ i. weight (v t.R i)) (λ i li. most _ (value-bound K m size (t.R i) (b i li))),
        )
      where
        weight : ℕ → ℕ
        weight x = total n (λ i. hits m (index m (v u.R i)) x)

        drop : (x y : ℕ) → Uses u.R (index m x) → y < x → weight y < weight x
        drop x y z l = total-lt n z.at _ _ z.fits (rw z.same (hits-drop m pos x y l)) (λ i _. hits-mono m pos _ x y (omega arith))

        most : (x : ℕ) → x ≤ size * m → weight x ≤ rank K n m size u.R * size
        most x l = rw (total-scale n size (λ i. sign (v u.R i))) at
            (total-le n (λ i. hits m (index m (v u.R i)) x) _ (λ i _. hits-bound m pos (v u.R i) x size l))
