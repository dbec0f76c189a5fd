-- The rows of A that are not zero in R are independent: at x = 0 the transform U is lower triangular with ones on the diagonal.
use mathlib.Core.Path.{◌≡◌, sym, ◌∙◌, ap, fun_ext}
use mathlib.Core.Logic.{◌≢◌, ◌⊎◌, inl, inr}
use Prim.Native.Nat.{ℕ, suc, ◌≤◌, ◌<◌}
use native.Mathlib.Omega.{arith}
use native.Mathlib.Decide.{ℕ_discrete}
use Rattle.theory_algebra.specs.Field.{Field}
use Rattle.theory_algebra.specs.Matrix.{identity}
use Rattle.theory_algebra.proofs.Ring as Ring
use Rattle.theory_algebra.proofs.Series.{mono-other}
use Rattle.theory_rings.specs.Series.{series}
use Rattle.theory_rings.proofs.Series.{add_at, neg-at}
use Rattle.theory_algebra.proofs.Matrix.{setrow-same, setrow-other}
use Rattle.theory_lattice.specs.Term.{term}
use Rattle.theory_lattice.specs.Row.{Row, comb}
use Rattle.theory_lattice.specs.PolynomialMatrix.{AllBounded}
use Rattle.theory_lattice.proofs.Coefficients.{mul-at-low}
use Rattle.theory_lattice.proofs.DegreeOverPosition.{degree-over-position}
use Rattle.theory_lattice.proofs.Lead.{null-lead}
use Rattle.theory_lattice.proofs.Row.{Idle, comb-null, comb-comb, comb-same, comb-identity}
use Rattle.theory_lattice.proofs.LeadTheorem.{Led}
use Rattle.theory_reduction.specs.Pivot.{value, values, height}
use Rattle.theory_reduction.specs.Step.{Carried, begin, factor, advance}
use Rattle.theory_reduction.specs.Run.{Runs}
use Rattle.theory_reduction.specs.Rank.{Independent}
use Rattle.theory_reduction.proofs.Pivot.{null-value}
use Rattle.theory_reduction.proofs.Lowering.{Lowered}
use Rattle.theory_reduction.proofs.Ending.{runs-keep}
use Rattle.theory_reduction.proofs.Transforms.{Ended}
use Rattle.theory_reduction.proofs.Triangular.{Lower, lower-identity, lower-zero}
use Rattle.theory_reduction.proofs.Combination.{comb-same-rows, comb-led}

module _ {F : Type 0} (K : Field F) (n m size : ℕ) where
  infixl 65 ◌⊕◌
  infixl 70 ◌⊛◌
  open K.ring use {add as ◌⊕◌, mul as ◌⊛◌, neg, 𝟘}

  -- a step with e > 0 changes nothing at x = 0, and one with e = 0 takes an earlier row from a later one
  lower-step : (t : Carried F) (l k : ℕ) → Lowered K n m size t.R l k → Lower K.ring n t.U → Lower K.ring n (advance K m size l k t).U
  lower-step t l k w x = record {
    off = λ i j lij lj. elim (ℕ_discrete i l) [
      | yes e ↦ rw e (own j (omega arith) lj ∙ x.off l j (omega arith) lj)
      | no ne ↦ rw (setrow-other t.U l _ i ne) (x.off i j lij lj)
    ];
    diagonal = λ i li. elim (ℕ_discrete i l) [
      | yes e ↦ rw e (own l (omega arith) w.reducing.l_fits ∙ x.diagonal l w.reducing.l_fits)
      | no ne ↦ rw (setrow-other t.U l _ i ne) (x.diagonal i li)
    ];
  }
    where
      hl : ℕ
      hl = height m (value K m size (t.R l))

      hk : ℕ
      hk = height m (value K m size (t.R k))

      minus : ℕ → F
      minus = (series K.ring).neg (factor K m size (t.R l) (t.R k))

      minus-zero : hk ≢ hl → minus 0 ≡ 𝟘
      minus-zero ne = unfold factor in
          let d = w.reducing.degrees in
          neg-at K.ring _ 0 ∙ ap neg (mono-other K.ring _ _ 0 (omega arith)) ∙ Ring.neg-zero K.ring

      nothing : (j : ℕ) → l ≤ j → j < n → minus 0 ⊛ t.U k j 0 ≡ 𝟘
      nothing j lj ln = elim (ℕ_discrete hk hl) [
        | yes e ↦ (let p = w.reducing.tie e in ap (λ v. minus 0 ⊛ v) (x.off k j (omega arith) ln) ∙ Ring.mul-zero K.ring _)
        | no ne ↦ ap (λ v. v ⊛ t.U k j 0) (minus-zero ne) ∙ Ring.zero-mul K.ring _
      ]

      own : (j : ℕ) → l ≤ j → j < n → (advance K m size l k t).U l j 0 ≡ t.U l j 0
      own j lj ln =
          ap (λ f. f j 0) (setrow-same t.U l _)
          ∙ add_at K.ring _ _ 0
          ∙ ap (λ v. t.U l j 0 ⊕ v) (mul-at-low K.ring minus (t.U k j) 0 (λ i l. absurd (omega arith)) ∙ nothing j lj ln)
          ∙ Ring.add-zero K.ring _

  pub runs-lower : (A : ℕ → Row F) {c : ℕ} {u : Carried F} → Runs K n m size c (begin K.ring A) u
      → AllBounded K.ring n m size A → Lower K.ring n u.U
  runs-lower A r b = (runs-keep K n m size (λ t. Lower K.ring n t.U) (λ t l k _ w. lower-step t l k w) r b (lower-identity K.ring n)).1

  -- "the independent rows of A, as the numbers of the rows that are not zero in R"
  pub listed : (A : ℕ → Row F) (u : Carried F) → Ended K n m size A u → Lower K.ring n u.U
      → Independent K.ring n m (values K m size u.R) A
  listed A u h low q p off null j lj =
      back j lj ∙ fun_ext (λ k. comb-null K.ring n (suc j) y u.U (λ x l. inr (y-zero x l)) (term j k) (omega arith))
    where
      y : ℕ → ℕ → F
      y = comb K.ring n q u.V'

      -- q = y U
      back : (j : ℕ) → j < n → q j ≡ comb K.ring n y u.U j
      back j l = sym (ap (λ r. r j) (comb-comb K.ring n q u.V' u.U)
          ∙ comb-same K.ring n n q _ (identity (series K.ring)) h.transformed.inverse.right_left j l
          ∙ comb-identity K.ring n q j l)

      -- y R = q A = 0, so no part of y R has a leading term
      idle : Led K (degree-over-position m) n y u.R → (x : ℕ) → x < n → Idle K.ring m (y x) (u.R x)
      idle (inl z) = z
      idle (inr g) = absurd (null-lead K.ring (degree-over-position m) _ _ (λ t l. comb-same-rows K n m size A u h q p t l ∙ null t l) g.lead)

      zero_or : (x : ℕ) → x < n → Idle K.ring m (y x) (u.R x) → (y x ≡ (λ _. 𝟘)) ⊎ (comb K.ring n y u.U x ≡ (λ _. 𝟘))
      zero_or x l (inl z) = inr (sym (back x l) ∙ off x l (null-value K m size (u.R x) (h.bounded x l) z))
      zero_or x l (inr z) = inl z

      y-zero : (x : ℕ) → x < n → y x ≡ (λ _. 𝟘)
      y-zero = lower-zero K.ring n u.U low y (λ x l. zero_or x l (idle (comb-led K n m size A u h q p) x l))
