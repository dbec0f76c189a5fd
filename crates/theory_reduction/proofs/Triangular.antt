-- Matrices that at x = 0 are lower triangular with ones on the diagonal take no row of series but 0 to 0.
use mathlib.Core.Path.{◌≡◌, sym, ◌∙◌, ap, fun_ext}
use mathlib.Core.Logic.{◌⊎◌, inl, inr}
use Prim.Native.Nat.{ℕ, zero, suc, ◌+◌, ◌≤◌, ◌<◌}
use native.Mathlib.Omega.{arith}
use Rattle.theory_algebra.specs.Ring.{CommRing}
use Rattle.theory_algebra.specs.Matrix.{identity}
use Rattle.theory_algebra.proofs.Ring as Ring
use Rattle.theory_algebra.proofs.Cases.{case-le}
use Rattle.theory_algebra.proofs.Sum.{sum-cong, sum-single}
use Rattle.theory_algebra.proofs.Series.{mono-same}
use Rattle.theory_rings.specs.Series.{series}
use Rattle.theory_rings.proofs.Series.{zero-at, one_at}
use Rattle.theory_algebra.proofs.Matrix.{identity-same, identity-other}
use Rattle.theory_lattice.specs.Row.{Row, comb}
use Rattle.theory_lattice.proofs.Upto.{extend}
use Rattle.theory_lattice.proofs.Coefficients.{sum-at, mul-at-low}

module _ {F : Type 0} (R : CommRing F) where
  infixl 70 ◌⊛◌
  open R use {mul as ◌⊛◌, 𝟘, 𝟙, mul-one}

  pub record Lower (n : ℕ) (U : ℕ → Row F) : Type 0 where
    pub off : (i j : ℕ) → i < j → j < n → U i j 0 ≡ 𝟘
    pub diagonal : (i : ℕ) → i < n → U i i 0 ≡ 𝟙

  pub lower-identity : (n : ℕ) → Lower n (identity (series R))
  lower-identity n = record {
    off = λ i j l _. ap (λ f. f 0) (identity-other (series R) i j (omega arith)) ∙ zero-at R 0;
    diagonal = λ i _. ap (λ f. f 0) (identity-same (series R) i) ∙ one_at R 0 ∙ mono-same R 𝟙 0;
  }

  -- y is 0 where in every column x either y x or the combination of U by y is 0
  module _ (n : ℕ) (U : ℕ → Row F) (low : Lower n U) (y : ℕ → ℕ → F)
      (h : (x : ℕ) → x < n → (y x ≡ (λ _. 𝟘)) ⊎ (comb R n y U x ≡ (λ _. 𝟘))) where
    -- the coefficients at degree k, from the last row up, where those below k are 0
    at-degree : (k : ℕ) → ((i : ℕ) → i < k → (x : ℕ) → x < n → y x i ≡ 𝟘) → (d x : ℕ) → x < n → n ≤ x + d → y x k ≡ 𝟘
    at-degree k below zero x l e = absurd (omega arith)
    at-degree k below (suc d) x l e = go (at-degree k below d) (h x l)
      where
        go : ((i : ℕ) → i < n → n ≤ i + d → y i k ≡ 𝟘) → (y x ≡ (λ _. 𝟘)) ⊎ (comb R n y U x ≡ (λ _. 𝟘)) → y x k ≡ 𝟘
        go later (inl z) = ap (λ f. f k) z
        go later (inr z) = unfold comb in
            sym (sum-at R n (λ i. (series R).mul (y i) (U i x)) k
            ∙ sum-cong R n _ (λ i. y i k ⊛ U i x 0) (λ i li. mul-at-low R (y i) (U i x) k (λ j lj. below j lj i li))
            ∙ sum-single R n x (λ i. y i k ⊛ U i x 0) l (λ i li ne. case-le (suc i) x
            (λ p. ap (λ v. y i k ⊛ v) (low.off i x p l) ∙ Ring.mul-zero R _)
            (λ p. ap (λ v. v ⊛ U i x 0) (later i li (omega arith)) ∙ Ring.zero-mul R _))
            ∙ ap (λ v. y x k ⊛ v) (low.diagonal x l)
            ∙ mul-one (y x k))
            ∙ ap (λ f. f k) z

    below : (k i : ℕ) → i < k → (x : ℕ) → x < n → y x i ≡ 𝟘
    below zero i l = absurd (omega arith)
    below (suc k) i l = extend (λ i. (x : ℕ) → x < n → y x i ≡ 𝟘) k (below k) (λ x lx. at-degree k (below k) n x lx (omega arith)) i l

    pub lower-zero : (x : ℕ) → x < n → y x ≡ (λ _. 𝟘)
    lower-zero x l = fun_ext (λ i. below (suc i) i (omega arith) x l)
