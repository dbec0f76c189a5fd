-- A row that is zero but for its last entry: the determinant is that entry, with its sign, times the determinant without the row and the last column.
use mathlib.Core.Path.{◌≡◌, sym, ◌∙◌, ap, ap₂}
use Prim.Native.Nat.{ℕ, zero, suc, ◌+◌, ◌≤◌, ◌<◌}
use native.Mathlib.Omega.{arith}
use native.Mathlib.Nat as N
use Rattle.theory_algebra.specs.Ring.{CommRing}
use Rattle.theory_algebra.specs.Matrix.{Mat}
use Rattle.theory_algebra.proofs.Ring.{ring}
use Rattle.theory_algebra.proofs.Sum.{sum-suc, sum-cong, sum-single, mul-sum}
use Rattle.theory_lists.specs.Skip.{skip}
use Rattle.theory_lists.proofs.Skip.{skip-low, skip-high, skip-fits}
use Rattle.theory_determinant.specs.Determinant.{without, minor, sign_at, det}
use Rattle.theory_determinant.proofs.Linear.{term, det-suc, det-same}

module _ {F : Type 0} (R : CommRing F) where
  infixl 65 ◌⊕◌
  infixl 70 ◌⊛◌
  open R use {add as ◌⊕◌, mul as ◌⊛◌, neg, 𝟘, 𝟙}

  -- row k of n + 1 rows is zero in the first n columns
  abbrev pub Expands : ℕ → ℕ → Mat F → Type 0
  Expands n k A = k ≤ n → ((j : ℕ) → j < n → A k j ≡ 𝟘) → det R (suc n) A ≡ sign_at R (k + n) ⊛ (A k n ⊛ det R n (without k A))

  pub det-last : (n k : ℕ) (A : Mat F) → Expands n k A
  -- only the last term of the expansion counts
  det-last n zero A l h =
      det-suc R n A
      ∙ sum-single R (suc n) n (term R n A) (omega arith) (λ j lj ne.
      ap (λ x. sign_at R j ⊛ (x ⊛ det R n (minor j A))) (h j (omega arith)) ∙ nothing (sign_at R j) (det R n (minor j A)))
      ∙ ap₂ (λ s x. sign_at R s ⊛ (A 0 n ⊛ x)) (sym (N.zero-add n))
      (det-same R n (minor n A) (without 0 A) (λ i j _ lj. ap (A (suc i)) (skip-low n j lj)))
    where
      nothing : (s x : F) → s ⊛ (𝟘 ⊛ x) ≡ 𝟘
      nothing s x = simp ring
  det-last zero (suc k) A l h = absurd (omega arith)
  -- the row is one of every minor: zero in the last of them, and such a row in the others
  det-last (suc n) (suc k) A l h =
      let e : suc k + suc n ≡ suc (suc (k + n)) = omega arith in
      det-suc R (suc n) A
      ∙ sum-suc R (suc n) (term R (suc n) A)
      ∙ ap₂ ◌⊕◌
      (sum-cong R (suc n) _ (λ j. s ⊛ a ⊛ term R n (without (suc k) A) j) (λ j lj.
      ap (λ x. sign_at R j ⊛ (A 0 j ⊛ x)) (early j lj (det-last n k (minor j A))) ∙ pull (sign_at R j) (A 0 j) s a _)
      ∙ sym (mul-sum R (suc n) (s ⊛ a) _)
      ∙ ap (λ x. s ⊛ a ⊛ x) (sym (det-suc R n (without (suc k) A))))
      (ap (λ x. sign_at R (suc n) ⊛ (A 0 (suc n) ⊛ x)) (late (det-last n k (minor (suc n) A))))
      ∙ final s (sign_at R (suc n)) (A 0 (suc n)) a _
      ∙ ap (λ x. sign_at R x ⊛ (a ⊛ det R (suc n) (without (suc k) A))) (sym e)
    where
      s : F
      s = sign_at R (k + n)

      a : F
      a = A (suc k) (suc n)

      pull : (t b s a x : F) → t ⊛ (b ⊛ (s ⊛ (a ⊛ x))) ≡ s ⊛ a ⊛ (t ⊛ (b ⊛ x))
      pull t b s a x = simp ring

      final : (s t b a x : F) → s ⊛ a ⊛ x ⊕ t ⊛ (b ⊛ 𝟘) ≡ neg (neg s) ⊛ (a ⊛ x)
      final s t b a x = simp ring

      nothing : (s x : F) → s ⊛ (𝟘 ⊛ x) ≡ 𝟘
      nothing s x = simp ring

      early : (j : ℕ) → j < suc n → Expands n k (minor j A) → det R (suc n) (minor j A) ≡ s ⊛ (a ⊛ det R n (minor j (without (suc k) A)))
      early j lj row =
          row (omega arith) (λ c lc. h (skip j c) (skip-fits n j c lc))
          ∙ ap (λ c. s ⊛ (A (suc k) c ⊛ det R n (minor j (without (suc k) A)))) (skip-high j n (omega arith))

      late : Expands n k (minor (suc n) A) → det R (suc n) (minor (suc n) A) ≡ 𝟘
      late row =
          row (omega arith) (λ c lc. h (skip (suc n) c) (omega (arith, skip-low (suc n) c (omega arith))))
          ∙ ap (λ x. s ⊛ (x ⊛ det R n (without k (minor (suc n) A)))) (ap (A (suc k)) (skip-low (suc n) n (omega arith)) ∙ h n (omega arith))
          ∙ nothing s _

  -- "a 1 by 1 matrix having its only entry"
  pub det-one : (A : Mat F) → det R 1 A ≡ A 0 0
  det-one A = det-last 0 0 A (omega arith) (λ j l. absurd (omega arith)) ∙ unfold det in one (A 0 0)
    where
      one : (x : F) → 𝟙 ⊛ (x ⊛ 𝟙) ≡ x
      one x = simp ring
