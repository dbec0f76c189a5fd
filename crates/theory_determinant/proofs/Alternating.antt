-- The determinant is alternating, 0 where two rows are equal, and so a multiple of one row added to another leaves it as it is.
use mathlib.Core.Path.{◌≡◌, refl, sym, ◌∙◌, ap, ap₂, fun_ext}
use mathlib.Core.Logic.{◌≢◌}
use Prim.Native.Nat.{ℕ, zero, suc, ◌≤◌, ◌<◌}
use native.Mathlib.Omega.{arith}
use Rattle.theory_algebra.specs.Ring.{CommRing}
use Rattle.theory_algebra.specs.Sum.{sum}
use Rattle.theory_algebra.specs.Matrix.{Mat, setrow, addrow}
use Rattle.theory_algebra.proofs.Ring.{ring}
use Rattle.theory_algebra.proofs.Ring as Ring
use Rattle.theory_algebra.proofs.Cases.{case-le}
use Rattle.theory_algebra.proofs.Sum.{sum-nil, sum-suc, sum-null, sum-add, mul-sum}
use Rattle.theory_algebra.proofs.Matrix.{setrow-same, setrow-other}
use Rattle.theory_lists.specs.Skip.{skip}
use Rattle.theory_lists.proofs.Skip.{skip-low, skip-high, skip-skip}
use Rattle.theory_determinant.specs.Determinant.{minor, sign_at, det}
use Rattle.theory_determinant.proofs.Linear.{det-suc, det-linear}

module _ {F : Type 0} (R : CommRing F) where
  infixl 65 ◌⊕◌
  infixl 70 ◌⊛◌
  open R use {add as ◌⊕◌, mul as ◌⊛◌, neg, 𝟘, 𝟙}

  -- a sum over a rectangle whose two triangles cancel
  triangles : (m : ℕ) (g : ℕ → ℕ → F) → ((j k : ℕ) → k ≤ j → j < m → g (suc j) k ≡ neg (g k j)) → sum R (suc m) (λ j. sum R m (g j)) ≡ 𝟘
  triangles zero g h = sum-null R 1 _ (λ j _. sum-nil R (g j))
  triangles (suc m) g h =
      sum-suc R (suc m) (λ j. sum R (suc m) (g j))
      ∙ ap (λ x. x ⊕ sum R (suc m) (g (suc m))) (
      ap (sum R (suc m)) (fun_ext (λ j. sum-suc R m (g j)))
      ∙ sum-add R (suc m) (λ j. sum R m (g j)) (λ j. g j m)
      ∙ ap (λ x. x ⊕ sum R (suc m) (λ j. g j m)) (triangles m g (λ j k l q. h j k l (omega arith)))
      ∙ Ring.zero-add R _)
      ∙ sym (sum-add R (suc m) (λ j. g j m) (g (suc m)))
      ∙ sum-null R (suc m) _ (λ j l. ap (λ x. g j m ⊕ x) (h m j (omega arith) (omega arith)) ∙ Ring.add-neg R (g j m))

  -- the first two rows are equal: expanded twice, the terms for a pair of columns cancel
  first_two : (n : ℕ) (A : Mat F) → A 0 ≡ A 1 → det R (suc (suc n)) A ≡ 𝟘
  first_two n A e =
      det-suc R (suc n) A
      ∙ ap (sum R (suc (suc n))) (fun_ext (λ j.
      ap (λ x. sign_at R j ⊛ (A 0 j ⊛ x)) (det-suc R n (minor j A)) ∙ sym (Ring.mul_assoc R _ _ _) ∙ mul-sum R (suc n) (sign_at R j ⊛ A 0 j) _))
      ∙ triangles (suc n) g opposite
    where
      g : ℕ → ℕ → F
      g j k = sign_at R j ⊛ A 0 j ⊛ (sign_at R k ⊛ (A 1 (skip j k) ⊛ det R n (minor k (minor j A))))

      turned : (s t a b x : F) → neg s ⊛ a ⊛ (t ⊛ (b ⊛ x)) ≡ neg (t ⊛ b ⊛ (s ⊛ (a ⊛ x)))
      turned s t a b x = simp ring

      opposite : (j k : ℕ) → k ≤ j → j < suc n → g (suc j) k ≡ neg (g k j)
      opposite j k l _ =
          ap₂ (λ c M. neg (sign_at R j) ⊛ A 0 (suc j) ⊛ (sign_at R k ⊛ (c ⊛ det R n M)))
          (ap (A 1) (skip-low (suc j) k (omega arith)) ∙ ap (λ row. row k) (sym e))
          (λ x i s. A (suc (suc i)) (skip-skip j k s l x))
          ∙ turned (sign_at R j) (sign_at R k) (A 0 (suc j)) (A 0 k) _
          ∙ ap (λ c. neg (sign_at R k ⊛ A 0 k ⊛ (sign_at R j ⊛ (c ⊛ det R n (minor j (minor k A))))))
          (ap (λ row. row (suc j)) e ∙ ap (A 1) (sym (skip-high k j l)))

  -- where all minors are 0
  no-minors : (n : ℕ) (A : Mat F) → ((j : ℕ) → det R n (minor j A) ≡ 𝟘) → det R (suc n) A ≡ 𝟘
  no-minors n A h = det-suc R n A ∙ sum-null R (suc n) _ (λ j _. ap (λ x. sign_at R j ⊛ (A 0 j ⊛ x)) (h j) ∙ nothing (sign_at R j) (A 0 j))
    where
      nothing : (s a : F) → s ⊛ (a ⊛ 𝟘) ≡ 𝟘
      nothing s a = simp ring

  -- A with x and y as its first two rows
  abbrev top : Mat F → (ℕ → F) → (ℕ → F) → Mat F
  top A x y zero = x
  top A x y (suc zero) = y
  top A x y (suc (suc i)) = A (suc (suc i))

  module _ (n : ℕ) (A : Mat F) where
    abbrev top-det : (ℕ → F) → (ℕ → F) → F
    top-det x y = det R (suc (suc n)) (top A x y)

    top-own : top-det (A 0) (A 1) ≡ det R (suc (suc n)) A
    top-own = ap (det R (suc (suc n))) (fun_ext own)
      where
        own : (i : ℕ) → top A (A 0) (A 1) i ≡ A i
        own zero = refl
        own (suc zero) = refl
        own (suc (suc i)) = refl

    top-equal : (x : ℕ → F) → top-det x x ≡ 𝟘
    top-equal x = first_two n (top A x x) refl

    top-first : (x y z : ℕ → F) → top-det (λ j. x j ⊕ 𝟙 ⊛ y j) z ≡ top-det x z ⊕ 𝟙 ⊛ top-det y z
    top-first x y z = det-linear R (suc (suc n)) 0 (top A x z) (top A y z) _ 𝟙 (omega arith) (others x _) (others y _) (λ _. refl)
      where
        others : (x y : ℕ → F) (i : ℕ) → i ≢ 0 → top A x z i ≡ top A y z i
        others x y zero ne = absurd (ne refl)
        others x y (suc zero) ne = refl
        others x y (suc (suc i)) ne = refl

    top-second : (x y z : ℕ → F) → top-det z (λ j. x j ⊕ 𝟙 ⊛ y j) ≡ top-det z x ⊕ 𝟙 ⊛ top-det z y
    top-second x y z = det-linear R (suc (suc n)) 1 (top A z x) (top A z y) _ 𝟙 (omega arith) (others x _) (others y _) (λ _. refl)
      where
        others : (x y : ℕ → F) (i : ℕ) → i ≢ 1 → top A z x i ≡ top A z y i
        others x y zero ne = refl
        others x y (suc zero) ne = absurd (ne refl)
        others x y (suc (suc i)) ne = refl

    -- the sum of the first two rows in place of both gives 0: so A gives 0 where it does with the two exchanged
    exchanged : top-det (A 1) (A 0) ≡ 𝟘 → det R (suc (suc n)) A ≡ 𝟘
    exchanged z = sym (sums ∙ parts _ (top-equal (A 0)) z (top-equal (A 1)) ∙ top-own) ∙ top-equal _
      where
        sums : top-det (λ j. A 0 j ⊕ 𝟙 ⊛ A 1 j) (λ j. A 0 j ⊕ 𝟙 ⊛ A 1 j)
            ≡ top-det (A 0) (A 0) ⊕ 𝟙 ⊛ top-det (A 0) (A 1) ⊕ 𝟙 ⊛ (top-det (A 1) (A 0) ⊕ 𝟙 ⊛ top-det (A 1) (A 1))
        sums = top-first (A 0) (A 1) _ ∙ ap₂ (λ x y. x ⊕ 𝟙 ⊛ y) (top-second (A 0) (A 1) (A 0)) (top-second (A 0) (A 1) (A 1))

        parts : (x : F) {a b c : F} → a ≡ 𝟘 → b ≡ 𝟘 → c ≡ 𝟘 → a ⊕ 𝟙 ⊛ x ⊕ 𝟙 ⊛ (b ⊕ 𝟙 ⊛ c) ≡ x
        parts x a b c = simp (a, b, c, ring)

  -- two equal rows, of which the later one is row k
  det-equal : (n i k : ℕ) (A : Mat F) → i < k → k < n → A i ≡ A k → det R n A ≡ 𝟘
  det-equal zero i k A l f e = absurd (omega arith)
  det-equal (suc n) i zero A l f e = absurd (omega arith)
  det-equal (suc n) (suc i) (suc k) A l f e = no-minors n A (λ j.
      det-equal n i k (minor j A) (omega arith) (omega arith) (ap (λ row s. row (skip j s)) e))
  det-equal (suc zero) zero (suc k) A l f e = absurd (omega arith)
  det-equal (suc (suc n)) zero (suc zero) A l f e = first_two n A e
  det-equal (suc (suc n)) zero (suc (suc k)) A l f e = exchanged n A (no-minors (suc n) _ (λ j.
      det-equal (suc n) 0 (suc k) (minor j (top A (A 1) (A 0))) (omega arith) (omega arith) (ap (λ row s. row (skip j s)) e)))

  pub det-alternating : (n i k : ℕ) (A : Mat F) → i < n → k < n → i ≢ k → A i ≡ A k → det R n A ≡ 𝟘
  det-alternating n i k A li lk ne e = case-le (suc i) k (λ l. det-equal n i k A l lk e) (λ l. det-equal n k i A (omega arith) li (sym e))

  -- c times row k is added to row l
  pub det-addrow : (n : ℕ) (A : Mat F) (l k : ℕ) (c : F) → l < n → k < n → l ≢ k → det R n (addrow R A l k c) ≡ det R n A
  det-addrow n A l k c ll lk ne =
      det-linear R n l A B (addrow R A l k c) c ll
      (λ i h. sym (setrow-other A l _ i h)) (λ i h. setrow-other A l _ i h ∙ sym (setrow-other A l _ i h))
      (λ j. rw (setrow-same, setrow-same) refl)
      ∙ ap (λ x. det R n A ⊕ c ⊛ x) (det-alternating n l k B ll lk ne (setrow-same A l (A k) ∙ sym (setrow-other A l (A k) k (λ h. ne (sym h)))))
      ∙ nothing (det R n A)
    where
      B : Mat F
      B = setrow A l (A k)

      nothing : (x : F) → x ⊕ c ⊛ 𝟘 ≡ x
      nothing x = simp ring
