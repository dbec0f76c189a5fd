-- Matrices over a commutative ring. A matrix has an entry in every row and column, counted from 0;
-- how many of them are meant is said where it matters.
use Rattle.std.specs.Prelude.{◌≡◌, ℕ, ◌<◌}
use Rattle.theory_algebra.specs.Ring.{CommRing}
use Rattle.theory_algebra.specs.Cases.{if_equal}
use Rattle.theory_algebra.specs.Sum.{sum}

-- A i j is the entry in row i and column j
abbrev pub Mat : Type 0 → Type 0
Mat F = ℕ → ℕ → F

-- i and j exchanged, every other number as it is
unfoldable pub swap : ℕ → ℕ → ℕ → ℕ
swap i j k = if_equal k i j (if_equal k j i k)

module _ {F : Type 0} where
  -- A and B agree in their first n rows and m columns
  abbrev pub Same : ℕ → ℕ → Mat F → Mat F → Type 0
  Same n m A B = (i j : ℕ) → i < n → j < m → A i j ≡ B i j

  -- the rows of A as columns
  abbrev pub transpose : Mat F → Mat F
  transpose A i j = A j i

  -- A with row r replaced by u
  unfoldable pub setrow : Mat F → ℕ → (ℕ → F) → Mat F
  setrow A r u i = if_equal i r u (A i)

  -- row i is row σ i of A
  abbrev pub permute : (ℕ → ℕ) → Mat F → Mat F
  permute σ A i = A (σ i)

module _ {F : Type 0} (R : CommRing F) where
  -- the product of A, with n columns, and B, with n rows
  unfoldable pub product : ℕ → Mat F → Mat F → Mat F
  product n A B i j = sum R n (λ k. R.mul (A i k) (B k j))

  -- 1 on the diagonal, 0 elsewhere
  unfoldable pub identity : Mat F
  identity i j = if_equal i j R.𝟙 R.𝟘

  -- c times row k is added to row l of A
  abbrev pub addrow : Mat F → ℕ → ℕ → F → Mat F
  addrow A l k c = setrow A l (λ j. R.add (A l j) (R.mul c (A k j)))

  -- row l of A is multiplied by c
  abbrev pub scalerow : Mat F → ℕ → F → Mat F
  scalerow A l c = setrow A l (λ j. R.mul c (A l j))

  -- row i of A is multiplied by u i
  abbrev pub dilate : (ℕ → F) → Mat F → Mat F
  dilate u A i j = R.mul (u i) (A i j)
