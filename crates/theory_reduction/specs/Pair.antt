-- The two rows of a step, by the values of the n rows. Rows are counted from 0.
use Rattle.std.specs.Prelude.{◌≡◌, ◌≢◌, ℕ, ◌≤◌, ◌<◌}
use Rattle.std.proofs.Math.Decide.{dec_lt}
use Rattle.theory_reduction.specs.Pivot.{height, Clash}

-- "Take the lowest row a for which a later row has the same non-zero pivot index, and the lowest such later row b."
pub record Pair (n m : ℕ) (v : ℕ → ℕ) : Type 0 where
  pub a : ℕ
  pub b : ℕ
  pub ordered : a < b
  pub fits : b < n
  pub clash : Clash m (v a) (v b)
  pub lowest_a : (i j : ℕ) → i < a → i < j → j < n → ¬ (Clash m (v i) (v j))
  pub lowest_b : (j : ℕ) → a < j → j < b → ¬ (Clash m (v a) (v j))

-- there is no such pair
abbrev pub NoPair : ℕ → ℕ → (ℕ → ℕ) → Type 0
NoPair n m v = (i j : ℕ) → i < j → j < n → ¬ (Clash m (v i) (v j))

-- (a, b), or (b, a) if not A
unfoldable pub ordered_by : {A : Type 0} → Dec A → ℕ → ℕ → ℕ × ℕ
ordered_by (yes _) a b = (a, b)
ordered_by (no _) a b = (b, a)

-- "The one of greater pivot degree is l and the other k; on equal degrees l is b": the rows l and k
unfoldable pub target : ℕ → (ℕ → ℕ) → ℕ → ℕ → ℕ × ℕ
target m v a b = ordered_by (dec_lt (height m (v b)) (height m (v a))) a b

-- what is known of the rows l and k of a pair; on equal degrees l is the later one
pub record StepRows (n m : ℕ) (v : ℕ → ℕ) (l k : ℕ) : Type 0 where
  pub l_fits : l < n
  pub k_fits : k < n
  pub apart : l ≢ k
  pub clash : Clash m (v l) (v k)
  pub degrees : height m (v k) ≤ height m (v l)
  pub tie : height m (v k) ≡ height m (v l) → k < l
