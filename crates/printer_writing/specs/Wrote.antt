-- What is written into a buffer, and where.
use Rattle.std.specs.Prelude.{ℕ, ◌+◌, ◌≤◌, ◌≡◌, List, length}
use Rattle.std.proofs.lemmas.List.Edits.{sets}

-- l with the bytes of w from index a on, and all else as it was
unfoldable pub written : (l : List ℕ) (a : ℕ) (w : List ℕ) → List ℕ
written l a w = sets l a w

-- w was written into l from index a on, which made it l', and r is the index after it
pub record Wrote (l : List ℕ) (a : ℕ) (w : List ℕ) (r : ℕ) (l' : List ℕ) : Type 0 where
  pub now : l' ≡ written l a w
  pub next : r ≡ a + length w

-- l has room for w from index a on
pub record Room (l : List ℕ) (a : ℕ) (w : List ℕ) : Type 0 where
  pub fits : a + length w ≤ length l
