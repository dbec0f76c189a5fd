-- Lists whose elements are changed by a rule of the index.
use Rattle.std.specs.Prelude.{ℕ, zero, suc, List, [], ◌∷◌}

-- each element x, at its index i, becomes f i x
unfoldable pub imap : (ℕ → ℕ → ℕ) → List ℕ → List ℕ
imap f [] = []
imap f (x ∷ l) = f zero x ∷ imap (λ i. f (suc i)) l

-- the same for the first n elements alone: how far a loop has come that changes one after the other
unfoldable pub upto : ℕ → (ℕ → ℕ → ℕ) → List ℕ → List ℕ
upto zero f l = l
upto (suc n) f [] = []
upto (suc n) f (x ∷ l) = f zero x ∷ upto n (λ i. f (suc i)) l
