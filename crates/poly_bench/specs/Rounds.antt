-- What the timed functions leave: the result of the last round.
use Rattle.std.specs.Prelude.{ℕ, zero, suc, ◌+◌, ◌%◌, ◌<◌, ◌≤◌, ◌≡◌, Bool, true, false, List, ◌↔◌, length}
use Rattle.std.specs.Borrow.{MutBor}
use Rattle.theory_algebra.specs.Modulus.{Accepted}
use Rattle.poly.specs.arithmetic.Operations.{plus_multiple, product_of, scaled_by}

-- g applied n times
unfoldable pub repeated : ℕ → (List ℕ → List ℕ) → List ℕ → List ℕ
repeated zero g l = l
repeated (suc n) g l = g (repeated n g l)

-- a step on the places that are lent may be taken in each round, where pre says that it may and post what it may leave, and it changes
-- them as the rule says
abbrev pub TakesRounds : (MutBor (List ℕ) → Type 0) → (MutBor (List ℕ) → MutBor (List ℕ) → Type 0) → ℕ → (List ℕ → List ℕ) → List ℕ → Type 0
TakesRounds pre post rounds change l = (n : ℕ) → n < rounds → (p : MutBor (List ℕ)) → p.now ≡ repeated n change l
    → pre p × ((q : MutBor (List ℕ)) → post p q → q.now ≡ change p.now)

-- both lists are reduced modulo p, then c·x^e times b is added to a as often as is asked
pub record Summed (c e p rounds : ℕ) (a b a' b' : List ℕ) : Type 0 where
  pub sum : a' ≡ repeated rounds (plus_multiple p (c % p) e (scaled_by p 1 b)) (scaled_by p 1 a)
  pub source : b' ≡ scaled_by p 1 b

-- the answer of the sums
pub record Added (c e p rounds : ℕ) (a b a' b' : List ℕ) (r : Bool) : Type 0 where
  pub taken : (r ≡ true) ↔ (Accepted p × (e + length b ≤ length a))
  pub done : r ≡ true → Summed c e p rounds a b a' b'
  pub refused : r ≡ false → (a' ≡ a) × (b' ≡ b)

-- the answer of the products, of which each round writes the same
pub record Multiplied (p rounds : ℕ) (a b out out' : List ℕ) (r : Bool) : Type 0 where
  pub taken : (r ≡ true) ↔ (Accepted p × (length a ≤ 65536) × (length b ≤ 65536) × (length a + length b ≤ length out + 1))
  pub done : r ≡ true → out' ≡ repeated rounds (product_of p a b) out
  pub refused : r ≡ false → out' ≡ out
