-- Sum, product, multiple and zero of polynomials as lists of their coefficients, constant term first, all places present.
use Rattle.std.specs.Prelude.{ℕ, suc, ◌+◌, ◌*◌, ◌-◌, ◌%◌, ◌<◌, ◌≤◌, ◌≡◌, List, Bool, true, false, length, get_or, set, leb}
use Rattle.theory_lists.specs.Change.{imap}
use Rattle.theory_lists.specs.Total.{total}
use Rattle.theory_lists.specs.Coefficients.{Coefficients}

-- the coefficient of x^e times b at degree i
abbrev pub shifted_by : Bool → ℕ → List ℕ → ℕ → ℕ
shifted_by true e b i = get_or b (i - e) 0
shifted_by false e b i = 0

abbrev pub shifted : ℕ → List ℕ → ℕ → ℕ
shifted e b i = shifted_by (leb e i) e b i

-- a plus c·x^e times b, modulo p
unfoldable pub plus_multiple : ℕ → ℕ → ℕ → List ℕ → List ℕ → List ℕ
plus_multiple p c e b a = imap (λ i x. (x + c * shifted e b i) % p) a

-- what the sum asks: residues throughout, and no term of x^e times b that falls outside the places of a
pub record MultipleAsked (p c e : ℕ) (a b : List ℕ) : Type 0 where
  pub factor : c < p
  pub target : Coefficients p a
  pub source : Coefficients p b
  pub room : (i : ℕ) → length a ≤ e + i → get_or b i 0 ≡ 0

-- the rule of one place: x plus c times what b has there
abbrev pub plus_times : ℕ → ℕ → List ℕ → ℕ → ℕ → ℕ
plus_times p c b i x = (x + c * get_or b i 0) % p

-- what the sum of a and c times b asks, which have equally many places
pub record AddAsked (p c : ℕ) (a b : List ℕ) : Type 0 where
  pub factor : c < p
  pub same : length a ≡ length b
  pub source : Coefficients p b

-- a with c times y added at place i, modulo p
unfoldable pub plus_term : ℕ → ℕ → ℕ → ℕ → List ℕ → List ℕ
plus_term p c y i a = set a i ((get_or a i 0 + c * y) % p)

-- what the sum of one place asks
pub record TermAsked (p c y i : ℕ) (a : List ℕ) : Type 0 where
  pub factor : c < p
  pub term : y < p
  pub inside : i < length a

-- the coefficient of a times b at degree k: the sum of a_i · b_(k-i)
unfoldable pub product_at : List ℕ → List ℕ → ℕ → ℕ
product_at a b k = total (suc k) (λ i. get_or a i 0 * get_or b (k - i) 0)

-- a times b modulo p, in as many places as out has
unfoldable pub product_of : ℕ → List ℕ → List ℕ → List ℕ → List ℕ
product_of p a b out = imap (λ k x. product_at a b k % p) out

-- what the product asks: no term that falls outside the places of out, and sums of products that fit 64 bits
pub record ProductAsked (p : ℕ) (a b out : List ℕ) : Type 0 where
  pub room : (k : ℕ) → length out ≤ k → product_at a b k % p ≡ 0
  pub short : length a ≤ 4294967296

-- c times a, modulo p
unfoldable pub scaled_by : ℕ → ℕ → List ℕ → List ℕ
scaled_by p c a = imap (λ i x. c * x % p) a

-- zeros, as many as a has places
unfoldable pub zeros : List ℕ → List ℕ
zeros a = imap (λ i x. 0) a
