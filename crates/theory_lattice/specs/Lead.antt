-- The leading term of a row in a term order.
use Rattle.std.specs.Prelude.{◌≡◌, ◌≢◌, ℕ, ◌<◌}
use Rattle.theory_algebra.specs.Ring.{CommRing}
use Rattle.theory_lattice.specs.Term.{Term, TermOrder}
use Rattle.theory_lattice.specs.Row.{Row, coef}

module _ {F : Type 0} (R : CommRing F) {m : ℕ} (T : TermOrder m) where
  -- t is the greatest term of r that has a coefficient other than 0
  pub record Lead (t : Term) (r : Row F) : Type 0 where
    pub inside : t.col < m
    pub top : coef r t ≢ R.𝟘
    pub above : (u : Term) → u.col < m → T.lt t u → coef r u ≡ R.𝟘

  -- every term of r is less than t
  abbrev pub Under : Term → Row F → Type 0
  Under t r = (u : Term) → u.col < m → ¬ (T.lt u t) → coef r u ≡ R.𝟘

  -- no two of the first n rows of M have their leading terms in one column
  abbrev pub LeadsApart : ℕ → (ℕ → Row F) → Type 0
  LeadsApart n M = (i j : ℕ) → i < n → j < n → i ≢ j → (s t : Term) → Lead s (M i) → Lead t (M j) → s.col ≢ t.col
