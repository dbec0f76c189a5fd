-- Polynomials: the series with finitely many terms.
use Rattle.std.specs.Prelude.{◌≡◌, ◌≢◌, ℕ, suc, ◌≤◌}
use Rattle.theory_algebra.specs.Ring.{CommRing}

module _ {F : Type 0} (R : CommRing F) where
  -- f has no term of degree d or more
  abbrev pub Below : (ℕ → F) → ℕ → Type 0
  Below f d = (k : ℕ) → d ≤ k → f k ≡ R.𝟘

  -- f is a polynomial: it is below some bound
  abbrev pub IsPolynomial : (ℕ → F) → Type 0
  IsPolynomial f = (d : ℕ) × Below f d

  -- f is a polynomial of degree a, with the leading coefficient f a
  pub record Degree (f : ℕ → F) (a : ℕ) : Type 0 where
    pub top : f a ≢ R.𝟘
    pub below : Below f (suc a)
