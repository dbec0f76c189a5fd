-- The multiple of a row that is taken from another, by numbers.
use Rattle.std.specs.Prelude.{◌≡◌, List, ℕ, ◌*◌, ◌-◌, ◌%◌, ◌<◌, get_or}
use Rattle.theory_lists.specs.Place.{spot}
use Rattle.matrix_pivots.specs.declared.pivot.Pivot.{Pivot}

-- the coefficient of row i in column x, counted from 1, that has the height h: its degree is h - 1
abbrev pub coefficient_at : ℕ → ℕ → List ℕ → ℕ → ℕ → ℕ → ℕ
coefficient_at m w r i x h = get_or r (spot m w i (x - 1) (h - 1)) 0

-- the leading coefficient of the pivot of row i
abbrev pub leading_at : ℕ → ℕ → List ℕ → ℕ → Pivot → ℕ
leading_at m w r i x = coefficient_at m w r i x.index.0 x.degree.0

-- c is a divided by b, f is -c, so that rows are only ever added to, and e is d
pub record Divided (p a b d e c f : ℕ) : Type 0 where
  pub e_is : e ≡ d
  pub c_below : c < p
  pub c_is : c * b % p ≡ a
  pub f_is : f ≡ (p - c) % p

-- "Let e = D of l minus D of k, and c the leading coefficient of l's pivot divided by that of k's, mod p." The pivot of l is the high one.
abbrev pub Factor : (p m w l k : ℕ) (high low : Pivot) (r : List ℕ) (e c f : ℕ) → Type 0
Factor p m w l k high low r = Divided p (leading_at m w r l high) (leading_at m w r k low) (high.degree.0 - low.degree.0)
