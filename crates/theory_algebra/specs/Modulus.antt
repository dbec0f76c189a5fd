-- The moduli that are taken.
use Rattle.std.specs.Prelude.{ℕ, ◌≤◌}
use Rattle.theory_algebra.specs.Prime.{Prime}

-- "A residue has … its largest modulus 65,521 given once."
abbrev pub largest : ℕ
largest = 65521

-- a number that residues may be taken by: from 2 up to the largest modulus
pub record InRange (p : ℕ) : Type 0 where
  pub two : 2 ≤ p
  pub most : p ≤ largest

-- a modulus that is taken: "primes 2 to 65,521"
pub record Accepted (p : ℕ) : Type 0 where
  pub prime : Prime p
  pub most : p ≤ largest
