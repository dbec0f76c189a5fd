-- The result of the single step.
use Rattle.std.specs.Prelude.{List, ℕ, ◌<◌}
use Rattle.theory_algebra.specs.Prime.{Prime}
use Rattle.theory_algebra.specs.Residue.{Zp}
use Rattle.theory_rings.specs.PrimeField.{zp_field}
use Rattle.theory_reduction.specs.Process.{Once}
use Rattle.theory_reduction.specs.Run.{reduction}
use Rattle.theory_reduction.specs.Step.{Carried, begin}
use Rattle.matrix_promises.specs.Layout.{by_rows}
use Rattle.matrix_promises.specs.Held.{Held, matrix_of}

-- "The single step returns the matrix after one step and the count 1, or an equal copy and the count 0 where the form is reached."
pub record SteppedBy (p : ℕ) (P : Prime p) (some : 0 < p) (n m w count : ℕ) (a r : List ℕ) : Type 0 where
  pub t : Carried (Zp p)
  pub stepped : Once (reduction (zp_field p P) n m w) count (begin (zp_field p P).ring (matrix_of (by_rows n m w) p some a)) t
  pub held : Held (by_rows n m w) p r t.R

-- whatever proof of primality is in hand
pub record SteppedOnce (p n m w count : ℕ) (a r : List ℕ) : Type 0 where
  pub by : (P : Prime p) (some : 0 < p) → SteppedBy p P some n m w count a r
