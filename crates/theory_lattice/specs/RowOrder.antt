-- The order in which the rows of a form stand.
use Rattle.std.specs.Prelude.{ℕ}
use Rattle.theory_lattice.specs.Term.{Term, TermOrder}

-- the order in which the rows of a form stand, by their leading terms; it is strict
pub record RowOrder : Type 1 where
  pub before : Term → Term → Type 0
  pub trans : (s t u : Term) → before s t → before t u → before s u
  pub irrefl : (t : Term) → ¬ (before t t)

-- smaller leading terms first
abbrev pub ascending : {m : ℕ} → TermOrder m → RowOrder
ascending T = record { before = T.lt; trans = T.trans; irrefl = T.irrefl }
