-- The order "degree over position": by degree, and at equal degrees by column, the rightmost being the greatest.
-- In it the greatest term of a row stands in "the rightmost entry of greatest degree".
use Rattle.std.specs.Prelude.{ℕ, ◌+◌, ◌*◌}
use Rattle.theory_lattice.specs.Term.{Term}

-- the number of a term of m columns: of two terms the greater has the greater number
abbrev pub key : ℕ → Term → ℕ
key m t = t.deg * m + t.col
