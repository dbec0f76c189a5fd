-- The subtraction of a step, on a matrix, on its transform and on the transform's inverse.
use Rattle.std.specs.Prelude.{ℕ, ◌-◌}
use Rattle.theory_algebra.specs.Ring.{CommRing}
use Rattle.theory_algebra.specs.Field.{Field}
use Rattle.theory_algebra.specs.Series.{mono}
use Rattle.theory_algebra.specs.Matrix.{transpose, identity, addrow}
use Rattle.theory_rings.specs.Series.{series}
use Rattle.theory_lattice.specs.Row.{Row, coef}
use Rattle.theory_reduction.specs.Pivot.{value, pivot, height}

-- the matrix R with its transform U and the inverse V' of U (`V` is a reserved word)
pub record Carried (F : Type 0) : Type 0 where
  pub R : ℕ → Row F
  pub U : ℕ → Row F
  pub V' : ℕ → Row F

module _ {F : Type 0} (ring : CommRing F) where
  -- q times row k is taken from row l
  abbrev pub subtract : ℕ → ℕ → (ℕ → F) → (ℕ → Row F) → ℕ → Row F
  subtract l k q M = addrow (series ring) M l k ((series ring).neg q)

  -- "U, which starts as the identity; V starts as the identity"
  abbrev pub begin : (ℕ → Row F) → Carried F
  begin A = record { R = A; U = identity (series ring); V' = identity (series ring) }

  -- "The same subtraction is made on the rows of U", and V changes "so that V·R = A still holds":
  -- q times column l is added to column k
  abbrev pub carry : ℕ → ℕ → (ℕ → F) → Carried F → Carried F
  carry l k q t = record {
    R = subtract l k q t.R;
    U = subtract l k q t.U;
    V' = transpose (addrow (series ring) (transpose t.V') k l q);
  }

module _ {F : Type 0} (K : Field F) (m size : ℕ) where
  -- the leading coefficient of the pivot of r; that of a zero row, which has no pivot, is read nowhere: the rows of a step have one
  abbrev pub leading : Row F → F
  leading r = coef r (pivot m (value K m size r))

  -- c x^e, "e = D of l minus D of k, and c the leading coefficient of l's pivot divided by that of k's", for the rows l and k;
  -- heights differ as degrees do
  unfoldable pub factor : Row F → Row F → ℕ → F
  factor l k = mono K.ring (K.ring.mul (leading l) (K.inv (leading k))) (height m (value K m size l) - height m (value K m size k))

  -- "Subtract c·x^e times row k from row l."
  abbrev pub reduce_row : ℕ → ℕ → (ℕ → Row F) → ℕ → Row F
  reduce_row l k M = subtract K.ring l k (factor (M l) (M k)) M

  -- the same with the transform and its inverse
  abbrev pub advance : ℕ → ℕ → Carried F → Carried F
  advance l k t = carry K.ring l k (factor (t.R l) (t.R k)) t
