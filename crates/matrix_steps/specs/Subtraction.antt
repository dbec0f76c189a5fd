-- A subtraction of rows on the buffers, by numbers.
use Rattle.std.specs.Prelude.{List, ℕ, ◌*◌}
use Rattle.matrix_buffers.specs.Added.{RowAdded, ColumnAdded}
use Rattle.matrix_pivots.specs.Pivot.{value_of, row_of, IsPivotOf}
use Rattle.matrix_pivots.specs.declared.pivot.Pivot.{Pivot}
use Rattle.matrix_steps.specs.declared.Lowered.{Lowered}
use Rattle.matrix_steps.specs.multiple.Factor.{Divided, Factor}

-- "Subtract c·x^e times row k from row l", and the pivot of row l is found anew
pub record IsLowered (p m w l k : ℕ) (high low : Pivot) (r r' : List ℕ) (x : Lowered) : Type 0 where
  pub factor : Factor p m w l k high low r x.multiple.exponent x.multiple.factor.0 x.multiple.negated.0
  pub r_move : RowAdded p m w x.multiple.negated.0 x.multiple.exponent l k r r'
  pub renewed : IsPivotOf m (value_of m w (row_of m w r' l)) x.pivot.index.0 x.pivot.degree.0

-- "The same subtraction is made on the rows of U", and column k of V takes c·x^e times column l
pub record Followed (p n w l k e c f : ℕ) (u v u' v' : List ℕ) : Type 0 where
  pub u_move : RowAdded p n (n * w) f e l k u u'
  pub v_move : ColumnAdded p n w c e k l v v'

-- a whole subtraction on R, U and V, of the multiple whose factor is the quotient c of a by b, and whose exponent is d
pub record Moved (p n m w l k a b d : ℕ) (r u v r' u' v' : List ℕ) : Type 0 where
  pub e : ℕ
  pub c : ℕ
  pub f : ℕ
  pub divided : Divided p a b d e c f
  pub r_move : RowAdded p m w f e l k r r'
  pub followed : Followed p n w l k e c f u v u' v'
