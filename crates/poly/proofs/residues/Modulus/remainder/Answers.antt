use borrow.Author.Rules.{rules}
use native.Mathlib.Omega.{arith}
use Rattle.poly.proofs.residues.Reciprocal.{not-above, near, rest-low, rest-high}
use Rattle.poly.proofs.residues.Modulus.remainder.Goals as goal

pub overflow_sub-r : goal.overflow_sub-r
overflow_sub-r c = rw (c.from.ensures, c.from-2.ensures) (not-above _ _ _ (search rules) c.args.self.ready)

pub overflow_cast-result-else-r-self : goal.overflow_cast-result-else-r-self
overflow_cast-result-else-r-self c = rw (c.from.ensures, c.from-2.ensures) (omega (arith, near c.args.x _ _ (search rules) c.args.self.ready))

pub returns-then-r-self : goal.returns-then-r-self
returns-then-r-self c = rw (c.from.ensures, c.from-2.ensures) (rest-low _ _ _ (search rules) c.args.self.ready (search rules))

pub returns-else-r-self : goal.returns-else-r-self
returns-else-r-self c = rw (c.from.ensures, c.from-2.ensures) (rest-high _ _ _ (search rules) c.args.self.ready (search rules))
