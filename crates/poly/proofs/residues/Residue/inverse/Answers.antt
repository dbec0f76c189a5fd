use borrow.Author.Rules.{rules}
use Rattle.poly.proofs.residues.Inverting.{inverting-turn}
use Rattle.poly.proofs.residues.Residue.inverse.Goals as goal

pub loop-left-preserved : goal.loop-left-preserved
loop-left-preserved c =
    rw (c.remainder.ensures, c.from.ensures) (inverting-turn _ _ _ _ c.loop-left.invariant c.requires.prime (search rules))
