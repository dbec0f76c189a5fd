use Rattle.poly.proofs.residues.Inverting.{Inverting}
use Rattle.poly.proofs.residues.Residue.inverse.Given as goal

-- What is found times the residue is `left` modulo p. The number `left` falls.
abbrev pub invariant-loop-left : goal.invariant-loop-left
invariant-loop-left l = Inverting l.p l.initial.left l.left l.found.0

abbrev pub decreases-loop-left : goal.decreases-loop-left
decreases-loop-left l = l.left
