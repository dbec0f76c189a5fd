-- Of the rows before i the lowest is known that has the greatest excess.
use Rattle.std.proofs.Common.{option_map}
use Rattle.matrix_popov.specs.second_step.Excess.{excess_at, IsHighest}
use Rattle.matrix_popov.proofs.second_step.highest.Given as goal

abbrev pub invariant-loop-i : goal.invariant-loop-i
invariant-loop-i l = IsHighest l.i (excess_at l.shape.m l.shape.w l.r l.pivots l.k) (option_map (λ e. record { at = l.at; exponent = e }) l.most)
