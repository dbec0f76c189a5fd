-- The definitions that the examples are worked out by, in groups: to unfold a group is to unfold every definition of its line.
use mathlib.Core.Logic.Dec
use native.Mathlib.Decide.{ℕ_discrete, dec_lt}
use Rattle.theory_algebra.specs.Cases.{if_equal}
use Rattle.theory_algebra.specs.Matrix.{setrow, identity}
use Rattle.theory_algebra.specs.Residue.{inverse_by}
use Rattle.theory_algebra.specs.Series.{◌+ₛ◌, ◌*ₛ◌, mono}
use Rattle.theory_algebra.specs.Sum.{sum}
use Rattle.theory_algebra.proofs.Residue.{zp-dec}
use Rattle.theory_rings.specs.PrimeField.{zp_field}
use Rattle.theory_rings.specs.Series.{series}
use Rattle.theory_lists.specs.Change.{imap}
use Rattle.theory_lists.specs.Last.{last_nonzero}
use Rattle.theory_lists.specs.Total.{total}
use Rattle.matrix_promises.specs.Held.{matrix_of}
use Rattle.theory_determinant.specs.Determinant.{det}
use Rattle.matrix_pivots.specs.Pivot.{value_of}
use Rattle.theory_reduction.specs.Pivot.{top, value, index, height}
use Rattle.theory_reduction.specs.Pair.{ordered_by, target}
use Rattle.theory_reduction.proofs.Least.{least}
use Rattle.theory_reduction.proofs.FindPair.{clash-dec, partner-dec, partner, has-partner, find-pair}
use Rattle.theory_reduction.specs.Step.{factor}
use Rattle.theory_reduction.proofs.Process.{ends, within, iterate}
use Rattle.theory_reduction.proofs.Ending.{reach}
use Rattle.theory_popov.specs.Order.{weight, position, row_from}
use Rattle.theory_popov.specs.SecondKind.{excess, remover, remove}
use Rattle.theory_popov.proofs.FindRemoval.{highest, find-removal}
use Rattle.theory_popov.proofs.Load.{greatest, load}
use Rattle.theory_popov.proofs.SecondEnding.{second-reach}
use Rattle.theory_popov.proofs.Facts.{popov-exists}

unfoldable pub decisions : Unit {0}
unfolding ℕ_discrete dec_lt Dec.and least
decisions = tt

unfoldable pub arithmetic : Unit {0}
unfolding zp_field zp-dec inverse_by series ◌+ₛ◌ ◌*ₛ◌ mono sum if_equal setrow identity det
arithmetic = tt

unfoldable pub buffers : Unit {0}
unfolding imap total last_nonzero matrix_of value_of
buffers = tt

unfoldable pub first_kind : Unit {0}
unfolding top value index height clash-dec partner-dec partner has-partner find-pair ordered_by target factor ends within iterate reach
first_kind = tt

unfoldable pub second_kind : Unit {0}
unfolding weight position row_from excess highest find-removal remover remove greatest load second-reach popov-exists
second_kind = tt
