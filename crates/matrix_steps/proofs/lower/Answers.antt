use Rattle.matrix_steps.proofs.LinesAsked.{row-asked, renew-asked}
use Rattle.matrix_steps.proofs.lower.Goals as goal

pub add_row-requires : goal.add_row-requires
add_row-requires c =
    rw c.places-from.ensures (row-asked c.requires c.plan-x.ensures)

pub of_row-pivot-requires : goal.of_row-pivot-requires
of_row-pivot-requires c =
    rw c.places-until.ensures (renew-asked c.requires c.plan-x.ensures c.add_row.ensures)
