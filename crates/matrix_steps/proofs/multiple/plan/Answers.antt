use Rattle.matrix_steps.proofs.multiple.Below.{divide-asked}
use Rattle.matrix_steps.proofs.multiple.plan.Goals as goal

pub divide-requires : goal.divide-requires
divide-requires c =
    rw (c.coefficient-a.ensures, c.coefficient-b.ensures) (divide-asked c.requires)

pub returns : goal.returns
returns c =
    rw (← c.coefficient-a.ensures, ← c.coefficient-b.ensures, ← c.over.ensures) c.divide.ensures
