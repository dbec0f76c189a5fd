use mathlib.Core.Path.{refl}
use Rattle.matrix_pivots.proofs.Search.{row-part, row-asked}
use Rattle.matrix_pivots.proofs.pivot.Pivot.of_row.Goals as goal

pub of-requires : goal.of-requires
of-requires c =
    rw c.row-s.ensures
    (row-asked _ _ _ _ c.args.l _ refl c.requires.columns c.requires.row c.requires.within c.requires.zeros)

pub returns : goal.returns
returns c =
    let args = c.args in
    rw (c.row-s.ensures, row-part args.shape.m args.shape.w _ args.l args.r.now refl) at c.of.ensures
