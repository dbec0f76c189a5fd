use Prim.Native.Nat.{ℕ}
use mathlib.Core.Path.{◌≡◌, refl, sym, subst}
use mathlib.Core.List.{[], ◌∷◌, ◌++◌}
use borrow.Author.Rules.{rules}
use Rattle.printer_format.specs.Number.{decimal}
use Rattle.printer_format.specs.Line.{mark, row}
use Rattle.printer_writing.specs.Wrote.{Room}
use Rattle.printer_writing.proofs.Writing.{wrote_then, next-room, wrote_as}
use Rattle.printer_writing.proofs.put_field.Goals as goal

one-row : (v : ℕ) → decimal v ++ (mark 0 ∷ []) ≡ row (v ∷ [])
unfolding row
one-row v = refl

pub put_marked-requires : goal.put_marked-requires
put_marked-requires c =
    subst (Room _ _) (sym (one-row _)) (search (rules, next-room))

pub returns : goal.returns
returns c =
    wrote_then c.put_bytes-i.ensures (wrote_as (one-row _) c.put_marked.ensures)
