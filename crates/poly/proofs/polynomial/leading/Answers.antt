use borrow.Author.Rules.{rules}
use mathlib.Core.Path.{◌≡◌, ◌∙◌}
use Prim.Native.Nat.{◌-◌}
use lib.ListN.{length, get_or, take}
use Rattle.poly.proofs.Ending.{leading-used}
use Rattle.poly.proofs.polynomial.leading.Goals as goal

pub returns : goal.returns
returns c =
    let left = take c.used.result c.args.a.now in
    let said : c.map_or.result.0 ≡ get_or left (length left - 1) 0 = search rules in
    said ∙ rw c.used.ensures.0 (leading-used c.args.a.now)
