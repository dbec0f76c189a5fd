use borrow.Author.Rules.{rules}
use borrow.Author.Tests.{eqb-true, eq-eqb}
use mathlib.Core.Path.{◌≡◌, refl, sym, ◌∙◌}
use lib.Bits.{bit_or}
use Rattle.std.specs.List.{fold}
use Rattle.poly.proofs.Ending.{gathered}
use Rattle.poly.proofs.polynomial.all_zero.Goals as goal
use Rattle.poly.proofs.polynomial.all_zero.Goals.{Start}

pub returns : goal.returns
returns c =
    let bits : c.fold.result ≡ fold bit_or 0 c.args.a.now = search rules in
    let said = gathered c.args.a.now 0 in
    ((λ t. (said.0 (sym bits ∙ eqb-true _ _ t)).1), (λ z. eq-eqb _ _ (bits ∙ said.1 (refl, z))))
