use borrow.Author.Rules.{rules}
use native.Mathlib.Omega.{arith}
use mathlib.Core.Path.{◌≡◌}
use Rattle.std.specs.Prelude.{max}
use Rattle.std.specs.List.{fold}
use Rattle.matrix_refusals.proofs.checks.Greatest.{greatest-below}
use Rattle.matrix_refusals.proofs.checks.first_high.Goals as goal

pub returns-then-from-p : goal.returns-then-from-p
returns-then-from-p c =
    let greatest : c.fold-greatest.result ≡ fold max 0 c.args.a.now = search rules in
    let below = (greatest-below c.args.p c.args.a.now 0 (omega (arith, c.if-from-p.true, c.from.ensures, greatest))).1 in
    record { within = omega arith; here = λ l. absurd (omega arith); before = λ i l high. omega (arith, below i l, high) }
