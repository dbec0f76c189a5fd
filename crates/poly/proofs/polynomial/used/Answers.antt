use borrow.Author.Rules.{rules}
use Rattle.poly.proofs.Ending.{used-some, used-none}
use Rattle.poly.proofs.polynomial.used.Goals as goal

pub returns-in-Some : goal.returns-in-Some
returns-in-Some c =
    (used-some c.args.a.now _ c.skip.ensures c.in-Some.last (search rules) (search rules) (search rules), search rules)

pub returns-in-None : goal.returns-in-None
returns-in-None c = (used-none c.args.a.now _ c.skip.ensures (search rules), search rules)
