use Rattle.std.proofs.lemmas.Slice.Eq.{bytes_eq-Decides}
use Rattle.poly.proofs.Ending.{same_used}
use Rattle.poly.proofs.polynomial.equal.Goals as goal

pub returns : goal.returns
returns c =
    let same = same_used c.args.a.now c.args.b.now in
    rw (c.eq.ensures, c.used.ensures.0, c.used-2.ensures.0)
    ((λ t. same.0 ((bytes_eq-Decides _ _).0 t)), (λ s. (bytes_eq-Decides _ _).1 (same.1 s)))
