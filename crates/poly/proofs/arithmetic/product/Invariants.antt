use Prim.Native.Nat.{◌%◌}
use Rattle.theory_lists.proofs.Change.{Changing}
use Rattle.poly.specs.arithmetic.Operations.{product_at}
use Rattle.poly.proofs.arithmetic.product.Given as goal

-- The places before k have their sums, and those from k on are as they were.
abbrev pub invariant-loop-k : goal.invariant-loop-k
invariant-loop-k l = Changing (λ j x. product_at l.a l.b j % l.md.p) l.initial.out l.out l.k
