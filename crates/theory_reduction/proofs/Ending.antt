-- The reduction comes to an end, and its result and its count are determined.
use mathlib.Core.Path.{◌≡◌, ap}
use Prim.Native.Nat.{ℕ}
use Rattle.theory_algebra.specs.Field.{Field}
use Rattle.theory_lattice.specs.Row.{Row}
use Rattle.theory_lattice.specs.PolynomialMatrix.{AllBounded}
use Rattle.theory_reduction.specs.Pivot.{values}
use Rattle.theory_reduction.specs.Pair.{Pair, NoPair, target}
use Rattle.theory_reduction.specs.Step.{Carried, advance}
use Rattle.theory_reduction.specs.Process.{Once}
use Rattle.theory_reduction.specs.Run.{advance_pair, reduction, Runs}
use Rattle.theory_lists.specs.Total.{total}
use Rattle.theory_lists.proofs.Total.{total-lt}
use Rattle.theory_reduction.proofs.Process.{Ends, iterates-keep, iterate, iterates-unique, once-unique}
use Rattle.theory_reduction.proofs.FindPair.{find-pair}
use Rattle.theory_reduction.proofs.Pair.{pair-exclusive, target-unique, target-rows}
use Rattle.theory_reduction.proofs.Lowering.{Lowered, lowered, value-le}

module _ {F : Type 0} (K : Field F) (n m size : ℕ) where
  abbrev v : (ℕ → Row F) → ℕ → ℕ
  v = values K m size

  abbrev Fits : Carried F → Type 0
  Fits t = AllBounded K.ring n m size t.R

  -- the step of a pair
  pub pair-lowered : (t : Carried F) → Fits t → (p : Pair n m (v t.R))
      → let (l, k) = target m (v t.R) p.a p.b in Lowered K n m size t.R l k
  pair-lowered t b p = lowered K n m size t.R _ _ b (target-rows n m (v t.R) p)

  -- what every step keeps
  pub runs-keep : (I : Carried F → Type 0) → ((t : Carried F) (l k : ℕ) → Fits t → Lowered K n m size t.R l k → I t → I (advance K m size l k t))
      → {c : ℕ} {t u : Carried F} → Runs K n m size c t u → Fits t → I t → Fits u × I u
  unfolding advance_pair
  runs-keep I f r b i = iterates-keep (reduction K n m size) (λ t. Fits t × I t)
      (λ t p x. let w = pair-lowered t x.0 p in (w.bounded, f t _ _ x.0 w x.1)) r (b, i)

  -- from every matrix the end is reached, for every step lowers the sum of the values
  unfoldable pub reach : (t : Carried F) → Fits t → Ends (reduction K n m size) t
  unfolding advance_pair
  reach = iterate (reduction K n m size) Fits (λ t p b. (pair-lowered t b p).bounded) (λ t. total n (v t.R)) (λ t p b.
      let w = pair-lowered t b p in
      total-lt n _ _ _ w.reducing.l_fits w.lower (λ i _. value-le K n m size t.R _ _ w i))
      (λ t. find-pair n m (v t.R))

  -- only one step applies, and none where the end is reached
  pub exclusive : (t : Carried F) → Pair n m (v t.R) → ¬ (NoPair n m (v t.R))
  exclusive t = pair-exclusive n m (v t.R)

  pub determined : (t : Carried F) (p q : Pair n m (v t.R)) → advance_pair K n m size t p ≡ advance_pair K n m size t q
  unfolding advance_pair
  determined t p q = ap (λ (x : ℕ × ℕ). advance K m size x.0 x.1 t) (target-unique n m (v t.R) p q)

  pub runs-unique : {c d : ℕ} {t u w : Carried F} → Runs K n m size c t u → Runs K n m size d t w → (c ≡ d) × (u ≡ w)
  runs-unique = iterates-unique (reduction K n m size) exclusive determined

  -- and so is a single step
  pub once-determined : {c d : ℕ} {t u w : Carried F} → Once (reduction K n m size) c t u → Once (reduction K n m size) d t w → (c ≡ d) × (u ≡ w)
  once-determined = once-unique (reduction K n m size) exclusive determined
