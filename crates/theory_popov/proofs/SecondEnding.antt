-- The steps of the second kind come to an end; their result and their count are determined, and the count is bounded.
use mathlib.Core.Path.{◌≡◌, ap₂, subst}
use Prim.Native.Nat.{ℕ, ◌-◌, ◌*◌, ◌≤◌, ◌<◌}
use native.Mathlib.Omega.{arith}
use native.Mathlib.Nat as N
use Rattle.theory_algebra.specs.Field.{Field}
use Rattle.theory_algebra.proofs.Cases.{neither}
use Rattle.theory_lists.proofs.Total.{total-more, total-bound}
use Rattle.theory_reduction.specs.Process.{Process}
use Rattle.theory_reduction.specs.Step.{Carried, carry}
use Rattle.theory_reduction.proofs.Process.{Ends, iterates-keep, iterate, iterates-count, iterates-unique}
use Rattle.theory_popov.specs.SecondKind.{Highest, Removal, NoRemoval, excesses, remover, remove}
use Rattle.theory_popov.specs.SecondRun.{second_kind, SecondRuns}
use Rattle.theory_popov.specs.Tidy.{Tidy}
use Rattle.theory_popov.proofs.Excess.{excess-size}
use Rattle.theory_popov.proofs.Load.{load, load-most}
use Rattle.theory_popov.proofs.FindRemoval.{find-removal}
use Rattle.theory_popov.proofs.SecondStep.{left, zero-excess, tidy-step, left-falls}

-- the rows of the next step are determined
highest-unique : (k : ℕ) (h : ℕ → ℕ) (a b : Highest k h) → a.at ≡ b.at
highest-unique k h a b = neither a.at b.at (below a b) (below b a)
  where
    below : (a b : Highest k h) → ¬ (a.at < b.at)
    below a b l = omega (arith, b.lowest a.at l, a.greatest b.at b.fits)

module _ (n : ℕ) (x : ℕ → ℕ → ℕ) where
  removal-exclusive : Removal n x → ¬ (NoRemoval n x)
  removal-exclusive p h = omega (arith, h p.k p.highest.at p.highest.fits p.fits, p.highest.some)

  removal-unique : (p q : Removal n x) → (p.k ≡ q.k) × (p.highest.at ≡ q.highest.at)
  removal-unique p q =
      let e = neither p.k q.k (first p q) (first q p) in
      (e, same p.k q.k e p.highest q.highest)
    where
      first : (p q : Removal n x) → ¬ (p.k < q.k)
      first p q l = omega (arith, q.done p.k p.highest.at p.highest.fits l, p.highest.some)

      same : (k l : ℕ) → k ≡ l → (a : Highest k (x k)) (b : Highest l (x l)) → a.at ≡ b.at
      same k l e a = subst (λ l. (b : Highest l (x l)) → a.at ≡ b.at) e (highest-unique k (x k) a)

module _ {F : Type 0} (K : Field F) (n m size : ℕ) where
  abbrev steps : Process (Carried F)
  steps = second_kind K n m size

  determined : (t : Carried F) (p q : Removal n (excesses K m size t.R)) → remove K m size t p ≡ remove K m size t q
  unfolding remove
  determined t p q =
      let (e, f) = removal-unique n _ p q in
      ap₂ (λ (k i : ℕ). carry K.ring k i (remover K m size (t.R k) (t.R i)) t) e f

  pub second-unique : {c d : ℕ} {t u w : Carried F} → SecondRuns K n m size c t u → SecondRuns K n m size d t w → (c ≡ d) × (u ≡ w)
  second-unique = iterates-unique steps (λ t. removal-exclusive n _) determined

  -- from a matrix whose first r rows are not zero and ascend
  module _ (r : ℕ) (columns : 0 < m) where
    abbrev Fits : Carried F → Type 0
    Fits t = Tidy K n m size r t.R

    pub fits-step : (t : Carried F) (p : Removal n (excesses K m size t.R)) → Fits t → Fits (remove K m size t p)
    unfolding remove
    fits-step t p y = tidy-step K n m size r columns t.R y p

    pub falls : (t : Carried F) (p : Removal n (excesses K m size t.R)) → Fits t
        → left K n m size (remove K m size t p).R < left K n m size t.R
    unfolding remove
    falls t p y = left-falls K n m size r columns t.R y p

    -- what every step keeps
    pub second-keep : (I : Carried F → Type 0) → ((t : Carried F) (p : Removal n (excesses K m size t.R)) → Fits t → I t → I (remove K m size t p))
        → {c : ℕ} {t u : Carried F} → SecondRuns K n m size c t u → Fits t → I t → Fits u × I u
    second-keep I f q y i = iterates-keep steps (λ t. Fits t × I t) (λ t p z. (fits-step t p z.0, f t p z.0 z.1)) q (y, i)

    unfoldable pub second-reach : (t : Carried F) → Fits t → Ends steps t
    second-reach = iterate steps Fits fits-step (λ t. left K n m size t.R) falls (λ t. find-removal n (excesses K m size t.R))

    -- "The second is at most r(r-1)(d+1), and 0 for r = 0."
    pub second-count : {c : ℕ} {t u : Carried F} → SecondRuns K n m size c t u → Fits t → c ≤ r * ((r - 1) * size)
    second-count {t = t} q y = omega (
      arith,
      iterates-count steps Fits fits-step (λ t. left K n m size t.R) falls q y,
      total-more r n (λ a. load a (x a)) y.ascends.rank_fits (λ a l la. omega (arith, none a l la)),
      total-bound r ((r - 1) * size) (λ a. load a (x a)) some,
    )
      where
        x : ℕ → ℕ → ℕ
        x = excesses K m size t.R

        none : (a : ℕ) → r ≤ a → a < n → load a (x a) ≤ 0
        none a l la = rw (N.mul-zero a) at (load-most a 0 (x a) (λ j _. omega (arith, zero-excess K n m size r columns t.R y a j l la)))

        some : (a : ℕ) → a < r → load a (x a) ≤ (r - 1) * size
        some a l =
            let less : a ≤ r - 1 = omega arith in
            omega (arith, load-most a size (x a) (λ j _. excess-size K m size (t.R a) (t.R j)), N.mul-le-mul_right size less)
