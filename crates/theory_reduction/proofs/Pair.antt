-- The pair of a step is determined, and of its rows l and k what `StepRows` says is true.
use mathlib.Core.Path.{◌≡◌, sym, ap₂, subst, ◌∙◌}
use Prim.Native.Nat.{ℕ, ◌<◌}
use native.Mathlib.Omega.{arith}
use native.Mathlib.Decide.{dec_lt}
use Rattle.theory_algebra.proofs.Cases.{neither}
use Rattle.theory_reduction.specs.Pivot.{height, Clash}
use Rattle.theory_reduction.specs.Pair.{Pair, NoPair, ordered_by, target, StepRows}
use Rattle.theory_reduction.proofs.Index.{clash-turned}

module _ (n m : ℕ) (v : ℕ → ℕ) where
  pub pair-exclusive : Pair n m v → ¬ (NoPair n m v)
  pair-exclusive p h = h p.a p.b p.ordered p.fits p.clash

  pub pair-unique : (p q : Pair n m v) → (p.a ≡ q.a) × (p.b ≡ q.b)
  pair-unique p q =
      let e = neither p.a q.a (first p q) (first q p) in
      (e, neither p.b q.b (second p q e) (second q p (omega arith)))
    where
      first : (p q : Pair n m v) → ¬ (p.a < q.a)
      first p q l = q.lowest_a p.a p.b l p.ordered p.fits p.clash

      second : (p q : Pair n m v) → p.a ≡ q.a → ¬ (p.b < q.b)
      second p q e l = q.lowest_b p.b (let o = p.ordered in omega arith) l (subst (λ x. Clash m (v x) (v p.b)) e p.clash)

  pub target-unique : (p q : Pair n m v) → target m v p.a p.b ≡ target m v q.a q.b
  target-unique p q = let (e, f) = pair-unique p q in ap₂ (target m v) e f

  pub target-rows : (p : Pair n m v) → let (l, k) = target m v p.a p.b in StepRows n m v l k
  unfolding target ordered_by
  target-rows p = go (dec_lt (height m (v p.b)) (height m (v p.a))) p.ordered p.fits
    where
      go : (d : Dec (height m (v p.b) < height m (v p.a))) → p.a < p.b → p.b < n
          → StepRows n m v (ordered_by d p.a p.b).0 (ordered_by d p.a p.b).1
      go (yes h) o f = record {
        l_fits = omega arith;
        k_fits = f;
        apart = omega arith;
        clash = p.clash;
        degrees = omega arith;
        tie = λ e. absurd (omega arith);
      }
      go (no h) o f = record {
        l_fits = f;
        k_fits = omega arith;
        apart = omega arith;
        clash = clash-turned p.clash;
        degrees = omega arith;
        tie = λ e. o;
      }

-- rows l and k are those of a pair
pub pair-rows : {n m : ℕ} {v : ℕ → ℕ} {l k : ℕ} (q : Pair n m v) → target m v q.a q.b ≡ (l, k) → StepRows n m v l k
pair-rows {n} {m} {v} q e = subst (λ (x : ℕ × ℕ). StepRows n m v x.0 x.1) e (target-rows n m v q)

-- values that agree on the n rows have the same pairs
module _ (n m : ℕ) (v v' : ℕ → ℕ) (e : (i : ℕ) → i < n → v i ≡ v' i) where
  clash-back : (i j : ℕ) → i < n → j < n → Clash m (v' i) (v' j) → Clash m (v i) (v j)
  clash-back i j li lj c = rw (e i li, e j lj) c

  pub no-pair-same : NoPair n m v → NoPair n m v'
  no-pair-same h i j l lj c = h i j l lj (clash-back i j (omega arith) lj c)

  pub pair_same : (q : Pair n m v) (x : ℕ × ℕ) → target m v q.a q.b ≡ x → (q' : Pair n m v') × (target m v' q'.a q'.b ≡ x)
  unfolding target
  pair_same q x is =
      let o = q.ordered in
      let f = q.fits in
      let la : q.a < n = omega arith in (
        record {
          a = q.a;
          b = q.b;
          ordered = o;
          fits = f;
          clash = rw (← e q.a la, ← e q.b f) q.clash;
          lowest_a = λ i j l lj s c. q.lowest_a i j l lj s (clash-back i j (omega arith) s c);
          lowest_b = λ j l s c. q.lowest_b j l s (clash-back q.a j la (omega arith) c);
        },
        ap₂ (λ (y z : ℕ). ordered_by (dec_lt (height m z) (height m y)) q.a q.b) (sym (e q.a la)) (sym (e q.b f)) ∙ is,
      )
