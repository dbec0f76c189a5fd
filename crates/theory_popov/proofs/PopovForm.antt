-- A matrix whose rows ascend, in which nothing is left to remove, is divided: that is the Popov form.
use mathlib.Core.Path.{◌≡◌, refl, ap}
use mathlib.Core.Logic.{◌↔◌, inl, inr}
use Prim.Native.Nat.{ℕ, suc, ◌<◌}
use native.Mathlib.Omega.{arith}
use native.Mathlib.Nat as N
use Rattle.theory_algebra.specs.Field.{Field}
use Rattle.theory_algebra.proofs.Cases.{case-le}
use Rattle.theory_lattice.specs.Term.{Term}
use Rattle.theory_lattice.specs.DegreeOverPosition.{key}
use Rattle.theory_lattice.specs.Row.{Row}
use Rattle.theory_reduction.specs.Pivot.{IsPivot, values}
use Rattle.theory_reduction.specs.Step.{Carried}
use Rattle.theory_reduction.proofs.Index.{key-pivot}
use Rattle.theory_reduction.proofs.Pivot.{value-null, value-pivot}
use Rattle.theory_reduction.proofs.WeakPopov.{weak-popov-iff}
use Rattle.theory_popov.specs.SecondKind.{NoRemoval, pivot_of, excesses}
use Rattle.theory_popov.specs.Scaled.{scaled}
use Rattle.theory_popov.specs.PopovForm.{Before, PopovForm}
use Rattle.theory_popov.proofs.Ascending.{ascending-same}
use Rattle.theory_popov.specs.Tidy.{Tidy}
use Rattle.theory_popov.proofs.Scaling.{below-const, divided-bounded, divided-value, divided-monic}
use Rattle.theory_popov.proofs.SecondStep.{small}

-- the order of the paper is that of the keys, by which the values of rows are ordered
pub before-key : (m : ℕ) (s t : Term) → s.col < m → t.col < m → (key m s < key m t) ↔ Before s t
before-key m s t ls lt = (there, back)
  where
    there : key m s < key m t → Before s t
    there l = case-le (suc s.deg) t.deg inl (λ g. inr (case-le s.deg t.deg
        (λ q. let e : s.deg ≡ t.deg = omega arith in (e, omega (arith, ap (λ d. key m (record { col = t.col; deg = d })) e)))
        (λ q. absurd (omega (arith, N.mul-le-mul_right m q, N.suc-mul t.deg m)))))

    back : Before s t → key m s < key m t
    back (inl l) = omega (arith, N.mul-le-mul_right m l, N.suc-mul s.deg m)
    back (inr (e, l)) = rw e (omega arith)

module _ {F : Type 0} (K : Field F) (n m size r : ℕ) (t : Carried F) (y : Tidy K n m size r t.R) where
  abbrev P : ℕ → Row F
  P = (scaled K m size t).R

  same : (i : ℕ) → i < n → values K m size P i ≡ values K m size t.R i
  same i li = divided-value K m size (t.R i) (y.bounded i li)

  pub scaled-tidy : Tidy K n m size r P
  scaled-tidy = record {
    bounded = λ i li. divided-bounded K m size (t.R i) (y.bounded i li);
    ascends = ascending-same n m r (values K m size t.R) (values K m size P) same y.ascends;
  }

  pub popov-form : 0 < m → NoRemoval n (excesses K m size t.R) → (form : PopovForm K.ring n m P) × (form.rank ≡ r)
  popov-form columns done = (form, refl)
    where
      pivots : (i : ℕ) → i < r → IsPivot K.ring m (pivot_of K m size (P i)) (P i)
      pivots i l = value-pivot K m size (P i) (scaled-tidy.bounded i (omega (arith, scaled-tidy.ascends.rank_fits))) (scaled-tidy.ascends.some i l)

      form : PopovForm K.ring n m P
      form = let a = scaled-tidy.ascends in let fits = a.rank_fits in record {
        weak_popov = (weak-popov-iff K n m size P scaled-tidy.bounded).0 a.apart;
        rank = r;
        rank_fits = fits;
        lead = λ i. pivot_of K m size (P i);
        pivots = pivots;
        null = λ i l li. value-null K m size (P i) (scaled-tidy.bounded i li) (a.none i l li);
        sorted = λ i j l lj. (before-key m _ _ (pivots i (omega arith)).inside (pivots j lj).inside).0 (omega (
          arith,
          a.ascending i j l lj,
          a.some i (omega arith),
          key-pivot m (values K m size P i),
          key-pivot m (values K m size P j),
        ));
        monic = λ i l. let li : i < n = omega arith in rw (same i li) (divided-monic K m size (t.R i) (y.bounded i li) (y.ascends.some i l));
        reduced = λ i j li lj ne. rw (same j (omega arith)) (below-const K _ _ _ (small K n m size r columns t.R y i j li lj ne (λ l. done i j l li)));
      }
