-- "U and V follow every move": ordering, the steps of the second kind and scaling keep U·A = R, V·R = A, U·V = V·U = 1
-- and the bounds on the degrees of U and V.
use mathlib.Core.Path.{◌≡◌, refl, ap}
use Prim.Native.Nat.{ℕ, ◌-◌, ◌<◌}
use native.Mathlib.Omega.{arith}
use Rattle.theory_algebra.specs.Field.{Field}
use Rattle.theory_algebra.specs.Polynomial.{Below}
use Rattle.theory_rings.proofs.Polynomial.{polynomial-mono}
use Rattle.theory_lattice.specs.Row.{Row}
use Rattle.theory_lattice.specs.PolynomialMatrix.{AllBounded}
use Rattle.theory_lattice.proofs.Moves.{subtract-transformed}
use Rattle.theory_lists.specs.Total.{total}
use Rattle.theory_lists.proofs.Total.{total-same}
use Rattle.theory_lists.proofs.Permutation.{total-permuted}
use Rattle.theory_reduction.specs.Pivot.{values, height}
use Rattle.theory_reduction.specs.Pair.{NoPair}
use Rattle.theory_reduction.specs.Step.{Carried}
use Rattle.theory_reduction.proofs.Index.{height-some}
use Rattle.theory_reduction.proofs.Degrees.{narrow-carry}
use Rattle.theory_reduction.specs.Narrow.{pivot_degree, Narrow}
use Rattle.theory_popov.specs.Order.{order, ordered}
use Rattle.theory_popov.specs.SecondKind.{Removal, excesses, remove}
use Rattle.theory_popov.specs.Scaled.{scaled}
use Rattle.theory_popov.specs.Carries as Specs
use Rattle.theory_popov.specs.Tidy.{Tidy}
use Rattle.theory_popov.proofs.Ordering.{order-permutation}
use Rattle.theory_popov.proofs.Moves.{permute-transformed, dilate-transformed}
use Rattle.theory_popov.proofs.Scaling.{below-const, inverse-unit, divided-value}
use Rattle.theory_popov.proofs.SecondStep.{k_some, i_fits, removed-row, values-kept}

module _ {F : Type 0} (K : Field F) (n m size : ℕ) (A : ℕ → Row F) where
  abbrev Carries : Carried F → Type 0
  Carries = Specs.Carries K n m size A

  -- the bounds hold where rows come to other places or are multiplied by numbers, row i being row σ i before
  narrow-moved : (t u : Carried F) (σ : ℕ → ℕ) → ((i : ℕ) → i < n → σ i < n)
      → ((i : ℕ) → i < n → pivot_degree K n m size u.R i ≡ pivot_degree K n m size t.R (σ i)) → total n (pivot_degree K n m size u.R) ≡ total n (pivot_degree K n m size t.R)
      → ((i j b : ℕ) → Below K.ring (t.U (σ i) j) b → Below K.ring (u.U i j) b)
      → ((i j b : ℕ) → Below K.ring (t.V' i (σ j)) b → Below K.ring (u.V' i j) b) → Narrow K n m size A t → Narrow K n m size A u
  narrow-moved t u σ fits same totals rows cols x = record {
    less = omega (arith, x.less, totals);
    u_bound = λ i j li lj. rw (same i li, totals) (rows i j _ (x.u_bound (σ i) j (fits i li) lj));
    v_bound = λ i j li lj. rw (same j lj) (cols i j _ (x.v_bound i (σ j) li (fits j lj)));
  }

  module _ (t : Carried F) (b : AllBounded K.ring n m size t.R) (x : Carries t) where
    pub ordered-carries : NoPair n m (values K m size t.R) → Carries (ordered K n m size t)
    ordered-carries done = let p = order-permutation K n m size t.R b done in record {
      transformed = permute-transformed K.ring n m A t.R t.U t.V' p x.transformed;
      narrow = narrow-moved t (ordered K n m size t) (order K n m size t.R) p.fits (λ i _. refl) (total-permuted n (pivot_degree K n m size t.R) p)
          (λ i j b h. h) (λ i j b h. h) x.narrow;
    }

    pub scaled-carries : Carries (scaled K m size t)
    scaled-carries = record {
      transformed = dilate-transformed K.ring n m A t.R t.U t.V' _ _ (λ i _. polynomial-mono K.ring _ 0) (λ i _. polynomial-mono K.ring _ 0)
          (λ i li. inverse-unit K m size (t.R i) (b i li)) x.transformed;
      narrow = narrow-moved t (scaled K m size t) (λ i. i) (λ i li. li) same (total-same n _ _ same)
          (λ i j b h. below-const K _ (t.U i j) b h) (λ i j b h. below-const K _ (t.V' i j) b h) x.narrow;
    }
      where
        same : (i : ℕ) → i < n → pivot_degree K n m size (scaled K m size t).R i ≡ pivot_degree K n m size t.R i
        same i li = ap (λ v. height m v - 1) (divided-value K m size (t.R i) (b i li))

  -- a step of the second kind
  pub removed-carries : (r : ℕ) (columns : 0 < m) (t : Carried F) (p : Removal n (excesses K m size t.R)) → Tidy K n m size r t.R
      → Carries t → Carries (remove K m size t p)
  unfolding remove
  removed-carries r columns t p y x =
      let k = p.k in
      let i = p.highest.at in
      let fits : i < n = i_fits K n m size r columns t.R y p in
      let w = removed-row K n m size r columns t.R y p in
      let some : k < r = k_some K n m size r columns t.R y p in
      record {
        transformed = subtract-transformed K.ring n m A t.R t.U t.V' k i _ (_, w.degree.below)
            p.fits fits (omega (arith, p.highest.fits)) x.transformed;
        narrow = narrow-carry K n m size A t k i _ (record {
          e = _;
          l_fits = p.fits;
          k_fits = fits;
          below = w.degree.below;
          room = omega (arith, w.room, height-some m _ (y.ascends.some k some), height-some m _ (y.ascends.some i (omega (arith, p.highest.fits))));
          lower = omega (arith, ap (height m) (values-kept K n m size r columns t.R y p k));
        }) x.narrow;
      }
