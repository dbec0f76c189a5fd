-- The rows that are chosen by pivots are those of the pair of the rows' values.
use mathlib.Core.Path.{◌≡◌, sym, ap, ap₂, subst}
use mathlib.Core.Logic.{◌⊎◌, inl, inr}
use mathlib.Core.List.{List}
use Rattle.std.specs.Prelude.{Option, Some, None}
use Prim.Native.Nat.{ℕ, suc, ◌≤◌, ◌<◌}
use native.Mathlib.Decide.{dec_lt}
use native.Mathlib.Omega.{arith}
use lib.ListN.{length, take}
use Rattle.std.proofs.lemmas.List.{length-take, get_or_past}
use Rattle.theory_algebra.proofs.Cases.{case-le}
use Rattle.theory_reduction.specs.Pivot.{index, height, Clash}
use Rattle.theory_reduction.specs.Pair as Reduction
use Rattle.theory_reduction.proofs.Index.{index-most}
use Rattle.matrix_pivots.specs.Columns.{Meets}
use Rattle.matrix_pivots.specs.Pivot.{zero_row, index_at, degree_at, Pivots}
use Rattle.matrix_pivots.specs.NextPair.{NextAsked, Chosen, IsNext, IsNextOf}
use Rattle.matrix_pivots.specs.declared.pivot.Pivot.{Pivot}
use Rattle.matrix_pivots.specs.declared.next_pair.Pair.{Pair}
use Rattle.matrix_pivots.proofs.Front.{pivots-front}

-- of a list of n pivots at most: the rows behind its end are zero rows
module _ (n m : ℕ) (v : ℕ → ℕ) (pivots : List Pivot) (size : length pivots ≤ n) (p : Pivots n m v pivots) where
  index-at : (i : ℕ) → i < n → index_at pivots i ≡ index m (v i)
  index-at i l = (p.row i l).index_is

  clash : (i j : ℕ) → i < n → j < n → Meets pivots i j → Clash m (v i) (v j)
  clash i j li lj x = grind (arith, index-at i li, index-at j lj)

  meets : (i j : ℕ) → i < n → j < n → Clash m (v i) (v j) → Meets pivots i j
  meets i j li lj x = grind (arith, index-at i li, index-at j lj)

  -- a row that clashes with another is no zero row
  listed : (i j : ℕ) → j < n → Clash m (v i) (v j) → j < length pivots
  listed i j lj c = case-le (suc j) (length pivots)
      (λ here. here)
      (λ past. absurd (omega (arith, index-at j lj, ap (λ (x : Pivot). x.index.0) (get_or_past pivots j zero_row (omega arith)))))

  pair_of : (l k : ℕ) → Chosen pivots l k → Reduction.Pair n m v
  pair_of l k x =
      let f : x.b < n = omega (arith, x.fits, size) in
      record {
        a = x.a;
        b = x.b;
        ordered = x.ordered;
        fits = f;
        clash = clash x.a x.b (omega (arith, x.ordered)) f x.meets;
        lowest_a = λ i j h g q c. x.lowest_a i j h g (listed i j q c) (meets i j (omega arith) q c);
        lowest_b = λ j h g c. x.lowest_b j h g (meets x.a j (omega arith) (omega arith) c);
      }

  turned : (l k : ℕ) (x : Chosen pivots l k) → Reduction.target m v x.a x.b ≡ (l, k)
  unfolding Reduction.target Reduction.ordered_by
  turned l k x = go x.turned (dec_lt (height m (v x.b)) (height m (v x.a)))
    where
      a-is : degree_at pivots x.a ≡ height m (v x.a)
      a-is = (p.row x.a (omega (arith, x.ordered, x.fits, size))).degree_is

      b-is : degree_at pivots x.b ≡ height m (v x.b)
      b-is = (p.row x.b (omega (arith, x.fits, size))).degree_is

      go : ((degree_at pivots x.b < degree_at pivots x.a) × (l ≡ x.a) × (k ≡ x.b))
          ⊎ ((degree_at pivots x.a ≤ degree_at pivots x.b) × (l ≡ x.b) × (k ≡ x.a))
          → (d : Dec (height m (v x.b) < height m (v x.a))) → Reduction.ordered_by d x.a x.b ≡ (l, k)
      go (inl (h, e, q)) (yes _) = ap₂ (λ (s t : ℕ). (s, t)) (sym e) (sym q)
      go (inl (h, e, q)) (no z) = absurd (z (omega (arith, a-is, b-is)))
      go (inr (h, e, q)) (yes z) = absurd (omega (arith, a-is, b-is))
      go (inr (h, e, q)) (no _) = ap₂ (λ (s t : ℕ). (s, t)) (sym e) (sym q)

  next_of : (x : Option Pair) → IsNext pivots x → IsNextOf n m v x
  unfolding pair_of
  next_of None h = λ i j l f c. h i j l (listed i j f c) (meets i j (omega arith) f c)
  next_of (Some x) h = (pair_of x.l x.k h, turned x.l x.k h)

-- the rows that `next_rows` gives of `&pivots[..n]`
pub next-is : {n m : ℕ} {v : ℕ → ℕ} {pivots : List Pivot} → Pivots n m v pivots → (x y : Option Pair)
    → IsNext (take n pivots) x → x ≡ y → IsNextOf n m v y
next-is {n} {m} {v} {pivots} p x y h e =
    next_of n m v (take n pivots) (omega (arith, length-take n pivots)) (pivots-front p) y (subst (IsNext (take n pivots)) e h)

-- `&pivots[..n]` is what the choice asks
pub next-asked : {n m : ℕ} {v : ℕ → ℕ} {pivots : List Pivot} → n ≤ 8 → 0 < m → m ≤ 8 → Pivots n m v pivots → NextAsked (take n pivots)
next-asked {n} {m} {v} {pivots} rows columns most p =
    let size = length-take n pivots in
    record {
      rows = omega arith;
      few = λ i l. omega (arith, ((pivots-front p).row i (omega arith)).index_is, index-most m (v i) columns);
    }
