-- Two answers that a promise of the pivots allows are equal. `column`, `over`, `places`, `degree`, `or_zero`, `raised`, `excess`, `value`,
-- `least`, `rank` and `degree_sum` promise an equation.
use mathlib.Core.Path.{◌≡◌, refl, sym, ap, subst, ◌∙◌}
use mathlib.Core.Bool.{Bool, true}
use mathlib.Core.Logic.{◌↔◌, ◌⊎◌, inl, inr}
use mathlib.Core.List.{List}
use Rattle.std.specs.Prelude.{Option, Some, None}
use Prim.Native.Nat.{ℕ, ◌≤◌, ◌<◌}
use native.Mathlib.Omega.{arith}
use lib.Seq.{ext_get_or}
use Rattle.theory_algebra.proofs.Cases.{case-le, neither}
use Rattle.theory_algebra.proofs.Flag.{flag-unique}
use Rattle.matrix_pivots.specs.Pivot.{zero_row, degree_at, IsPivotOf, AllPivots}
use Rattle.matrix_pivots.specs.Columns.{Meets}
use Rattle.matrix_pivots.specs.NextPair.{Chosen, IsNext}
use Rattle.matrix_pivots.specs.declared.pivot.Pivot.{Pivot}
use Rattle.matrix_pivots.specs.declared.next_pair.Pair.{Pair}

-- of `is_zero_row`
pub zero-row-unique : (x : ℕ) (r s : Bool) → (r ≡ true) ↔ (x ≡ 0) → (s ≡ true) ↔ (x ≡ 0) → r ≡ s
zero-row-unique x = flag-unique

-- of `Pivot::of` and `Pivot::of_row`
pub pivot-unique : {m v : ℕ} (x y : Pivot) → IsPivotOf m v x.index.0 x.degree.0 → IsPivotOf m v y.index.0 y.degree.0 → x ≡ y
pivot-unique x y f g =
    let indices = f.index_is ∙ sym g.index_is in
    let degrees = f.degree_is ∙ sym g.degree_is in
    λ i. record { index = record { 0 = indices i }; degree = record { 0 = degrees i } }

-- of `all`
pub all-unique : {n m : ℕ} {v : ℕ → ℕ} (x y : List Pivot) → AllPivots n m v x → AllPivots n m v y → x ≡ y
all-unique {n} x y f g = ext_get_or zero_row x y (f.size ∙ sym g.size) (λ i _. case-le n i
    (λ past. f.rest i past ∙ sym (g.rest i past))
    (λ less. pivot-unique _ _ (f.pivots_are.row i less) (g.pivots_are.row i less)))

-- of `next_rows`: "the lowest row a" and "the lowest such later row b" are one each
chosen-unique : {pivots : List Pivot} {l k l' k' : ℕ} → Chosen pivots l k → Chosen pivots l' k' → (l ≡ l') × (k ≡ k')
chosen-unique {pivots} {l} {k} {l'} {k'} c d = rows c.turned d.turned
  where
    first : {l k l' k' : ℕ} (c : Chosen pivots l k) (d : Chosen pivots l' k') → ¬ (c.a < d.a)
    first c d less = d.lowest_a c.a c.b less c.ordered c.fits c.meets

    second : {l k l' k' : ℕ} (c : Chosen pivots l k) (d : Chosen pivots l' k') → c.a ≡ d.a → ¬ (c.b < d.b)
    second c d same less = d.lowest_b c.b (omega (arith, c.ordered)) less (subst (λ (a : ℕ). Meets pivots a c.b) same c.meets)

    same-a : c.a ≡ d.a
    same-a = neither c.a d.a (first c d) (first d c)

    same-b : c.b ≡ d.b
    same-b = neither c.b d.b (second c d same-a) (second d c (sym same-a))

    rows : ((degree_at pivots c.b < degree_at pivots c.a) × (l ≡ c.a) × (k ≡ c.b)) ⊎ ((degree_at pivots c.a ≤ degree_at pivots c.b) × (l ≡ c.b) × (k ≡ c.a))
        → ((degree_at pivots d.b < degree_at pivots d.a) × (l' ≡ d.a) × (k' ≡ d.b)) ⊎ ((degree_at pivots d.a ≤ degree_at pivots d.b) × (l' ≡ d.b) × (k' ≡ d.a))
        → (l ≡ l') × (k ≡ k')
    rows (inl (_, is-l, is-k)) (inl (_, is-l', is-k')) = (is-l ∙ same-a ∙ sym is-l', is-k ∙ same-b ∙ sym is-k')
    rows (inr (_, is-l, is-k)) (inr (_, is-l', is-k')) = (is-l ∙ same-b ∙ sym is-l', is-k ∙ same-a ∙ sym is-k')
    rows (inl (less, _, _)) (inr (more, _, _)) = absurd (omega (arith, ap (degree_at pivots) same-a, ap (degree_at pivots) same-b))
    rows (inr (more, _, _)) (inl (less, _, _)) = absurd (omega (arith, ap (degree_at pivots) same-a, ap (degree_at pivots) same-b))

pub next-unique : (pivots : List Pivot) (x y : Option Pair) → IsNext pivots x → IsNext pivots y → x ≡ y
next-unique pivots None None f g = refl
next-unique pivots None (Some y) f g = absurd (f g.a g.b g.ordered g.fits g.meets)
next-unique pivots (Some x) None f g = absurd (g f.a f.b f.ordered f.fits f.meets)
next-unique pivots (Some x) (Some y) f g = let (ls, ks) = chosen-unique f g in λ i. Some (record { l = ls i; k = ks i })
