-- The search for the last column of a line that is not zero, and for the last line of a row.
use mathlib.Core.Path.{◌≡◌, sym, ap, ap₂, ◌∙◌}
use mathlib.Core.List.{List}
use Prim.Native.Nat.{ℕ, zero, suc, ◌+◌, ◌-◌, ◌*◌, ◌/◌, ◌%◌, ◌≤◌, ◌<◌}
use native.Mathlib.Nat as N
use native.Mathlib.Decide.{dec_le}
use native.Mathlib.Omega.{arith}
use lib.ListN.{length, get_or, take, drop}
use Rattle.theory_lists.specs.Last.{last_nonzero}
use Rattle.theory_lists.proofs.Last.{IsLast, last-is, last-unique}
use Rattle.theory_lists.proofs.Part.{length_part, get_or-part}
use Rattle.theory_reduction.specs.Pivot.{index, height}
use Rattle.theory_reduction.proofs.Index.{index-some, height-some}
use Rattle.matrix_pivots.specs.Pivot.{RowAsked, IsPivotOf, value_of, row_of}
use Rattle.theory_lists.proofs.Grid.{line-less, within}

-- the coefficients of degree t
abbrev pub line : List ℕ → ℕ → ℕ → ℕ → ℕ
line row w t c = get_or row (c * w + t) 0

-- a value is at most its height's lines
height-above : (m v : ℕ) → 0 < m → v ≤ height m v * m
unfolding height
height-above m zero columns = omega arith
height-above m (suc x) columns =
    let less : suc x - 1 ≡ x = omega arith in
    rw less (omega (arith, N.div-add-mod' x m, N.mod-lt x columns, N.suc-mul (x / m) m))

-- the value of a row whose lines from t on are zero and whose line t - 1 ends at column x
module _ (m w t x : ℕ) (row : List ℕ) (columns : 0 < m) (low : 0 < t) (high : t ≤ w) (some : 0 < x)
    (zeros : (c s : ℕ) → c < m → t ≤ s → s < w → get_or row (c * w + s) 0 ≡ 0) (end : IsLast m (line row w (t - 1)) x) where
  abbrev key : ℕ → ℕ
  key y = get_or row (y % m * w + y / m) 0

  v : ℕ
  v = (t - 1) * m + x

  -- the place before v is column x - 1 of line t - 1
  v-less : v - 1 ≡ (t - 1) * m + (x - 1)
  unfolding v
  v-less = omega arith

  column : (v - 1) % m ≡ x - 1
  column = ap (λ (y : ℕ). y % m) v-less ∙ N.mul-add-mod_self_right (t - 1) m (x - 1) ∙ N.mod-eq_of_lt (omega (arith, end.within))

  degree : (v - 1) / m ≡ t - 1
  degree =
      ap (λ (y : ℕ). y / m) v-less
      ∙ N.mul-add-div_right columns (t - 1) (x - 1)
      ∙ ap (λ (y : ℕ). t - 1 + y) (N.div-eq_of_lt (omega (arith, end.within)))
      ∙ N.add-zero (t - 1)

  v-within : v ≤ w * m
  unfolding v
  v-within =
      let lines : t * m ≤ w * m = N.mul-le-mul_right m high in
      omega (arith, line-less t m low, end.within)

  -- past v: a later line, or a later column of this one
  past : (y : ℕ) → v ≤ y → y < w * m → key y ≡ 0
  unfolding v
  past y from to =
      let c-fits : y % m < m = N.mod-lt y columns in
      let s-fits : y / m < w = (N.div-lt_iff_lt-mul columns).1 to in
      elim (dec_le t (y / m)) [
        | yes later ↦ zeros (y % m) (y / m) c-fits later s-fits
        | no same ↦
            (let parts : y / m * m + y % m ≡ y = N.div-add-mod' y m in
            let least : t - 1 ≤ y / m = (N.le-div_iff_mul-le columns).1 (omega arith) in
            let this : y / m ≡ t - 1 = omega arith in
            ap (λ (s : ℕ). get_or row (y % m * w + s) 0) this ∙ end.zeros (y % m) (omega (arith, ap (λ (s : ℕ). s * m) this)) c-fits)
      ]

  value-is : value_of m w row ≡ v
  unfolding value_of v
  value-is = last-unique (w * m) key v (record {
    within = v-within;
    zeros = past;
    top = λ _ z. end.top some (sym (ap (λ (y : ℕ). get_or row (y * w + (v - 1) / m) 0) column ∙ ap (λ (s : ℕ). get_or row ((x - 1) * w + s) 0) degree) ∙ z);
  })

  pub pivot-found : IsPivotOf m (value_of m w row) x t
  unfolding v
  pivot-found = record {
    index_is = sym (ap (index m) value-is ∙ index-some m v (omega arith) ∙ ap suc column ∙ omega arith);
    degree_is = sym (ap (height m) value-is ∙ height-some m v (omega arith) ∙ ap suc degree ∙ omega arith);
  }

-- a row without a coefficient
pub pivot-none : (m w : ℕ) (row : List ℕ) → 0 < m → ((c t : ℕ) → c < m → 0 ≤ t → t < w → get_or row (c * w + t) 0 ≡ 0) → IsPivotOf m (value_of m w row) 0 0
unfolding value_of index height
pivot-none m w row columns zeros = record { index_is = sym (ap (index m) none); degree_is = sym (ap (height m) none) }
  where
    none : value_of m w row ≡ 0
    none = last-unique (w * m) _ 0 (record {
      within = omega arith;
      zeros = λ y _ to. zeros (y % m) (y / m) (N.mod-lt y columns) (omega arith) ((N.div-lt_iff_lt-mul columns).1 to);
      top = λ h. absurd (omega arith);
    })

-- a line that is zero is added to those that are
pub zeros-more : (m w t : ℕ) (row : List ℕ) → 0 < t → ((c s : ℕ) → c < m → t ≤ s → s < w → get_or row (c * w + s) 0 ≡ 0) → last_nonzero m (line row w (t - 1)) ≡ 0
    → (c s : ℕ) → c < m → t - 1 ≤ s → s < w → get_or row (c * w + s) 0 ≡ 0
zeros-more m w t row low zeros none c s lc from to = grind (arith, zeros c s lc, (last-is m (line row w (t - 1))).zeros c)

-- from its height on a row is zero
pub past-height : (m w : ℕ) (row : List ℕ) → 0 < m → (c t : ℕ) → c < m → height m (value_of m w row) ≤ t → t < w → get_or row (c * w + t) 0 ≡ 0
unfolding value_of
past-height m w row columns c t lc from to =
    let column : (t * m + c) % m ≡ c = N.mul-add-mod_self_right t m c ∙ N.mod-eq_of_lt lc in
    let degree : (t * m + c) / m ≡ t = N.mul-add-div_right columns t c ∙ ap (λ (y : ℕ). t + y) (N.div-eq_of_lt lc) ∙ N.add-zero t in
    sym (ap₂ (λ (x y : ℕ). get_or row (x * w + y) 0) column degree)
    ∙ (last-is (w * m) (λ x. get_or row (x % m * w + x / m) 0)).zeros (t * m + c) late (omega (arith, within t c w m to lc))
  where
    late : value_of m w row ≤ t * m + c
    late = omega (arith, height-above m (value_of m w row) columns, N.mul-le-mul_right m from)

-- the part of a matrix that starts where row i does
pub row-part : (m w at i : ℕ) (r : List ℕ) → at ≡ i * (m * w) → take (at + m * w - at) (drop at r) ≡ row_of m w r i
row-part m w at i r e = ap₂ (λ (n a : ℕ). take n (drop a r)) (N.add-sub_cancel_left at (m * w)) e

pub row-asked : (m w top at i : ℕ) (r : List ℕ) → at ≡ i * (m * w) → 0 < m → at + m * w ≤ length r → top ≤ w
    → ((c t : ℕ) → c < m → top ≤ t → t < w → get_or r (i * (m * w) + (c * w + t)) 0 ≡ 0) → RowAsked m w top (take (at + m * w - at) (drop at r))
row-asked m w top at i r e columns fits within-w zeros = record {
  size = rw (N.add-sub_cancel_left at (m * w)) (length_part at (m * w) r fits);
  columns = columns;
  within = within-w;
  zeros = λ c t lc from to.
      ap (λ (n : ℕ). get_or (take n (drop at r)) (c * w + t) 0) (N.add-sub_cancel_left at (m * w))
      ∙ get_or-part at (m * w) r fits (c * w + t) (within c t m w lc to)
      ∙ ap (λ (a : ℕ). get_or r (a + (c * w + t)) 0) e
      ∙ zeros c t lc from to;
}
