-- The pivot index and the height from the value of a row.
use mathlib.Core.Path.{◌≡◌, refl, sym, ◌∙◌, ap}
use Prim.Native.Nat.{ℕ, zero, suc, ◌+◌, ◌-◌, ◌*◌, ◌/◌, ◌≤◌, ◌<◌}
use native.Mathlib.Omega.{arith}
use native.Mathlib.Nat as N
use Rattle.theory_algebra.proofs.Cases.{case-le}
use Rattle.theory_lattice.specs.DegreeOverPosition.{key}
use Rattle.theory_reduction.specs.Pivot.{pivot, index, height, Clash}

pub key-pivot : (m v : ℕ) → key m (pivot m v) ≡ v - 1
key-pivot m v = N.div-add-mod' (v - 1) m

-- of a row that is not zero
pub index-some : (m v : ℕ) → 0 < v → index m v ≡ suc (pivot m v).col
unfolding index
index-some m zero l = absurd (omega arith)
index-some m (suc x) l = refl

pub height-some : (m v : ℕ) → 0 < v → height m v ≡ suc (pivot m v).deg
unfolding height
height-some m zero l = absurd (omega arith)
height-some m (suc x) l = refl

pub height-pos : (m v : ℕ) → 0 < v → 0 < height m v
height-pos m v l = omega (arith, height-some m v l)

-- of any row, by what stands for a pivot that a zero row has not
pub index-less : (m v : ℕ) → index m v - 1 ≡ (pivot m v).col
unfolding index
index-less m zero = sym (N.zero-mod m)
index-less m (suc x) = omega arith

pub height-less : (m v : ℕ) → height m v - 1 ≡ (pivot m v).deg
unfolding height
height-less m zero = sym (N.zero-div m)
height-less m (suc x) = omega arith

-- a pivot index is a column or 0
pub index-most : (m v : ℕ) → 0 < m → index m v ≤ m
unfolding index
index-most m zero columns = omega arith
index-most m (suc x) columns = N.mod-lt _ columns

-- a row with a pivot index is not zero
pub indexed : (m v : ℕ) → 0 < index m v → 0 < v
unfolding index
indexed m zero l = absurd (omega arith)
indexed m (suc x) l = omega arith

-- the value is D m + I
pub value-is : (m v : ℕ) → v ≡ (height m v - 1) * m + index m v
unfolding index height
value-is m zero = sym (N.add-zero ((0 - 1) * m) ∙ N.zero-mul m)
value-is m (suc x) =
    let e : suc (pivot m (suc x)).deg - 1 ≡ (pivot m (suc x)).deg = omega arith in
    rw e (omega (arith, key-pivot m (suc x)))

pub height-mono : (m v w : ℕ) → w ≤ v → height m w ≤ height m v
unfolding height
height-mono m v zero l = omega arith
height-mono m zero (suc w) l = absurd (omega arith)
height-mono m (suc v) (suc w) l = case-le m 0
    (λ z. let e : m ≡ 0 = omega arith in rw (e, N.div-zero (suc v - 1), N.div-zero (suc w - 1)) (omega arith))
    (λ pos. omega (arith, (N.le-div_iff_mul-le pos).1 (below v w l)))
  where
    below : (v w : ℕ) → suc w ≤ suc v → (suc w - 1) / m * m ≤ suc v - 1
    below v w l = omega (arith, N.div-mul-le_self (suc w - 1) m)

pub height_bound : (m size v : ℕ) → v ≤ size * m → height m v ≤ size
unfolding height
height_bound m size zero l = omega arith
height_bound m size (suc x) l = case-le 1 m (λ pos. (N.div-lt_iff_lt-mul pos).1 (omega arith))
    (λ z. let e : m ≡ 0 = omega arith in absurd (omega (arith, N.mul-zero size, ap (λ y. size * y) e)))

-- rows of the same non-zero pivot index
module _ {m v w : ℕ} where
  pub clash-first : Clash m v w → 0 < v
  clash-first c = indexed m v c.nonzero

  pub clash-turned : Clash m v w → Clash m w v
  clash-turned c = record { nonzero = omega (arith, c.nonzero, c.same); same = sym c.same }

  pub clash-of : 0 < v → 0 < w → (pivot m v).col ≡ (pivot m w).col → Clash m v w
  clash-of p q e = record { nonzero = omega (arith, index-some m v p); same = index-some m v p ∙ ap suc e ∙ sym (index-some m w q) }

pub clash-second : {m v w : ℕ} → Clash m v w → 0 < w
clash-second c = clash-first (clash-turned c)

pub clash-columns : {m v w : ℕ} → Clash m v w → (pivot m v).col ≡ (pivot m w).col
clash-columns {m} {v} {w} c = omega (arith, c.same, index-some m v (clash-first c), index-some m w (clash-second c))
