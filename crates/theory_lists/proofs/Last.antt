-- The laws of the last place that is not zero.
use mathlib.Core.Path.{◌≡◌, refl, sym, ap, subst, ◌∙◌}
use mathlib.Core.Logic.{◌≢◌}
use Prim.Native.Nat.{ℕ, zero, suc, ◌-◌, ◌≤◌, ◌<◌}
use native.Mathlib.Omega.{arith}
use native.Mathlib.Decide.{ℕ_discrete, dec_le}
use Rattle.theory_lists.specs.Last.{where_zero, last_nonzero}

pub last-nil : (f : ℕ → ℕ) → last_nonzero 0 f ≡ 0
unfolding last_nonzero
last-nil f = refl

where-other : (v x y : ℕ) → v ≢ 0 → where_zero v x y ≡ y
where-other zero x y ne = absurd (ne refl)
where-other (suc v) x y ne = refl

-- a zero at the end does not count
pub last-zero : (n : ℕ) (f : ℕ → ℕ) → 0 < n → f (n - 1) ≡ 0 → last_nonzero n f ≡ last_nonzero (n - 1) f
unfolding last_nonzero
last-zero zero f h z = absurd (omega arith)
last-zero (suc n) f h z =
    let e : suc n - 1 ≡ n = omega arith in
    ap (λ (x : ℕ). where_zero x (last_nonzero n f) (suc n)) (rw e at z) ∙ ap (λ (m : ℕ). last_nonzero m f) (sym e)

pub last-here : (n : ℕ) (f : ℕ → ℕ) → 0 < n → f (n - 1) ≢ 0 → last_nonzero n f ≡ n
unfolding last_nonzero
last-here zero f h ne = absurd (omega arith)
last-here (suc n) f h ne =
    let e : suc n - 1 ≡ n = omega arith in
    where-other (f n) (last_nonzero n f) (suc n) (rw e at ne)

-- what the place is: at most n, zeros from it on, and no zero just before it
pub record IsLast (n : ℕ) (f : ℕ → ℕ) (r : ℕ) : Type 0 where
  pub within : r ≤ n
  pub zeros : (i : ℕ) → r ≤ i → i < n → f i ≡ 0
  pub top : 0 < r → f (r - 1) ≢ 0

pub last-is : (n : ℕ) (f : ℕ → ℕ) → IsLast n f (last_nonzero n f)
last-is zero f = subst (IsLast 0 f) (sym (last-nil f)) (record { within = omega arith; zeros = λ i l h. absurd (omega arith); top = λ h. absurd (omega arith) })
last-is (suc n) f = go (last-is n f) (ℕ_discrete (f (suc n - 1)) 0)
  where
    e : suc n - 1 ≡ n
    e = omega arith

    go : IsLast n f (last_nonzero n f) → Dec (f (suc n - 1) ≡ 0) → IsLast (suc n) f (last_nonzero (suc n) f)
    go before (yes z) = subst (IsLast (suc n) f) (sym (last-zero (suc n) f (omega arith) z ∙ ap (λ (m : ℕ). last_nonzero m f) e)) (record {
      within = omega (arith, before.within);
      zeros = λ i l h. elim (dec_le n i) [ yes b ↦ (let s : i ≡ suc n - 1 = omega arith in ap f s ∙ z) | no b ↦ before.zeros i l (omega arith) ];
      top = before.top;
    })
    go before (no ne) = subst (IsLast (suc n) f) (sym (last-here (suc n) f (omega arith) ne))
        (record { within = omega arith; zeros = λ i l h. absurd (omega arith); top = λ h. ne })

-- and nothing else is so
pub last-unique : (n : ℕ) (f : ℕ → ℕ) (r : ℕ) → IsLast n f r → last_nonzero n f ≡ r
last-unique n f r x = same (last_nonzero n f) r (last-is n f) x
  where
    -- of two such places neither is the greater
    not-less : (a b : ℕ) → IsLast n f a → IsLast n f b → a < b → ⊥
    not-less a b x y l = y.top (omega arith) (x.zeros (b - 1) (omega arith) (omega (arith, y.within)))

    same : (a b : ℕ) → IsLast n f a → IsLast n f b → a ≡ b
    same a b x y = elim (dec_le a b) [
      | yes l ↦ elim (dec_le b a) [ yes g ↦ omega arith | no g ↦ absurd (not-less a b x y (omega arith)) ]
      | no g ↦ absurd (not-less b a y x (omega arith))
    ]
