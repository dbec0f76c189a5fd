-- What lists hold, and each function of this crate as what it reads off a polynomial over the field Z/p.
use mathlib.Core.Path.{◌≡◌, refl, sym, ap, ◌∙◌, fun_ext}
use mathlib.Core.Logic.{◌↔◌}
use mathlib.Core.List.{List}
use Prim.Native.Nat.{ℕ, zero, suc, ◌-◌, ◌≤◌, ◌<◌}
use native.Mathlib.Nat as N
use native.Mathlib.Decide.{dec_le}
use native.Mathlib.Omega.{arith}
use lib.IntN.{pos, negsuc, pred_ℤ, nat_abs, pos-ne-negsuc}
use lib.ListN.{length, get_or}
use Rattle.theory_algebra.specs.Field.{Field}
use Rattle.theory_algebra.specs.Polynomial.{Degree}
use Rattle.theory_algebra.specs.Prime.{Prime}
use Rattle.theory_algebra.specs.Residue.{Zp, of}
use Rattle.theory_rings.specs.PrimeField.{zp_field}
use Rattle.theory_rings.proofs.PrimeField.{field-zero}
use Rattle.theory_algebra.proofs.Residue.{zp-path}
use Rattle.theory_rings.specs.Series.{series}
use Rattle.theory_rings.proofs.Series.{zero-at}
use Rattle.theory_lists.proofs.Change.{get_or-past}
use Rattle.theory_lists.proofs.Last.{IsLast, last-is}
use Rattle.poly.proofs.Ending.{ends-height}
use Rattle.poly.specs.Polynomial.{used_places, degree_of, leading_of, SamePolynomial}
use Rattle.theory_lists.specs.Coefficients.{Coefficients}
use Rattle.poly.specs.Holds.{Holds}

-- every list of coefficients holds a polynomial
pub holds-some : (p : ℕ) (some : 0 < p) (l : List ℕ) → Coefficients p l → Holds p l (λ k. of p some (get_or l k 0))
holds-some p some l c = record { at = λ k. sym (N.mod-eq_of_lt (below k)) }
  where
    below : (k : ℕ) → get_or l k 0 < p
    below k = elim (dec_le (length l) k) [ yes past ↦ (let e = get_or-past l k past in omega arith) | no in-l ↦ c.below k (omega arith) ]

-- and one only
pub holds-one : (p : ℕ) (l : List ℕ) (f g : ℕ → Zp p) → Holds p l f → Holds p l g → f ≡ g
holds-one p l f g h k = fun_ext (λ i. zp-path _ _ (sym (h.at i) ∙ k.at i))

-- whose coefficients stand in it
pub holds-coefficients : (p : ℕ) (l : List ℕ) (f : ℕ → Zp p) → Holds p l f → Coefficients p l
holds-coefficients p l f h = record { below = λ i _. let e = h.at i in let b = (f i).lt in omega arith }

module _ (p : ℕ) (P : Prime p) where
  abbrev K : Field (Zp p)
  K = zp_field p P

  -- the number of a coefficient that is zero
  zero_number : (a : Zp p) → a ≡ K.ring.𝟘 → a.val ≡ 0
  zero_number a e = ap (λ (x : Zp p). x.val) e ∙ field-zero p P

  number-zero : (a : Zp p) → a.val ≡ 0 → a ≡ K.ring.𝟘
  number-zero a e = zp-path _ _ (e ∙ sym (field-zero p P))

  module _ (l : List ℕ) (f : ℕ → Zp p) (h : Holds p l f) where
    last : IsLast (length l) (λ i. get_or l i 0) (used_places l)
    last = last-is (length l) (λ i. get_or l i 0)

    past-height : (k : ℕ) → used_places l ≤ k → f k ≡ K.ring.𝟘
    past-height k from = number-zero (f k) (sym (h.at k) ∙ (ends-height l).zeros k from)

    -- the height that a degree stands for
    height-none : degree_of l ≡ negsuc 0 → used_places l ≡ 0
    height-none e = go (used_places l) e
      where
        go : (n : ℕ) → pred_ℤ (pos n) ≡ negsuc 0 → n ≡ 0
        go zero _ = refl
        go (suc n) x = absurd (pos-ne-negsuc n 0 x)

    height-some : (d : ℕ) → degree_of l ≡ pos d → used_places l ≡ suc d
    height-some d e = go (used_places l) e
      where
        go : (n : ℕ) → pred_ℤ (pos n) ≡ pos d → n ≡ suc d
        go zero x = absurd (pos-ne-negsuc d 0 (sym x))
        go (suc n) x = ap (λ z. suc (nat_abs z)) x

    -- the coefficient at the degree is the leading one
    pub leading_at : (d : ℕ) → degree_of l ≡ pos d → leading_of l ≡ (f d).val
    leading_at d e =
        let before : used_places l - 1 ≡ d = omega (arith, height-some d e) in
        ap (λ (i : ℕ). get_or l i 0) before ∙ h.at d

    -- the degree is -1 where the polynomial is zero, and else the degree of the polynomial
    pub degree-zero : degree_of l ≡ negsuc 0 → f ≡ (series K.ring).𝟘
    degree-zero e = fun_ext (λ k. past-height k (omega (arith, height-none e)) ∙ sym (zero-at K.ring k))

    pub degree-some : (d : ℕ) → degree_of l ≡ pos d → Degree K.ring f d
    degree-some d e = record {
      top = λ z. last.top (omega (arith, height-some d e)) (leading_at d e ∙ zero_number (f d) z);
      below = λ k from. past-height k (omega (arith, height-some d e));
    }

-- the comparison is that of the polynomials
pub holds_same : (p : ℕ) (a b : List ℕ) (f g : ℕ → Zp p) → Holds p a f → Holds p b g → SamePolynomial a b ↔ (f ≡ g)
holds_same p a b f g hf hg = (
  (λ s. fun_ext (λ k. zp-path _ _ (sym (hf.at k) ∙ s.same k ∙ hg.at k))),
  (λ e. record { same = λ k. hf.at k ∙ ap (λ (h : ℕ → Zp p). (h k).val) e ∙ sym (hg.at k) }),
)
