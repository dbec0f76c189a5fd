-- No more rows of A are independent than are not zero in R; so that number is the rank of A.
use mathlib.Core.Path.{◌≡◌, refl, sym, ◌∙◌, ap}
use mathlib.Core.Logic.{◌≢◌}
use Prim.Native.Nat.{ℕ, zero, suc, ◌≤◌, ◌<◌}
use native.Mathlib.Omega.{arith}
use Rattle.theory_algebra.specs.Ring.{CommRing}
use Rattle.theory_algebra.specs.Field.{Field}
use Rattle.theory_algebra.specs.Polynomial.{Below, IsPolynomial}
use Rattle.theory_algebra.specs.Matrix.{product}
use Rattle.theory_algebra.proofs.Ring as Ring
use Rattle.theory_algebra.proofs.Cases.{case-le}
use Rattle.theory_algebra.proofs.Sum.{sum-cong}
use Rattle.theory_rings.specs.Series.{series}
use Rattle.theory_rings.proofs.Polynomial.{polynomial-zero}
use Rattle.theory_lattice.specs.Term.{Term, TermOrder}
use Rattle.theory_lattice.specs.Row.{Row, coef, comb}
use Rattle.theory_lattice.specs.Lead.{Lead}
use Rattle.theory_lattice.specs.PolynomialMatrix.{AllBounded}
use Rattle.theory_lattice.proofs.Coefficients.{zero-series, below-zero}
use Rattle.theory_lattice.proofs.DegreeOverPosition.{degree-over-position}
use Rattle.theory_lattice.proofs.Lead.{lead-same}
use Rattle.theory_lattice.proofs.LeadTheorem.{led-lead}
use Rattle.theory_reduction.specs.Pivot.{values, pivot}
use Rattle.theory_reduction.specs.Step.{Carried, begin}
use Rattle.theory_reduction.specs.Rank.{sign, chosen, Independent, IsRank, rank}
use Rattle.theory_lists.proofs.Total.{total-injection}
use Rattle.theory_reduction.proofs.Sign.{sign_pos, sign_le}
use Rattle.theory_reduction.proofs.Index.{clash-of}
use Rattle.theory_reduction.proofs.Pivot.{value-lead, value-null, lead-some, lead_is}
use Rattle.theory_reduction.proofs.Ending.{reach}
use Rattle.theory_reduction.proofs.Transforms.{Ended, runs-ended}
use Rattle.theory_reduction.proofs.Triangular.{Lower}
use Rattle.theory_reduction.proofs.Combination.{comb-same-rows, comb-led}
use Rattle.theory_reduction.proofs.Listed.{runs-lower, listed}

module _ {F : Type 0} (R : CommRing F) where
  -- a polynomial of a row that is chosen, and 0 where the row is not
  keep : ℕ → (ℕ → F) → ℕ → F
  keep zero f = (series R).𝟘
  keep (suc v) f = f

  keep-mul : (v : ℕ) (f g : ℕ → F) → (series R).mul f (keep v g) ≡ (series R).mul (keep v f) g
  unfolding keep
  keep-mul zero f g = Ring.mul-zero (series R) f ∙ sym (Ring.zero-mul (series R) g)
  keep-mul (suc v) f g = refl

  keep_some : (v : ℕ) (f : ℕ → F) → 0 < v → keep v f ≡ f
  unfolding keep
  keep_some zero f l = absurd (omega arith)
  keep_some (suc v) f l = refl

  keep-none : (v : ℕ) (f : ℕ → F) → v ≡ 0 → keep v f ≡ (λ _. R.𝟘)
  unfolding keep
  keep-none v f e = rw e (zero-series R)

  keep_all : (P : (ℕ → F) → Type 0) → P (series R).𝟘 → (v : ℕ) (f : ℕ → F) → P f → P (keep v f)
  unfolding keep
  keep_all P z zero f p = z
  keep_all P z (suc v) f p = p

module _ {F : Type 0} (K : Field F) (n m size : ℕ) (A : ℕ → Row F) (u : Carried F) (h : Ended K n m size A u)
    (z : ℕ → ℕ) (independent : Independent K.ring n m z A) where
  abbrev T : TermOrder m
  T = degree-over-position m

  abbrev v : (ℕ → Row F) → ℕ → ℕ
  v = values K m size

  -- the chosen rows, the others put to zero
  abbrev B : ℕ → Row F
  B i c = keep K.ring (z i) (A i c)

  -- their reduction
  module _ (t : Carried F) (th : Ended K n m size B t) (low : Lower K.ring n t.U) where
    -- row i of t is the combination of A by q i
    abbrev q : ℕ → ℕ → ℕ → F
    q i j = keep K.ring (z j) (t.U i j)

    q-polynomial : (i : ℕ) → i < n → (j : ℕ) → j < n → IsPolynomial K.ring (q i j)
    q-polynomial i li j lj = keep_all K.ring (IsPolynomial K.ring) (polynomial-zero K.ring) (z j) (t.U i j)
        (th.transformed.inverse.left_polynomial i j li lj)

    row : (i : ℕ) → i < n → (s : Term) → s.col < m → coef (comb K.ring n (q i) A) s ≡ coef (t.R i) s
    unfolding comb product
    row i li s ls = ap (λ f. f s.deg)
        (sym (sum-cong (series K.ring) n _ _ (λ j lj. keep-mul K.ring (z j) (t.U i j) (A j s.col)))
        ∙ th.transformed.forth i s.col li ls)

    -- a chosen row does not become zero, or U would have a 0 on the diagonal at x = 0
    alive : (i : ℕ) → i < n → 0 < z i → 0 < v t.R i
    alive i l p = case-le 1 (v t.R i) (λ w. w) (λ w. absurd (K.nontrivial
        (sym (low.diagonal i l)
        ∙ ap (λ f. f 0) (sym (keep_some K.ring (z i) (t.U i i) p)
        ∙ independent (q i) (q-polynomial i l) (λ j lj e. keep-none K.ring (z j) (t.U i j) e)
        (λ s ls. row i l s ls ∙ value-null K m size (t.R i) (th.bounded i l) (omega arith) s ls) i l))))

    -- its pivot column is that of a row of R
    record Meets (i : ℕ) : Type 0 where
      own : 0 < v t.R i
      at : ℕ
      fits : at < n
      some : 0 < v u.R at
      column : (pivot m (v t.R i)).col ≡ (pivot m (v u.R at)).col

    meets : (i : ℕ) → i < n → 0 < sign (z i) → Meets i
    meets i l p =
        let (g, e) = led-lead K T n y u.R (comb-led K n m size A u h (q i) (q-polynomial i l)) _ x in
        let b = h.bounded g.at g.fits in
        record {
          own = own;
          at = g.at;
          fits = g.fits;
          some = lead-some K m size (u.R g.at) b g.row g.row-lead;
          column = ap (λ s. s.col) e ∙ sym (ap (λ s. s.col) (lead_is K m size (u.R g.at) b g.row g.row-lead));
        }
      where
        own : 0 < v t.R i
        own = alive i l (sign_pos (z i) p)

        y : ℕ → ℕ → F
        y = comb K.ring n (q i) u.V'

        x : Lead K.ring T (pivot m (v t.R i)) (comb K.ring n y u.R)
        x = lead-same K.ring T _ (t.R i) _ (λ s ls. sym (comb-same-rows K n m size A u h (q i) (q-polynomial i l) s ls ∙ row i l s ls))
            (value-lead K m size (t.R i) (th.bounded i l) own)

    few : chosen n z ≤ rank K n m size u.R
    few = total-injection n n _ _ (λ i l p. (meets i l p).at) (λ i l p. (meets i l p).fits)
        (λ i j li lj pi pj l. apart i j l lj (meets i li pi) (meets j lj pj))
        (λ i l p. sign_le (z i) (v u.R (meets i l p).at) (λ _. (meets i l p).some))
      where
        apart : (i j : ℕ) → i < j → j < n → (x : Meets i) (y : Meets j) → x.at ≢ y.at
        apart i j l lj x y e = th.done i j l lj (clash-of x.own y.own (x.column ∙ ap (λ k. (pivot m (v u.R k)).col) e ∙ sym y.column))

  pub largest : AllBounded K.ring n m size A → chosen n z ≤ rank K n m size u.R
  largest b =
      let (c, t, r) = reach K n m size (begin K.ring B) bounded in
      few t (runs-ended K n m size B r bounded) (runs-lower K n m size B r bounded)
    where
      bounded : AllBounded K.ring n m size B
      bounded i l c lc = keep_all K.ring (λ f. Below K.ring f size) (below-zero K.ring size) (z i) (A i c) (b i l c lc)

-- "Rank: the number of non-zero rows of R. That this is the rank of A […] is proved."
pub rank_is : {F : Type 0} (K : Field F) (n m size : ℕ) (A : ℕ → Row F) (u : Carried F) → AllBounded K.ring n m size A
    → Ended K n m size A u → Lower K.ring n u.U → IsRank K.ring n m A (rank K n m size u.R)
rank_is K n m size A u b h low = record {
  rows = values K m size u.R;
  many = refl;
  independent = listed K n m size A u h low;
  largest = λ z ind. largest K n m size A u h z ind b;
}
