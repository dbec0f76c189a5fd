-- A buffer that holds a matrix determines it and is determined by it.
use mathlib.Core.Path.{◌≡◌, sym, ap, ◌∙◌, fun_ext}
use mathlib.Core.List.{List}
use Prim.Native.Nat.{ℕ, ◌*◌, ◌<◌}
use native.Mathlib.Nat as N
use native.Mathlib.Omega.{arith}
use lib.ListN.{length, get_or}
use lib.Seq.{ext_get_or}
use borrow.Author.Tests.{lt-ltb, le-ltb}
use Rattle.theory_algebra.specs.Matrix.{Same, transpose}
use Rattle.theory_algebra.specs.Prime.{Prime}
use Rattle.theory_algebra.specs.Residue.{Zp}
use Rattle.theory_algebra.proofs.Cases.{case-le}
use Rattle.theory_rings.specs.PrimeField.{zp_field}
use Rattle.theory_rings.proofs.PrimeField.{field-zero}
use Rattle.theory_algebra.proofs.Residue.{zp-path}
use Rattle.theory_lattice.specs.Row.{Row}
use Rattle.theory_lattice.specs.PolynomialMatrix.{AllBounded}
use Rattle.theory_lists.specs.Coefficients.{Coefficients}
use Rattle.theory_lists.specs.Place.{Hit, Layout}
use Rattle.matrix_promises.specs.Held.{Held, matrix_of}
use Rattle.theory_lists.proofs.Place.{turned}

module _ {n m w : ℕ} (L : Layout n m w) (p : ℕ) where
  -- what stands at a place is the coefficient that has the place
  at-hit : {l : List ℕ} {M : ℕ → Row (Zp p)} → Held L p l M → (x : ℕ) (h : Hit n m w L.spot x) → get_or l x 0 ≡ (M h.row h.col h.deg).val
  at-hit {l} held x h = sym (ap (λ (y : ℕ). get_or l y 0) h.same) ∙ held.at _ _ _ h.row_fits h.col_fits h.deg_fits

  pub held-coefficients : {l : List ℕ} {M : ℕ → Row (Zp p)} → Held L p l M → Coefficients p l
  held-coefficients {l} {M} held = record {
    below = λ x lx.
        let h = L.hits x (omega (arith, held.size)) in
        omega (arith, at-hit held x h, (M h.row h.col h.deg).lt);
  }

  -- the matrix determines the buffer
  pub held-unique : {l l' : List ℕ} {M : ℕ → Row (Zp p)} → Held L p l M → Held L p l' M → l ≡ l'
  held-unique {l} {l'} held held' = ext_get_or 0 l l' (held.size ∙ sym held'.size) (λ x lx.
      let h = L.hits x (omega (arith, held.size)) in
      at-hit held x h ∙ sym (at-hit held' x h))

  -- the buffer determines the matrix
  pub held_same : {l : List ℕ} {M M' : ℕ → Row (Zp p)} → Held L p l M → Held L p l M' → Same n m M M'
  held_same held held' i j li lj = fun_ext (λ t. zp-path _ _ (case-le w t
      (λ past. held.beyond i j t li lj past ∙ sym (held'.beyond i j t li lj past))
      (λ lt. sym (held.at i j t li lj lt) ∙ held'.at i j t li lj lt)))

  -- only the n rows and m columns count
  pub held-matrix-same : {l : List ℕ} {M M' : ℕ → Row (Zp p)} → Same n m M M' → Held L p l M → Held L p l M'
  held-matrix-same same held = record {
    size = held.size;
    at = λ i j t li lj lt. held.at i j t li lj lt ∙ ap (λ (f : ℕ → Zp p). (f t).val) (same i j li lj);
    beyond = λ i j t li lj past. ap (λ (f : ℕ → Zp p). (f t).val) (sym (same i j li lj)) ∙ held.beyond i j t li lj past;
  }

  -- every list of residues that has the length holds a matrix
  pub held-matrix_of : (some : 0 < p) (l : List ℕ) → length l ≡ n * (m * w) → Coefficients p l → Held L p l (matrix_of L p some l)
  unfolding matrix_of
  held-matrix_of some l size residues = record {
    size = size;
    at = λ i j t li lj lt. simp (lt-ltb t w lt) (sym (N.mod-eq_of_lt (residues.below _ (omega (arith, L.within i j t li lj lt)))));
    beyond = λ i j t li lj past. simp (le-ltb t w past) (N.zero-mod p);
  }

  -- the matrix has no term that has no place
  pub held-bounded : (P : Prime p) {l : List ℕ} {M : ℕ → Row (Zp p)} → Held L p l M → AllBounded (zp_field p P).ring n m w M
  held-bounded P held i li j lj t past = zp-path _ _ (held.beyond i j t li lj past ∙ sym (field-zero p P))

  -- the same buffer holds the columns as rows, in the layout that is turned
  pub held-turned : {l : List ℕ} {M : ℕ → Row (Zp p)} → Held L p l M → Held (turned L) p l (transpose M)
  held-turned held = record {
    size = held.size ∙ N.mul_left_comm n m w;
    at = λ j i t lj li lt. held.at i j t li lj lt;
    beyond = λ j i t lj li past. held.beyond i j t li lj past;
  }

  pub held-turned-back : {l : List ℕ} {M : ℕ → Row (Zp p)} → Held (turned L) p l M → Held L p l (transpose M)
  held-turned-back held = record {
    size = held.size ∙ N.mul_left_comm m n w;
    at = λ i j t li lj lt. held.at j i t lj li lt;
    beyond = λ i j t li lj past. held.beyond j i t lj li past;
  }
