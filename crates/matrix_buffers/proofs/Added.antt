-- What is added to the rows or columns of a buffer is added to the matrix that it holds.
use mathlib.Core.Path.{◌≡◌, sym, ap, ap₂, ◌∙◌}
use mathlib.Core.List.{List}
use Prim.Native.Nat.{ℕ, ◌+◌, ◌*◌, ◌-◌, ◌%◌, ◌<◌}
use native.Mathlib.Nat as N
use native.Mathlib.Omega.{arith}
use lib.Dec.{leb}
use borrow.Author.Tests.{le-leb, lt-leb}
use Rattle.theory_algebra.specs.Ring.{CommRing}
use Rattle.theory_algebra.specs.Matrix.{transpose, addrow}
use Rattle.theory_algebra.specs.Prime.{Prime}
use Rattle.theory_algebra.specs.Residue.{Zp}
use Rattle.theory_algebra.specs.Series.{mono}
use Rattle.theory_algebra.proofs.Cases.{case-le}
use Rattle.theory_algebra.proofs.Matrix.{setrow-same}
use Rattle.theory_rings.specs.PrimeField.{zp_field}
use Rattle.theory_rings.proofs.PrimeField.{field-add, field-mul, field-neg, field-zero}
use Rattle.theory_rings.specs.Series.{series}
use Rattle.theory_rings.proofs.Series.{add_at, neg-mono, mono-mul-low, mono-mul-high}
use Rattle.theory_lattice.specs.Row.{Row}
use Rattle.theory_lattice.specs.PolynomialMatrix.{AllBounded}
use Rattle.theory_lists.specs.Where.{where_true}
use Rattle.theory_lists.specs.Place.{Layout}
use Rattle.matrix_promises.specs.Held.{Held}
use Rattle.matrix_buffers.specs.Added.{raised, CellsAdded, RowAdded, ColumnAdded}
use Rattle.matrix_promises.specs.Layout.{by_rows}
use Rattle.theory_lists.proofs.Place.{turned}
use Rattle.matrix_promises.proofs.Held.{held-turned, held-turned-back}
use Rattle.matrix_buffers.proofs.Written.{held-written}

module _ (p : ℕ) (P : Prime p) where
  abbrev R : CommRing (Zp p)
  R = (zp_field p P).ring

  -- f plus c·x^e times g, by numbers
  sum_number : (c : Zp p) (e : ℕ) (f g : ℕ → Zp p) (t : ℕ)
      → ((series R).add f ((series R).mul (mono R c e) g) t).val ≡ ((f t).val + c.val * raised e (λ u. (g u).val) t) % p
  sum_number c e f g t =
      ap (λ (x : Zp p). x.val) (add_at R f _ t)
      ∙ field-add p P (f t) _
      ∙ ap (λ (x : ℕ). ((f t).val + x) % p) (case-le e t
      (λ from. simp (le-leb e t from) (ap (λ (x : Zp p). x.val) (mono-mul-high R c e g t from) ∙ field-mul p P c (g (t - e))))
      (λ low. simp (lt-leb e t low, N.mul-zero, N.zero-mod) (ap (λ (x : Zp p). x.val) (mono-mul-low R c e g t low) ∙ field-zero p P)))
      ∙ N.add-mod-mod (f t).val (c.val * raised e (λ u. (g u).val) t) p

  -- in any layout
  held-added : {n m w : ℕ} (L : Layout n m w) {b b' : List ℕ} {M : ℕ → Row (Zp p)} (c : Zp p) (e l k : ℕ) → l < n → k < n
      → Held L p b M → CellsAdded p c.val e w m (L.spot l) (L.spot k) b b b'
      → AllBounded R n m w (addrow (series R) M l k (mono R c e))
      → Held L p b' (addrow (series R) M l k (mono R c e))
  held-added L {M = M} c e l k ll lk h d fits = held-written p L l _ ll h d
      (λ j t lj lt.
      ap₂ (λ (x y : ℕ). (x + c.val * where_true (leb e t) y) % p) (h.at l j t ll lj lt) (h.at k j (t - e) lk lj (omega arith))
      ∙ sym (sum_number c e (M l j) (M k j) t))
      (λ j t lj past. ap (λ (x : Zp p). x.val) ((rw (setrow-same M l _) at (fits l ll)) j lj t past) ∙ field-zero p P)

  -- c·x^e times row k is added to row l, where nothing falls outside
  pub held-row : (n m w : ℕ) {b b' : List ℕ} {M : ℕ → Row (Zp p)} (c : Zp p) (e l k : ℕ) → l < n → k < n
      → Held (by_rows n m w) p b M → RowAdded p m w c.val e l k b b'
      → AllBounded R n m w (addrow (series R) M l k (mono R c e))
      → Held (by_rows n m w) p b' (addrow (series R) M l k (mono R c e))
  held-row n m w = held-added (by_rows n m w)

  -- c·x^e times row k is taken from row l: what is added is the negative, by its number d
  pub held-subtract : (n m w : ℕ) {b b' : List ℕ} {M : ℕ → Row (Zp p)} (c : Zp p) (d e l k : ℕ) → d ≡ (p - c.val) % p → l < n → k < n
      → Held (by_rows n m w) p b M → RowAdded p m w d e l k b b'
      → AllBounded R n m w (addrow (series R) M l k ((series R).neg (mono R c e)))
      → Held (by_rows n m w) p b' (addrow (series R) M l k ((series R).neg (mono R c e)))
  held-subtract n m w c d e l k d-is ll lk h a fits =
      rw (neg-mono R c e) (held-row n m w (R.neg c) e l k ll lk h (rw (d-is ∙ sym (field-neg p P c)) at a) (rw (neg-mono R c e) at fits))

  -- c·x^e times column y is added to column x, where nothing falls outside
  pub held-column : (n w : ℕ) {b b' : List ℕ} {M : ℕ → Row (Zp p)} (c : Zp p) (e x y : ℕ) → x < n → y < n
      → Held (by_rows n n w) p b M → ColumnAdded p n w c.val e x y b b'
      → AllBounded R n n w (transpose (addrow (series R) (transpose M) x y (mono R c e)))
      → Held (by_rows n n w) p b' (transpose (addrow (series R) (transpose M) x y (mono R c e)))
  held-column n w c e x y lx ly h d fits =
      let L = by_rows n n w in
      held-turned-back L p (held-added (turned L) c e x y lx ly (held-turned L p h) d (λ j lj i li. fits i li j lj))
