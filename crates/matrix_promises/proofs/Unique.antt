-- What the services promise is determined by the input.
use mathlib.Core.Path.{◌≡◌, sym, ap, subst, ◌∙◌}
use mathlib.Core.List.{List}
use Prim.Native.Nat.{ℕ, ◌+◌, ◌*◌, ◌<◌}
use native.Mathlib.Omega.{arith}
use Rattle.theory_algebra.specs.Prime.{Prime}
use Rattle.theory_algebra.specs.Residue.{Zp}
use Rattle.theory_rings.specs.PrimeField.{zp_field}
use Rattle.theory_reduction.specs.Pivot.{values}
use Rattle.theory_reduction.specs.Rank as Rank
use Rattle.theory_reduction.specs.Step.{Carried}
use Rattle.theory_reduction.proofs.Ending.{runs-unique, once-determined}
use Rattle.theory_popov.proofs.Facts.{popov-unique}
use Rattle.matrix_promises.specs.Layout.{by_rows}
use Rattle.matrix_promises.specs.Held.{Held}
use Rattle.matrix_promises.specs.Holding.{Holding}
use Rattle.matrix_promises.specs.Reduced.{IsReduction, IsReducedAlone}
use Rattle.matrix_promises.specs.RowList.{mask_of, IsRowList}
use Rattle.matrix_promises.specs.SteppedOnce.{SteppedOnce}
use Rattle.matrix_promises.specs.Popov.{IsPopov}
use Rattle.matrix_promises.specs.Determinant.{IsDeterminant}
use Rattle.matrix_promises.proofs.Held.{held-unique}

-- the state determines the three buffers
pub holding-unique : {p n m w : ℕ} {r u v r' u' v' : List ℕ} {t : Carried (Zp p)} → Holding p n m w r u v t → Holding p n m w r' u' v' t
    → (r ≡ r') × (u ≡ u') × (v ≡ v')
holding-unique {p} {n} {m} {w} h h' =
    (held-unique (by_rows n m w) p h.R h'.R, held-unique (by_rows n n (n * w)) p h.U h'.U, held-unique (by_rows n n w) p h.V' h'.V')

positive : {p : ℕ} → Prime p → 0 < p
positive P = omega (arith, P.two)

module _ {p n m w : ℕ} {a : List ℕ} (P : Prime p) where
  -- the reduction
  pub reduction-unique : {rank count rank' count' : ℕ} {r u v r' u' v' : List ℕ}
      → IsReduction p n m w a r u v rank count → IsReduction p n m w a r' u' v' rank' count'
      → (rank ≡ rank') × (count ≡ count') × (r ≡ r') × (u ≡ u') × (v ≡ v')
  reduction-unique {r = r} {u} {v} x y =
      let f = x.by P (positive P) in
      let g = y.by P (positive P) in
      let (counts, ends) = runs-unique (zp_field p P) n m w f.runs g.runs in
      let (same-r, same-u, same-v) = holding-unique (subst (Holding p n m w r u v) ends f.holding) g.holding in
      (f.rank_is ∙ ap (λ (t : Carried (Zp p)). Rank.rank (zp_field p P) n m w t.R) ends ∙ sym g.rank_is, counts, same-r, same-u, same-v)

  -- R alone
  pub alone-unique : {rank count rank' count' : ℕ} {r r' : List ℕ} → IsReducedAlone p n m w a r rank count → IsReducedAlone p n m w a r' rank' count'
      → (rank ≡ rank') × (count ≡ count') × (r ≡ r')
  alone-unique {r = r} x y =
      let f = x.by P (positive P) in
      let g = y.by P (positive P) in
      let (counts, ends) = runs-unique (zp_field p P) n m w f.runs g.runs in (
        f.rank_is ∙ ap (λ (t : Carried (Zp p)). Rank.rank (zp_field p P) n m w t.R) ends ∙ sym g.rank_is,
        counts,
        held-unique (by_rows n m w) p (subst (λ (t : Carried (Zp p)). Held (by_rows n m w) p r t.R) ends f.held) g.held,
      )

  -- the list of rows
  pub row-list-unique : {rows rows' : ℕ} → IsRowList p n m w a rows → IsRowList p n m w a rows' → rows ≡ rows'
  row-list-unique x y =
      let f = x.by P (positive P) in
      let g = y.by P (positive P) in
      let (_, ends) = runs-unique (zp_field p P) n m w f.runs g.runs in
      f.rows_are ∙ ap (λ (t : Carried (Zp p)). mask_of n (values (zp_field p P) m w t.R)) ends ∙ sym g.rows_are

  -- the single step
  pub stepped-unique : {count count' : ℕ} {r r' : List ℕ} → SteppedOnce p n m w count a r → SteppedOnce p n m w count' a r'
      → (count ≡ count') × (r ≡ r')
  stepped-unique {r = r} x y =
      let f = x.by P (positive P) in
      let g = y.by P (positive P) in
      let (counts, ends) = once-determined (zp_field p P) n m w f.stepped g.stepped in
      (counts, held-unique (by_rows n m w) p (subst (λ (t : Carried (Zp p)). Held (by_rows n m w) p r t.R) ends f.held) g.held)

  -- the Popov form
  pub popov-form-unique : {rank first second rank' first' second' : ℕ} {r u v r' u' v' : List ℕ}
      → IsPopov p n m w a r u v rank first second → IsPopov p n m w a r' u' v' rank' first' second'
      → (rank ≡ rank') × (first ≡ first') × (second ≡ second') × (r ≡ r') × (u ≡ u') × (v ≡ v')
  popov-form-unique {r = r} {u} {v} x y =
      let f = x.by P (positive P) in
      let g = y.by P (positive P) in
      let (firsts, seconds, ends) = popov-unique (zp_field p P) n m w _ f.run g.run in
      let (same-r, same-u, same-v) = holding-unique (subst (Holding p n m w r u v) ends f.holding) g.holding in
      let ranks = f.rank_is ∙ ap (λ (t : Carried (Zp p)). Rank.rank (zp_field p P) n m w t.R) ends ∙ sym g.rank_is in
      (ranks, firsts, seconds, same-r, same-u, same-v)

-- the determinant, in every place
pub determinant-unique : {p n d : ℕ} {a r r' : List ℕ} → Prime p → IsDeterminant p n d a r → IsDeterminant p n d a r' → r ≡ r'
determinant-unique {p} {n} {d} P x y = held-unique (by_rows 1 1 (n * d + 1)) p (x.by P (positive P)) (y.by P (positive P))
