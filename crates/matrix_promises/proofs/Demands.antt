-- The three demands hold.
use mathlib.Core.Path.{◌≡◌, refl, sym, ap, subst, ◌∙◌}
use mathlib.Core.Logic.{◌↔◌}
use mathlib.Core.List.{List}
use Prim.Native.Nat.{ℕ, suc, ◌+◌, ◌-◌, ◌*◌, ◌<◌}
use native.Mathlib.Omega.{arith}
use Rattle.theory_algebra.specs.Field.{Field}
use Rattle.theory_algebra.specs.Matrix.{Same}
use Rattle.theory_algebra.specs.Prime.{Prime}
use Rattle.theory_algebra.specs.Polynomial.{Below}
use Rattle.theory_algebra.specs.Residue.{Zp}
use Rattle.theory_rings.specs.PrimeField.{zp_field}
use Rattle.theory_lists.specs.Place.{Layout}
use Rattle.theory_lattice.specs.PolynomialMatrix.{AllBounded, LeftEquivalent}
use Rattle.theory_reduction.specs.Pivot.{values}
use Rattle.theory_reduction.specs.Rank.{IsRank}
use Rattle.theory_reduction.specs.Step.{Carried}
use Rattle.theory_reduction.proofs.Ending.{runs-unique}
use Rattle.theory_reduction.specs.ReductionFacts.{ReductionFacts}
use Rattle.theory_reduction.proofs.Facts.{reduction-facts}
use Rattle.theory_popov.specs.PopovFacts.{PopovFacts}
use Rattle.theory_popov.proofs.Facts.{popov-facts}
use Rattle.theory_popov.proofs.Equivalence.{popov-equivalent}
use Rattle.matrix_promises.specs.Refused.{reduction_sizes}
use Rattle.matrix_promises.specs.Layout.{by_rows}
use Rattle.matrix_promises.specs.Held.{Held, matrix_of}
use Rattle.matrix_promises.specs.Reduced.{ReducedBy}
use Rattle.matrix_promises.specs.RowList.{mask_of, ListedBy}
use Rattle.matrix_promises.specs.Popov.{PopovBy}
use Rattle.matrix_promises.specs.Service.{Service, Promise}
use Rattle.matrix_promises.specs.Services.{WholeCall, ReductionOutcome, PopovOutcome, lengths, reduction, single_step, popov_form, determinant}
use Rattle.matrix_promises.specs.Facts.{input_of, InBounds, ReducedFacts, FormedFacts}
use Rattle.matrix_promises.specs.Demands.{OneAnswer, Demand1, Demand2, Demand3}
use Rattle.matrix_promises.proofs.Held.{held-matrix_of, held-bounded, held-unique, held_same, held-matrix-same}
use Rattle.matrix_promises.proofs.Tables.{InOrder, in_order, sized, matrix-decided, determinant-decided, answering-unique}
use Rattle.matrix_promises.proofs.Unique.{reduction-unique, row-list-unique, stepped-unique, popov-form-unique, determinant-unique}

-- ## Demand 1

-- what a call that is done leaves is determined
reduction-same : (c : WholeCall) (x y : ReductionOutcome) → Prime c.p → reduction.Done c x → reduction.Done c y → x ≡ y
reduction-same c x y P (f, rows) (g, rows') =
    let (ranks, counts, same-r, same-u, same-v) = reduction-unique P f g in
    let masks = row-list-unique P rows rows' in
    λ i. record { rank = ranks i; count = counts i; rows = masks i; r = same-r i; u = same-u i; v = same-v i }

popov-same : (c : WholeCall) (x y : PopovOutcome) → Prime c.p → popov_form.Done c x → popov_form.Done c y → x ≡ y
popov-same c x y P f g =
    let (ranks, firsts, seconds, same-r, same-u, same-v) = popov-form-unique P f g in
    λ i. record { rank = ranks i; first = firsts i; second = seconds i; r = same-r i; u = same-u i; v = same-v i }

-- the other two parts are what a promise says
answers : (S : Service) → ((call : S.Call) (k i l j : ℕ) (x y : S.Outcome) → Promise S call k i x → Promise S call l j y
    → ◌≡◌ {A = ℕ × ℕ × S.Outcome} (k, i, x) (l, j, y)) → OneAnswer S
answers S one = record {
  one = λ call k i l j x y f g. let e = one call k i l j x y f g in (ap (λ z. z.0) e, ap (λ z. z.1) e, ap (λ z. z.2) e);
  in_order = λ call k i x f. f.told;
  untouched = λ call k i x f. f.refused;
}

pub demand-1 : Demand1
demand-1 = (
  answers reduction (λ c k i l j x y. answering-unique matrix-decided (reduction-same c x y)),
  answers single_step (λ c k i l j x y. answering-unique matrix-decided (λ P f g.
      let (counts, results) = stepped-unique P f g in λ i. record { count = counts i; r = results i })),
  answers popov_form (λ c k i l j x y. answering-unique matrix-decided (popov-same c x y)),
  answers determinant (λ c k i l j x y. answering-unique determinant-decided determinant-unique),
)

-- ## Demand 2

-- a call that is in order: the matrix in its input is the one that its places say
module _ (c : WholeCall) (order : InOrder c.p c.n c.m c.d (lengths c) (reduction_sizes c.n c.m c.d) c.a) where
  columns : 0 < c.m
  columns = omega (arith, order.numbers.shape.columns)

  input-bounded : (P : Prime c.p) (some : 0 < c.p)
      → AllBounded (zp_field c.p P).ring c.n c.m (c.d + 1) (input_of c some)
  input-bounded P some =
      let L : Layout c.n c.m (c.d + 1) = by_rows c.n c.m (c.d + 1) in
      held-bounded L c.p P (held-matrix_of L c.p some c.a (sized order 0) order.residues)

-- the bounds on U and V, a cell of V having d + 1 places
in_bounds : {F : Type 0} (K : Field F) (n d : ℕ) (t : Carried F)
    → ((i j : ℕ) → i < n → j < n → Below K.ring (t.U i j) (suc ((n - 1) * (d + 1 - 1))))
    → ((i j : ℕ) → i < n → j < n → Below K.ring (t.V' i j) (d + 1)) → InBounds K n d t
in_bounds K n d t u v =
    let less : d + 1 - 1 ≡ d = omega arith in
    let more : d + 1 ≡ suc d = omega arith in
    record {
      u_degrees = λ i j li lj. subst (λ (b : ℕ). Below K.ring (t.U i j) (suc ((n - 1) * b))) less (u i j li lj);
      v_degrees = λ i j li lj. subst (Below K.ring (t.V' i j)) more (v i j li lj);
    }

reduced : (c : WholeCall) (x : ReductionOutcome) → Promise reduction c 0 0 x → (P : Prime c.p) (some : 0 < c.p) → ReducedFacts c P some x
reduced c x promised P some = record {
  t = f.t;
  holding = f.holding;
  weak_popov = facts.weak_popov;
  transformed = facts.transformed;
  in_bounds = in_bounds (zp_field c.p P) c.n c.d f.t facts.u_degrees facts.v_degrees;
  rank_is = subst (IsRank (zp_field c.p P).ring c.n c.m (input_of c some)) (sym f.rank_is) facts.rank_is;
  count_state = facts.count_state;
  count_rank = rw f.rank_is facts.count_rank;
  rows_are = listed.rows_are ∙ ap (λ (t : Carried (Zp c.p)). mask_of c.n (values (zp_field c.p P) c.m (c.d + 1) t.R))
      (runs-unique (zp_field c.p P) c.n c.m (c.d + 1) listed.runs f.runs).1;
  independent = facts.listed;
}
  where
    order : InOrder c.p c.n c.m c.d (lengths c) (reduction_sizes c.n c.m c.d) c.a
    order = in_order refl promised.told

    f : ReducedBy c.p P some c.n c.m (c.d + 1) c.a x.r x.u x.v x.rank x.count
    f = (promised.done refl).0.by P some

    listed : ListedBy c.p P some c.n c.m (c.d + 1) c.a x.rows
    listed = (promised.done refl).1.by P some

    facts : ReductionFacts (zp_field c.p P) c.n c.m (c.d + 1) (input_of c some) x.count f.t
    facts = reduction-facts (zp_field c.p P) c.n c.m (c.d + 1) (input_of c some) (columns c order) (omega arith)
        (input-bounded c order P some) x.count f.t f.runs

formed : (c : WholeCall) (x : PopovOutcome) → Promise popov_form c 0 0 x → (P : Prime c.p) (some : 0 < c.p) → FormedFacts c P some x
formed c x promised P some = record {
  t = f.t;
  holding = f.holding;
  form = facts.form;
  transformed = facts.transformed;
  in_bounds = in_bounds (zp_field c.p P) c.n c.d f.t facts.u_degrees facts.v_degrees;
  rank_is = subst (IsRank (zp_field c.p P).ring c.n c.m (input_of c some)) (sym f.rank_is) facts.rank_is;
  rank_form = facts.rank_form ∙ sym f.rank_is;
  first_rank = rw (f.rank_is, facts.rank_kept) facts.reduction.count_rank;
  second_rank = rw f.rank_is facts.second_bound;
}
  where
    order : InOrder c.p c.n c.m c.d (lengths c) (reduction_sizes c.n c.m c.d) c.a
    order = in_order refl promised.told

    f : PopovBy c.p P some c.n c.m (c.d + 1) c.a x.r x.u x.v x.rank x.first x.second
    f = (promised.done refl).by P some

    facts : PopovFacts (zp_field c.p P) c.n c.m (c.d + 1) (input_of c some) x.first x.second f.run.weak f.t
    facts = popov-facts (zp_field c.p P) c.n c.m (c.d + 1) _ (columns c order) (omega arith) (input-bounded c order P some) f.run

pub demand-2 : Demand2
demand-2 = record { reduced = reduced; formed = formed }

-- ## Demand 3

pub demand-3 : Demand3
demand-3 p n m d a r u v b s y z one other f g P some =
    ((λ e. iff.0 (held_same L p (subst (λ (l : List ℕ). Held L p l x.t.R) e x.holding.R) x'.holding.R)), λ e. back (iff.1 e))
  where
    call : List ℕ → List ℕ → List ℕ → List ℕ → WholeCall
    call a r u v = record { p = p; n = n; m = m; d = d; a = a; r = r; u = u; v = v }

    L : Layout n m (d + 1)
    L = by_rows n m (d + 1)

    x : PopovBy p P some n m (d + 1) a one.r one.u one.v one.rank one.first one.second
    x = (f.done refl).by P some

    x' : PopovBy p P some n m (d + 1) b other.r other.u other.v other.rank other.first other.second
    x' = (g.done refl).by P some

    iff : Same n m x.t.R x'.t.R ↔ LeftEquivalent (zp_field p P).ring n m (matrix_of L p some a) (matrix_of L p some b)
    iff = popov-equivalent (zp_field p P) n m (d + 1) (columns (call a r u v) (in_order refl f.told)) (omega arith)
        (input-bounded (call a r u v) (in_order refl f.told) P some) (input-bounded (call b s y z) (in_order refl g.told) P some) x.run x'.run

    back : Same n m x.t.R x'.t.R → one.r ≡ other.r
    back same = held-unique L p (held-matrix-same L p same x.holding.R) x'.holding.R
