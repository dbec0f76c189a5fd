-- The answers to a call that is not refused, and the other values of its matrix, worked out by the definitions.
use mathlib.Core.Path.{◌≡◌, refl, ap, subst}
use mathlib.Core.Logic.{inr}
use mathlib.Core.List.{List, [], ◌∷◌}
use Prim.Native.Nat.{ℕ, suc, ◌+◌, ◌-◌, ◌*◌, ◌≤◌, ◌<◌}
use native.Mathlib.Bridge.{le_prop}
use native.Mathlib.Nat as N
use native.Mathlib.Omega.{arith}
use lib.ListN.{length}
use Rattle.theory_algebra.specs.Field.{Field}
use Rattle.theory_algebra.specs.Prime.{Prime}
use Rattle.theory_algebra.specs.Residue.{Zp}
use Rattle.theory_algebra.specs.Polynomial.{Below}
use Rattle.theory_algebra.proofs.Primality.{prime-prop}
use Rattle.theory_rings.specs.PrimeField.{zp_field}
use Rattle.theory_rings.specs.Series.{series}
use Rattle.theory_lattice.specs.Row.{Row}
use Rattle.theory_lattice.specs.PolynomialMatrix.{AllBounded}
use Rattle.theory_lattice.proofs.Coefficients.{below_more}
use Rattle.theory_reduction.specs.Pivot.{values}
use Rattle.theory_reduction.specs.Rank as Rank
use Rattle.theory_reduction.specs.Step.{Carried, begin}
use Rattle.theory_reduction.proofs.Ending.{reach}
use Rattle.theory_reduction.proofs.Facts.{reduction-facts}
use Rattle.theory_popov.proofs.Facts.{popov-facts, popov-exists}
use Rattle.theory_determinant.specs.Determinant.{det}
use Rattle.theory_determinant.proofs.Degree.{det-below}
use Rattle.theory_lists.specs.Coefficients.{Coefficients}
use Rattle.matrix_promises.specs.Answering.{Told}
use Rattle.matrix_promises.specs.Refused.{Numbers, reduction_sizes, length_rule, coefficient_rule, matrix_table}
use Rattle.matrix_refusals.proofs.Answering.{answer-done}
use Rattle.matrix_promises.proofs.Tables.{past-numbers}
use Rattle.matrix_promises.specs.Held.{matrix_of}
use Rattle.matrix_promises.proofs.Held.{held-matrix_of, held-bounded}
use Rattle.matrix_promises.specs.Layout.{by_rows}
use Rattle.matrix_promises.specs.Holding.{Holding}
use Rattle.matrix_promises.specs.RowList.{mask_of, ListedBy}
use Rattle.matrix_promises.specs.Reduced.{ReducedBy}
use Rattle.matrix_promises.specs.Popov.{PopovBy}
use Rattle.matrix_promises.specs.Determinant.{IsDeterminant}
use Rattle.examples.specs.Answers.{Answers}
use Rattle.examples.proofs.Listing.{written, held-written}

-- what holds by one proof of primality holds by every one
pub by-any : {p : ℕ} (X : Prime p → 0 < p → Type 0) {P : Prime p} {some : 0 < p} → X P some → (P' : Prime p) (some' : 0 < p) → X P' some'
by-any X {P} {some} x P' some' = subst (X P') (le_prop some some') (subst (λ Q. X Q some) (prime-prop P P') x)

-- the sharp bound of U is within its places
u_room : (n w : ℕ) → 0 < n → 0 < w → suc ((n - 1) * (w - 1)) ≤ n * w
u_room n w rows places =
    let less : w - 1 ≤ w = omega arith in
    let one : n ≡ suc (n - 1) = omega arith in
    omega (arith, ap (λ k. k * w) one, N.suc-mul (n - 1) w, N.mul-le-mul_left (n - 1) less)

-- a matrix that is not refused
pub record Taken (p n m d : ℕ) (a : List ℕ) : Type 0 where
  pub numbers : Numbers p n m d
  pub residues : Coefficients p a
  pub size : length a ≡ n * (m * (d + 1))

module _ {p n m d : ℕ} {a : List ℕ} (taken : Taken p n m d a) where
  pub prime : Prime p
  prime = taken.numbers.modulus.prime

  pub positive : 0 < p
  positive = omega (arith, prime.two)

  abbrev w : ℕ
  w = d + 1

  abbrev K : Field (Zp p)
  K = zp_field p prime

  abbrev A : ℕ → Row (Zp p)
  A = matrix_of (by_rows n m w) p positive a

  pub bounded : AllBounded K.ring n m w A
  bounded = held-bounded (by_rows n m w) p prime (held-matrix_of (by_rows n m w) p positive a taken.size taken.residues)

  rows : 0 < n
  rows = omega (arith, taken.numbers.shape.rows)

  pub columns : 0 < m
  columns = omega (arith, taken.numbers.shape.columns)

  pub places : 0 < w
  places = omega arith

  pub told-to : {given : List ℕ} → given ≡ reduction_sizes n m d → Told (matrix_table p n m d given (reduction_sizes n m d) a) 0 0
  told-to {given} right = past-numbers (length_rule given (reduction_sizes n m d) ∷ coefficient_rule p a ∷ []) taken.numbers
      (inr (right, inr (taken.residues, (refl, refl))))

  pub holding : (t : Carried (Zp p)) → AllBounded K.ring n m w t.R
      → ((i j : ℕ) → i < n → j < n → Below K.ring (t.U i j) (suc ((n - 1) * (w - 1))))
      → ((i j : ℕ) → i < n → j < n → Below K.ring (t.V' i j) w)
      → Holding p n m w (written prime n m w t.R) (written prime n n (n * w) t.U) (written prime n n w t.V') t
  holding t r u v = record {
    R = held-written prime n m w t.R r;
    U = held-written prime n n (n * w) t.U (λ i li j lj. below_more K.ring _ _ _ (u_room n w rows places) (u i j li lj));
    V' = held-written prime n n w t.V' (λ i li j lj. v i j li lj);
  }

  unfoldable pub computed : Answers p n m d a
  computed =
      let (count, t, run) = reach K n m w (begin K.ring A) bounded in
      let (first, second, s, run') = popov-exists K n m w A columns places bounded in
      record {
        weak = record {
          rank = Rank.rank K n m w t.R;
          count = count;
          rows = mask_of n (values K m w t.R);
          r = written prime n m w t.R;
          u = written prime n n (n * w) t.U;
          v = written prime n n w t.V';
        };
        reduced = λ r u v right. answer-done (told-to right) (
          record {
            by = by-any (λ P some. ReducedBy p P some n m w a _ _ _ _ _) {P = prime} {some = positive} (
                let facts = reduction-facts K n m w A columns places bounded count t run in
                record { t = t; runs = run; holding = holding t facts.bounded facts.u_degrees facts.v_degrees; rank_is = refl });
          },
          record {
            by = by-any (λ P some. ListedBy p P some n m w a _) {P = prime} {some = positive}
                (record { count = count; t = t; runs = run; rows_are = refl });
          },
        );
        popov = record {
          rank = Rank.rank K n m w s.R;
          first = first;
          second = second;
          r = written prime n m w s.R;
          u = written prime n n (n * w) s.U;
          v = written prime n n w s.V';
        };
        formed = λ r u v right. answer-done (told-to right) (record {
          by = by-any (λ P some. PopovBy p P some n m w a _ _ _ _ _ _) {P = prime} {some = positive} (
              let facts = popov-facts K n m w A columns places bounded run' in
              record { t = s; run = run'; holding = holding s facts.bounded facts.u_degrees facts.v_degrees; rank_is = refl });
        });
      }

-- the determinant of a square matrix
module _ {p n d : ℕ} {a : List ℕ} (taken : Taken p n n d a) where
  abbrev expansion : ℕ → Zp p
  expansion = det (series (K taken).ring) n (A taken)

  abbrev pub expanded : List ℕ
  expanded = written (prime taken) 1 1 (n * d + 1) (λ _ _. expansion)

  pub is-determinant : IsDeterminant p n d a expanded
  is-determinant = record {
    by = by-any (λ P some. _) {P = prime taken} {some = positive taken} (held-written (prime taken) 1 1 (n * d + 1) (λ _ _. expansion)
        (λ _ _ _ _ k past. det-below (K taken).ring n d (A taken) (λ i li j lj t l. bounded taken i li j lj t (omega arith)) k (omega arith)));
  }
