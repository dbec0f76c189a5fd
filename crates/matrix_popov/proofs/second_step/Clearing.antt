-- How the rows are cleared, one after the other.
use mathlib.Core.Path.{◌≡◌, sym, ◌∙◌}
use mathlib.Core.List.{List}
use Prim.Native.Nat.{ℕ, suc, ◌+◌, ◌-◌, ◌≤◌, ◌<◌}
use native.Mathlib.Nat as N
use native.Mathlib.Omega.{arith}
use borrow.Author.Count.{below_more}
use lib.ListN.{length, get_or}
use Rattle.std.proofs.Common.{None}
use Rattle.theory_algebra.specs.Prime.{Prime}
use Rattle.theory_algebra.specs.Residue.{Zp}
use Rattle.theory_algebra.proofs.Cases.{case-le}
use Rattle.theory_rings.specs.PrimeField.{zp_field}
use Rattle.theory_lattice.specs.Row.{Row}
use Rattle.theory_reduction.specs.Process.{halt}
use Rattle.theory_reduction.specs.Step.{Carried}
use Rattle.theory_reduction.proofs.Process.{iterates-halt}
use Rattle.theory_popov.specs.SecondKind.{NoRemoval, excesses, remove}
use Rattle.theory_popov.specs.SecondRun.{second_kind, SecondRuns}
use Rattle.theory_popov.proofs.SecondEnding.{second-reach, second-count}
use Rattle.matrix_pivots.specs.Pivot.{values_of, zero_row, index_at, Pivots}
use Rattle.matrix_pivots.specs.declared.pivot.Pivot.{Pivot}
use Rattle.matrix_steps.proofs.RowsOf.{row_fits, leading-asked}
use Rattle.matrix_popov.specs.second_step.Excess.{excess_at, HighestAsked, Greatest, IsHighest}
use Rattle.matrix_popov.specs.second_step.Removing.{RemoveAsked, SecondMove, Standing, RemovingAsked, ClearedTo, ClearAsked, Cleared}
use Rattle.matrix_popov.proofs.second_step.Excesses.{left_of, excess-held}
use Rattle.matrix_popov.proofs.second_step.Step.{other_row, indexed-first, first_some, rest-none, Turn, removal, removal-on, remove-asked}
use Rattle.matrix_popov.proofs.second_step.Step.{standing_on, pivots-on, before_on, falls}
use Rattle.matrix_popov.proofs.second_step.Runs.{runs_then}

module _ {p n m w : ℕ} {r u v : List ℕ} {pivots : List Pivot} (asked : RemovingAsked p n m w r u v pivots) where
  open asked use {prime, bounds, rank, A}

  -- a state that the buffers hold later
  module _ {r' u' v' : List ℕ} {t' : Carried (Zp p)} (standing : Standing p prime n m w rank A r' u' v' t') where
    removing-on : Pivots n m (values_of m w r') pivots → RemovingAsked p n m w r' u' v' pivots
    removing-on pivots_are = record {
      prime = prime;
      bounds = bounds;
      pivots_are = pivots_are;
      rank = rank;
      A = A;
      t = t';
      standing = standing;
    }

    -- the counter of the steps that led to it fits
    count_most : {count : ℕ}
        → ((c : ℕ) (s : Carried (Zp p)) → SecondRuns (zp_field p prime) n m w c t' s → SecondRuns (zp_field p prime) n m w (count + c) asked.t s)
        → count ≤ length v
    count_most onward =
        let K = zp_field p prime in
        let fits = asked.standing.tidy.ascends.rank_fits in
        let less : rank - 1 ≤ n = omega arith in
        let (c, e, q) = second-reach K n m w rank bounds.columns t' standing.tidy in
        omega (
          arith,
          second-count K n m w rank bounds.columns (onward c e q) asked.standing.tidy,
          N.mul-le-mul fits (N.mul-le-mul_right w less),
          asked.standing.holding.V'.size,
        )

  -- the first row has no earlier one
  pub cleared-start : Cleared p n m w 1 0 pivots r u v r u v
  cleared-start = record {
    pivots_are = asked.pivots_are;
    by = λ P rank A t s. record { t' = t; runs = halt (λ a j l la. absurd (omega arith)); standing = s };
  }

  -- the first k rows are cleared
  module _ {k count : ℕ} {r' u' v' : List ℕ} (x : Cleared p n m w k count pivots r u v r' u' v') where
    abbrev here : Standing p prime n m w rank A r' u' v' (x.by prime rank A asked.t asked.standing).t'
    here = (x.by prime rank A asked.t asked.standing).standing

    pub cleared-count : k ≤ n → count ≤ length v
    cleared-count lk = count_most here (λ c e q. runs_then (zp_field p prime) m w lk (x.by prime rank A asked.t asked.standing).runs q)

    -- more rows are cleared
    pub cleared-then : {k' count' : ℕ} {r₂ u₂ v₂ : List ℕ} → k ≤ k' → Cleared p n m w k' count' pivots r' u' v' r₂ u₂ v₂
        → Cleared p n m w k' (count + count') pivots r u v r₂ u₂ v₂
    cleared-then lk y = record {
      pivots_are = y.pivots_are;
      by = λ P rank A t s.
          let one = x.by P rank A t s in
          let two = y.by P rank A one.t' one.standing in
          record { t' = two.t'; runs = runs_then (zp_field p P) m w lk one.runs two.runs; standing = two.standing };
    }

    -- the next row, which is not zero, can be
    pub clear-asked : k < n → 0 < index_at pivots k → ClearAsked p n m w k r' u' v' pivots
    clear-asked lk some = record {
      removing = removing-on here x.pivots_are;
      before = record {
        none = λ a j l la.
            excess-held p prime n m w bounds.columns here.holding.R x.pivots_are a j (omega arith) (omega arith)
            ∙ iterates-halt (second_kind (zp_field p prime) k m w) (x.by prime rank A asked.t asked.standing).runs a j l la;
      };
      k_fits = lk;
      k_some = some;
    }

    -- from a zero row on there is nothing to remove
    pub cleared-rest : k < n → index_at pivots k ≡ 0 → Cleared p n m w n count pivots r u v r' u' v'
    cleared-rest lk none = record {
      pivots_are = x.pivots_are;
      by = λ P rank A t s.
          let y = x.by P rank A t s in
          let K = zp_field p P in
          let left : NoRemoval n (excesses K m w y.t'.R) = λ a j l la. case-le k a
          (λ from. sym (excess-held p P n m w bounds.columns y.standing.holding.R x.pivots_are a j la (omega arith))
          ∙ rest-none bounds.columns x.pivots_are y.standing k lk none a j l la from)
          (iterates-halt (second_kind K k m w) y.runs a j l) in
          record { t' = y.t'; runs = rw N.add-zero at (runs_then K m w (omega arith) y.runs (halt left)); standing = y.standing };
    }

-- `count` steps on row k lead from t to a state t' that the buffers hold: those that lead on from t' lead on from t, `count` more of them
pub record Reached (p : ℕ) (P : Prime p) (n m w rank : ℕ) (A : ℕ → Row (Zp p)) (k count : ℕ) (t : Carried (Zp p)) (r u v : List ℕ) : Type 0 where
  pub t' : Carried (Zp p)
  pub standing : Standing p P n m w rank A r u v t'
  pub onward : (k' c : ℕ) (s : Carried (Zp p)) → k < k' → SecondRuns (zp_field p P) k' m w c t' s → SecondRuns (zp_field p P) k' m w (count + c) t s

-- the rows before k are cleared, and `count` steps on row k are made; the pivots are as they were
pub record Clearing (p n m w k count : ℕ) (pivots : List Pivot) (r u v r' u' v' : List ℕ) : Type 0 where
  pub pivots_are : Pivots n m (values_of m w r') pivots
  pub before : ClearedTo m w k r' pivots
  pub reached : (P : Prime p) (rank : ℕ) (A : ℕ → Row (Zp p)) (t : Carried (Zp p)) → Standing p P n m w rank A r u v t
      → Reached p P n m w rank A k count t r' u' v'

-- row k is the next
module _ {p n m w k : ℕ} {r u v : List ℕ} {pivots : List Pivot} (asked : ClearAsked p n m w k r u v pivots) where
  open asked use {removing, k_fits, k_some}
  open removing use {prime, bounds, rank, A}

  pub clearing-start : Clearing p n m w k 0 pivots r u v r u v
  clearing-start = record {
    pivots_are = removing.pivots_are;
    before = asked.before;
    reached = λ P rank A t s. record { t' = t; standing = s; onward = λ k' c e l q. rw N.zero-add q };
  }

  module _ {count : ℕ} {r' u' v' : List ℕ} (x : Clearing p n m w k count pivots r u v r' u' v') where
    now : Reached p prime n m w rank A k count removing.t r' u' v'
    now = x.reached prime rank A removing.t removing.standing

    pub clearing-count : count ≤ length v
    clearing-count = count_most removing now.standing (λ c e q. now.onward n c e k_fits q)

    pub highest-asked : length pivots ≡ n → HighestAsked m w k r' pivots
    highest-asked pivots_size =
        let size = now.standing.holding.R.size in
        let first : k < rank = indexed-first bounds.columns x.pivots_are now.standing k k_fits k_some in
        record {
          before = omega (arith, k_fits, pivots_size);
          rows = λ i l.
              let pivot = leading-asked n m w bounds.columns r' size x.pivots_are i (omega (arith, k_fits))
              (first_some bounds.columns x.pivots_are now.standing i (omega arith)) in
              other_row pivot (row_fits n m w bounds.columns r' size k k_fits) pivot.height pivot.height_most;
        }

    -- it has no excess
    pub clearing-end : IsHighest k (excess_at m w r' pivots k) None → Cleared p n m w (k + 1) count pivots r u v r' u' v'
    clearing-end found = record {
      pivots_are = x.pivots_are;
      by = λ P rank A t s.
          let y = x.reached P rank A t s in
          let none : (a : ℕ) → a < k + 1 → (j : ℕ) → j < a → excess_at m w r' pivots a j ≡ 0 =
          below_more (λ a. (j : ℕ) → j < a → excess_at m w r' pivots a j ≡ 0) k
          (λ a la j l. x.before.none a j l la) found in
          let left : NoRemoval (k + 1) (excesses (zp_field p P) m w y.t'.R) = λ a j l la.
          sym (excess-held p P n m w bounds.columns y.standing.holding.R x.pivots_are a j (omega (arith, k_fits)) (omega (arith, k_fits)))
          ∙ none a la j l in
          record { t' = y.t'; runs = rw N.add-zero at (y.onward (k + 1) 0 y.t' (omega arith) (halt left)); standing = y.standing };
    }

    -- or it has one
    module _ {i e : ℕ} (found : Greatest k (excess_at m w r' pivots k) i e) where
      turn : Turn n m w k i e r' pivots
      turn = record { bounds = bounds; k_fits = k_fits; before = x.before; found = found }

      pub step-asked : RemoveAsked p n m w k i (get_or pivots k zero_row) (get_or pivots i zero_row) e r' u' v'
      step-asked = remove-asked bounds.columns x.pivots_are now.standing turn

      module _ {r₂ u₂ v₂ : List ℕ} (d : SecondMove p n m w k i (get_or pivots i zero_row) e r' u' v' r₂ u₂ v₂) where
        -- one step more
        pub clearing-more : Clearing p n m w k (count + 1) pivots r u v r₂ u₂ v₂
        clearing-more = record {
          pivots_are = pivots-on bounds.columns x.pivots_are now.standing turn d;
          before = before_on bounds.columns x.pivots_are now.standing turn d;
          reached = λ P rank A t s.
              let y = x.reached P rank A t s in
              let next = removal bounds.columns x.pivots_are y.standing turn in
              record {
                t' = remove (zp_field p P) m w y.t' next;
                standing = standing_on bounds.columns x.pivots_are y.standing turn d;
                onward = λ k' c e l q.
                    let sum : count + 1 + c ≡ count + suc c = omega arith in
                    rw sum (y.onward k' (suc c) e l (removal-on bounds.columns x.pivots_are y.standing turn l q));
              };
        }

        pub clearing-falls : left_of n m w r₂ pivots < left_of n m w r' pivots
        clearing-falls = falls bounds.columns x.pivots_are now.standing turn d
