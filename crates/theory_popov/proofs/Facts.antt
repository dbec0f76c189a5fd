-- The facts of the Popov form, for every matrix.
use mathlib.Core.Path.{◌≡◌, refl, sym, ◌∙◌, ap, subst}
use Prim.Native.Nat.{ℕ, ◌-◌, ◌*◌, ◌≤◌, ◌<◌}
use Rattle.theory_algebra.specs.Field.{Field}
use Rattle.theory_lattice.specs.Row.{Row}
use Rattle.theory_lattice.specs.PolynomialMatrix.{AllBounded}
use Rattle.theory_reduction.specs.Rank.{IsRank, rank}
use Rattle.theory_reduction.specs.Step.{Carried, begin}
use Rattle.theory_reduction.specs.Run.{Runs}
use Rattle.theory_reduction.proofs.Process.{iterates-halt}
use Rattle.theory_reduction.proofs.Ending.{reach, runs-unique}
use Rattle.theory_reduction.proofs.Transforms.{Ended, runs-ended}
use Rattle.theory_reduction.proofs.Degrees.{runs-narrow, u_degrees, v_degrees}
use Rattle.theory_reduction.proofs.Facts.{reduction-facts}
use Rattle.theory_popov.specs.Order.{ordered}
use Rattle.theory_popov.specs.SecondRun.{second_kind, SecondRuns}
use Rattle.theory_popov.specs.Scaled.{scaled}
use Rattle.theory_popov.specs.PopovRun.{PopovRun}
use Rattle.theory_popov.specs.PopovFacts.{PopovFacts}
use Rattle.theory_popov.proofs.Ascending.{ascending-rank}
use Rattle.theory_popov.specs.Tidy.{Tidy}
use Rattle.theory_popov.proofs.Ordering.{ordered-tidy}
use Rattle.theory_popov.proofs.SecondEnding.{second-unique, second-keep, second-reach, second-count}
use Rattle.theory_popov.proofs.Carrying.{ordered-carries, scaled-carries, removed-carries}
use Rattle.theory_popov.specs.Carries.{Carries}
use Rattle.theory_popov.proofs.PopovForm.{scaled-tidy, popov-form}

module _ {F : Type 0} (K : Field F) (n m size : ℕ) (A : ℕ → Row F) where
  -- the counts and the result are determined
  pub popov-unique : {c d c' d' : ℕ} {t t' : Carried F} → PopovRun K n m size A c d t → PopovRun K n m size A c' d' t'
      → (c ≡ c') × (d ≡ d') × (t ≡ t')
  popov-unique p q =
      let (first, weak) = runs-unique K n m size p.first_kind q.first_kind in
      let (second, reduced) = second-unique K n m size
      (subst (λ w. SecondRuns K n m size _ (ordered K n m size w) p.reduced) weak p.second_kind) q.second_kind in
      (first, second, sym p.last ∙ ap (scaled K m size) reduced ∙ q.last)

  module _ (columns : 0 < m) (places : 0 < size) (b : AllBounded K.ring n m size A) where
    -- the run before the division
    module _ {first second : ℕ} {weak u : Carried F} (run : Runs K n m size first (begin K.ring A) weak)
        (removals : SecondRuns K n m size second (ordered K n m size weak) u) where
      abbrev r : ℕ
      r = rank K n m size weak.R

      ended : Ended K n m size A weak
      ended = runs-ended K n m size A run b

      start : Tidy K n m size r (ordered K n m size weak).R
      start = ordered-tidy K n m size weak.R ended.bounded ended.done

      carried : Tidy K n m size r u.R × Carries K n m size A u
      carried =
          let before : Carries K n m size A weak = record { transformed = ended.transformed; narrow = runs-narrow K n m size A run b } in
          second-keep K n m size r columns (Carries K n m size A) (removed-carries K n m size A r columns) removals
          start (ordered-carries K n m size A weak ended.bounded before ended.done)

      scaled-facts : PopovFacts K n m size A first second weak (scaled K m size u)
      scaled-facts =
          let t = scaled K m size u in
          let (tidy, carries) = carried in
          let reduction = reduction-facts K n m size A columns places b first weak run in
          let result = scaled-carries K n m size A u tidy.bounded carries in
          let form = popov-form K n m size r u tidy columns (iterates-halt (second_kind K n m size) removals) in
          let tidy-result = scaled-tidy K n m size r u tidy in
          let same : rank K n m size t.R ≡ r = ascending-rank n m r _ tidy-result.ascends in
          record {
            reduction = reduction;
            form = form.0;
            bounded = tidy-result.bounded;
            transformed = result.transformed;
            u_degrees = u_degrees K n m size A t b result.narrow;
            v_degrees = v_degrees K n m size A t b result.narrow places;
            rank_form = form.1 ∙ sym same;
            rank_kept = same;
            rank_is = subst (IsRank K.ring n m A) (sym same) reduction.rank_is;
            second_bound = subst (λ r. second ≤ r * ((r - 1) * size)) (sym same) (second-count K n m size r columns removals start);
          }

    -- of every run that starts at A
    pub popov-facts : {first second : ℕ} {t : Carried F} (p : PopovRun K n m size A first second t) → PopovFacts K n m size A first second p.weak t
    popov-facts p = subst (PopovFacts K n m size A _ _ p.weak) p.last (scaled-facts p.first_kind p.second_kind)

    -- there is such a run
    unfoldable pub popov-exists : (first second : ℕ) × (t : Carried F) × PopovRun K n m size A first second t
    popov-exists =
        let (first, weak, run) = reach K n m size (begin K.ring A) b in
        let ended = runs-ended K n m size A run b in
        let start = ordered-tidy K n m size weak.R ended.bounded ended.done in
        let (second, u, removals) = second-reach K n m size _ columns (ordered K n m size weak) start in
        (first, second, scaled K m size u, record { weak = weak; first_kind = run; reduced = u; second_kind = removals; last = refl })
