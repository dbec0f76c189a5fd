-- Rows that ascend, by their values.
use mathlib.Core.Path.{◌≡◌, refl, sym, ◌∙◌, ap}
use Prim.Native.Nat.{ℕ, ◌<◌}
use native.Mathlib.Omega.{arith}
use Rattle.theory_lists.proofs.Total.{total-same, total-more, total-ones}
use Rattle.theory_reduction.specs.Rank.{sign, chosen}
use Rattle.theory_popov.specs.Tidy.{Ascending}
use Rattle.theory_reduction.proofs.Sign.{sign-most, sign-lt}

-- r rows are not zero
pub ascending-rank : (n m r : ℕ) (v : ℕ → ℕ) → Ascending n m r v → chosen n v ≡ r
ascending-rank n m r v a =
    total-more r n (λ i. sign (v i)) a.rank_fits (λ i l li. ap sign (a.none i l li))
    ∙ total-same r (λ i. sign (v i)) (λ _. 1) (λ i l. omega (arith, sign-most (v i), sign-lt 0 (v i) refl (a.some i l)))
    ∙ total-ones r

-- only the values of the n rows count
pub ascending-same : (n m r : ℕ) (v w : ℕ → ℕ) → ((i : ℕ) → i < n → w i ≡ v i) → Ascending n m r v → Ascending n m r w
ascending-same n m r v w same a =
    let fits = a.rank_fits in
    record {
      rank_fits = fits;
      some = λ i l. omega (arith, same i (omega arith), a.some i l);
      none = λ i l li. same i li ∙ a.none i l li;
      ascending = λ i j l lj. omega (arith, same i (omega arith), same j (omega arith), a.ascending i j l lj);
      apart = λ i j l lj c. a.apart i j l lj (rw (sym (same i (omega arith)), sym (same j lj)) c);
    }
