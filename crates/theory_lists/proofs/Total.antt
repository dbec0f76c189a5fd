-- The laws of finite sums of natural numbers.
use mathlib.Core.Path.{◌≡◌, refl, sym, ◌∙◌, ap, ap₂}
use mathlib.Core.Logic.{◌≢◌}
use Prim.Native.Nat.{ℕ, zero, suc, ◌+◌, ◌-◌, ◌*◌, ◌≤◌, ◌<◌}
use native.Mathlib.Omega.{arith}
use native.Mathlib.Nat as N
use Rattle.theory_algebra.specs.Cases.{if_equal}
use Rattle.theory_algebra.proofs.Cases.{case-le, if-equal-same, if-equal-other}
use Rattle.theory_lists.specs.Total.{total}

pub total-suc : (n : ℕ) (f : ℕ → ℕ) → total (suc n) f ≡ total n f + f n
unfolding total
total-suc n f = refl

-- terms from n on that are all zero add nothing
pub total-more : (n k : ℕ) (f : ℕ → ℕ) → n ≤ k → ((i : ℕ) → n ≤ i → i < k → f i ≡ 0) → total k f ≡ total n f
unfolding total
total-more zero zero f h z = refl
total-more (suc n) zero f h z = absurd (omega arith)
total-more n (suc k) f h z = case-le (suc k) n
    (λ l. let e : suc k ≡ n = omega arith in ap (λ (m : ℕ). total m f) e)
    (λ l. omega (arith, total-more n k f (omega arith) (λ i a b. z i a (omega arith)), z k (omega arith) (omega arith)))

pub total-same : (n : ℕ) (f g : ℕ → ℕ) → ((i : ℕ) → i < n → f i ≡ g i) → total n f ≡ total n g
unfolding total
total-same zero f g h = refl
total-same (suc n) f g h = ap₂ ◌+◌ (total-same n f g (λ i l. h i (omega arith))) (h n (omega arith))

pub total-le : (n : ℕ) (f g : ℕ → ℕ) → ((i : ℕ) → i < n → f i ≤ g i) → total n f ≤ total n g
unfolding total
total-le zero f g h = omega arith
total-le (suc n) f g h = omega (arith, total-le n f g (λ i l. h i (omega arith)), h n (omega arith))

pub total-lt : (n l : ℕ) (f g : ℕ → ℕ) → l < n → f l < g l → ((i : ℕ) → i < n → f i ≤ g i) → total n f < total n g
unfolding total
total-lt zero l f g p q h = absurd (omega arith)
total-lt (suc n) l f g p q h = case-le (suc l) n
    (λ s. omega (arith, total-lt n l f g s q (λ i r. h i (omega arith)), h n (omega arith)))
    (λ s. let e : l ≡ n = omega arith in let q' : f n < g n = rw (← e) q in omega (arith, total-le n f g (λ i r. h i (omega arith))))

pub total-bound : (n b : ℕ) (f : ℕ → ℕ) → ((i : ℕ) → i < n → f i ≤ b) → total n f ≤ n * b
unfolding total
total-bound zero b f h = omega arith
total-bound (suc n) b f h = omega (arith, total-bound n b f (λ i l. h i (omega arith)), h n (omega arith), N.suc-mul n b)

-- the same where one term stands apart
pub total-others : (n j b : ℕ) (f : ℕ → ℕ) → j < n → ((i : ℕ) → i < n → f i ≤ b) → total n f ≤ f j + (n - 1) * b
unfolding total
total-others zero j b f l h = absurd (omega arith)
total-others (suc n) j b f l h = let e : suc n - 1 ≡ n = omega arith in rw e (case-le (suc j) n
    (λ s. omega (arith, total-others n j b f s (λ i r. h i (omega arith)), h n (omega arith), less n s))
    (λ s. let last : f j ≡ f n = ap f (omega arith) in omega (arith, total-bound n b f (λ i r. h i (omega arith)))))
  where
    less : (n : ℕ) → j < n → (n - 1) * b + b ≡ n * b
    less zero s = absurd (omega arith)
    less (suc n) s = let e : suc n - 1 ≡ n = omega arith in rw e (sym (N.suc-mul n b))

pub total-ones : (n : ℕ) → total n (λ _. 1) ≡ n
unfolding total
total-ones zero = refl
total-ones (suc n) = omega (arith, total-ones n)

pub total-scale : (n b : ℕ) (f : ℕ → ℕ) → total n (λ i. f i * b) ≡ total n f * b
unfolding total
total-scale zero b f = sym (N.zero-mul b)
total-scale (suc n) b f = ap (λ x. x + f n * b) (total-scale n b f) ∙ sym (N.add-mul (total n f) (f n) b)

pub total-one : (n i : ℕ) (f : ℕ → ℕ) → i < n → f i ≤ total n f
unfolding total
total-one zero i f l = absurd (omega arith)
total-one (suc n) i f l = case-le (suc i) n (λ s. omega (arith, total-one n i f s)) (λ s. let e : i ≡ n = omega arith in rw e (omega arith))

-- a change at one place
pub total-change : (n l : ℕ) (f g : ℕ → ℕ) → l < n → ((i : ℕ) → i < n → i ≢ l → f i ≡ g i) → total n f + g l ≡ total n g + f l
unfolding total
total-change zero l f g p h = absurd (omega arith)
total-change (suc n) l f g p h = case-le (suc l) n
    (λ s. omega (arith, total-change n l f g s (λ i r ne. h i (omega arith) ne), h n (omega arith) (omega arith)))
    (λ s. let e : l ≡ n = omega arith in rw e (omega (arith, total-same n f g (λ i r. h i (omega arith) (omega arith)))))

-- where every i < n with f i not 0 goes to a number below r of its own, at which g is not less than f is at i
pub total-injection : (n r : ℕ) (f g : ℕ → ℕ) (σ : (i : ℕ) → i < n → 0 < f i → ℕ) → ((i : ℕ) (l : i < n) (p : 0 < f i) → σ i l p < r)
    → ((i j : ℕ) (li : i < n) (lj : j < n) (pi : 0 < f i) (pj : 0 < f j) → i < j → σ i li pi ≢ σ j lj pj)
    → ((i : ℕ) (l : i < n) (p : 0 < f i) → f i ≤ g (σ i l p)) → total n f ≤ total r g
unfolding total
total-injection zero r f g σ fits apart le = omega arith
total-injection (suc n) r f g σ fits apart le = case-le 1 (f n)
    (λ p. let x : ℕ = σ n (omega arith) p in
    let rest : ℕ → ℕ = λ j. if_equal j x 0 (g j) in
    let other : (j : ℕ) → j ≢ x → rest j ≡ g j = λ j ne. if-equal-other j x 0 (g j) ne in
    omega (
      arith,
      le n (omega arith) p,
      total-change r x rest g (fits n (omega arith) p) (λ j _ ne. other j ne),
      if-equal-same x 0 (g x),
      total-injection n r f rest (λ i l q. σ i (omega arith) q) (λ i l q. fits i _ q) (λ i j li lj pi pj. apart i j _ _ pi pj)
          (λ i l q. omega (arith, le i (omega arith) q, other (σ i (omega arith) q) (apart i n _ _ q p l))),
    ))
    (λ p. omega (
      arith,
      total-injection n r f g (λ i l q. σ i (omega arith) q) (λ i l q. fits i _ q) (λ i j li lj pi pj. apart i j _ _ pi pj) (λ i l q. le i _ q),
    ))
