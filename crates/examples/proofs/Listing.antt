-- Numbers and matrices written out as lists.
use mathlib.Core.Path.{◌≡◌, ap, ◌∙◌}
use mathlib.Core.List.{List}
use Prim.Native.Nat.{ℕ, ◌+◌, ◌*◌, ◌/◌, ◌%◌, ◌<◌}
use native.Mathlib.Nat as N
use native.Mathlib.Omega.{arith}
use lib.ListN.{length, get_or, replicate, length-replicate}
use Rattle.theory_algebra.specs.Prime.{Prime}
use Rattle.theory_algebra.specs.Residue.{Zp}
use Rattle.theory_rings.specs.PrimeField.{zp_field}
use Rattle.theory_rings.proofs.PrimeField.{field-zero}
use Rattle.theory_lists.specs.Change.{imap}
use Rattle.theory_lists.proofs.Change.{length-imap, get_or-imap}
use Rattle.theory_lists.proofs.Grid.{within}
use Rattle.theory_lattice.specs.Row.{Row}
use Rattle.theory_lattice.specs.PolynomialMatrix.{AllBounded}
use Rattle.matrix_promises.specs.Held.{Held}
use Rattle.theory_lists.specs.Place.{place_in_row, spot}
use Rattle.matrix_promises.specs.Layout.{by_rows}
use Rattle.theory_lists.proofs.Place.{block-own, spot-inside}

-- f 0, f 1 and so on, `count` numbers
unfoldable pub listing : ℕ → (ℕ → ℕ) → List ℕ
listing count f = imap (λ i _. f i) (replicate count 0)

length-listing : (count : ℕ) (f : ℕ → ℕ) → length (listing count f) ≡ count
unfolding listing
length-listing count f = length-imap _ (replicate count 0) ∙ length-replicate {A = ℕ} count 0

get_or-listing : (count : ℕ) (f : ℕ → ℕ) (i : ℕ) → i < count → get_or (listing count f) i 0 ≡ f i
unfolding listing
get_or-listing count f i l = get_or-imap _ (replicate count 0) i (omega (arith, length-replicate {A = ℕ} count 0))

-- a place tells its block and its place in the block
block : (s i r : ℕ) → r < s → ((i * s + r) / s ≡ i) × ((i * s + r) % s ≡ r)
block s i r l = block-own s _ _ i r (N.mod-lt (i * s + r) (omega arith)) l (N.div-add-mod' (i * s + r) s)

module _ {p : ℕ} (P : Prime p) where
  number-zero : {c : Zp p} → c ≡ (zp_field p P).ring.𝟘 → c.val ≡ 0
  number-zero e = ap (λ (c : Zp p). c.val) e ∙ field-zero p P

  -- a matrix: "Cells stand row after row, in each row column after column."
  module _ (n m w : ℕ) (M : ℕ → Row (Zp p)) where
    unfoldable pub written : List ℕ
    written = listing (n * (m * w)) (λ x. (M (x / (m * w)) (x % (m * w) / w) (x % (m * w) % w)).val)

    pub held-written : AllBounded (zp_field p P).ring n m w M → Held (by_rows n m w) p written M
    unfolding written
    held-written bounded = record {
      size = length-listing (n * (m * w)) _;
      at = λ i j t li lj lt.
          let (row, in_row) = block (m * w) i (place_in_row w j t) (within j t m w lj lt) in
          let (col, deg) = block w j t lt in
          get_or-listing (n * (m * w)) _ (spot m w i j t) (spot-inside n m w i j t li lj lt)
          ∙ (λ s. (M (row s) (in_row s / w) (in_row s % w)).val) ∙ (λ s. (M i (col s) (deg s)).val);
      beyond = λ i j t li lj past. number-zero (bounded i li j lj t past);
    }
