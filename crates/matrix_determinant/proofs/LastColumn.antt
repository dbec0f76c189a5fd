-- Cells that are filled one after the other, and what the buffers hold when a row is taken out and a column is parted.
use mathlib.Core.Path.{◌≡◌, refl, sym, ap, ◌∙◌}
use mathlib.Core.List.{List, ◌++◌}
use Prim.Native.Nat.{ℕ, suc, ◌+◌, ◌*◌, ◌≤◌, ◌<◌}
use native.Mathlib.Omega.{arith}
use lib.ListN.{length, get_or, take, drop}
use Rattle.theory_algebra.specs.Residue.{Zp}
use Rattle.theory_algebra.proofs.Cases.{case-le}
use Rattle.theory_lattice.specs.Row.{Row}
use Rattle.theory_lists.specs.Part.{part}
use Rattle.theory_lists.specs.Skip.{skip}
use Rattle.theory_lists.proofs.Change.{get_or-past}
use Rattle.theory_lists.proofs.Grid.{line-end, within}
use Rattle.theory_lists.proofs.Part.{length_part, get_or-part}
use Rattle.poly.specs.Holds.{Holds}
use Rattle.matrix_promises.specs.Held.{Held}
use Rattle.matrix_buffers.specs.Written.{CellsWritten}
use Rattle.matrix_promises.specs.Layout.{by_rows}
use Rattle.theory_lists.proofs.Place.{block-own}
use Rattle.matrix_buffers.proofs.CellByCell.{part-written, next-written}
use Rattle.matrix_determinant.specs.LastColumn.{PartAsked, Parted}

-- m cells of a column are as long as m cells of a row
pub one-column : (m wide : ℕ) → m * (1 * wide) ≡ m * wide
one-column m wide = ap (λ (x : ℕ). m * x) (omega arith)

-- the place of a coefficient in a column
in-column : (i wide t : ℕ) → i * (1 * wide) + (0 * wide + t) ≡ i * wide + t
in-column i wide t = omega (arith, one-column i wide)

-- `count` cells of `size` places, one behind the other, of which cell i has the n places of r from `source i` on, and zeros behind them
abbrev pub Filled : (size n count : ℕ) (source : ℕ → ℕ) (r b b' : List ℕ) → Type 0
Filled size n count source r = CellsWritten size count (λ i t. i * size + t) (λ i t. get_or (part (source i) n r) t 0)

-- cell s is filled
pub fill-next : (size n count s : ℕ) (source : ℕ → ℕ) (r new : List ℕ) {b₀ b : List ℕ} → length b₀ ≡ count * size → s < count
    → Filled size n s source r b₀ b → length new ≡ size → ((t : ℕ) → get_or new t 0 ≡ get_or (part (source s) n r) t 0)
    → Filled size n (s + 1) source r b₀ (take (s * size) b ++ (new ++ drop size (drop (s * size) b)))
fill-next size n count s source r new {b = b} room more done new-size new-at =
    let fits : s * size + size ≤ length b = omega (arith, done.size, room, line-end s count size more) in
    next-written (λ j t u lj lt lu same. omega (arith, (block-own size j t s u lt lu same).0)) done
    (part-written (s * size) size b new fits (λ _ _ _ lt. lt) (record {
      size = new-size ∙ sym (length_part (s * size) size b fits);
      written = λ _ t _ _. new-at t;
      others = λ x outside. case-le size x
          (λ past. get_or-past new x (omega arith)
          ∙ sym (get_or-past (part (s * size) size b) x (omega (arith, length_part (s * size) size b fits))))
          (λ inside. absurd (outside 0 x (omega arith) inside refl));
    }))

-- where a loop stands that parts the rows without row k, and has come to s
pub record Parting (m w wide k : ℕ) (r next₀ column₀ next column : List ℕ) (s : ℕ) : Type 0 where
  pub next-filled : Filled (m * w) (m * w) s (λ i. skip k i * (m * w + w)) r next₀ next
  pub column-filled : Filled wide w s (λ i. skip k i * (m * w + w) + m * w) r column₀ column

module _ {m w wide k : ℕ} {r next₀ column₀ : List ℕ} (asked : PartAsked m w wide k r next₀ column₀) where
  abbrev start : ℕ → ℕ
  start i = skip k i * (m * w + w)

  -- a row that is read
  pub row-fits : (s : ℕ) → s < suc m → start s + m * w + w ≤ length r
  row-fits s more = omega (arith, asked.inside s more)

  -- and the cells that are written
  pub cells-fit : {next column : List ℕ} {s : ℕ} → Parting m w wide k r next₀ column₀ next column s → s < suc m
      → (s * (m * w) + m * w ≤ length next) × (s * wide + wide ≤ length column)
  cells-fit {s = s} now more = (
    omega (arith, now.next-filled.size, asked.next_size, line-end s (suc m) (m * w) more),
    omega (arith, now.column-filled.size, asked.column_size, one-column (suc m) wide, line-end s (suc m) wide more),
  )

  pub parting-turn : {next column : List ℕ} {s : ℕ} (cell : List ℕ) → Parting m w wide k r next₀ column₀ next column s → s < suc m
      → length cell ≡ wide → ((t : ℕ) → get_or cell t 0 ≡ get_or (part (start s + m * w) w r) t 0)
      → Parting m w wide k r next₀ column₀ (take (s * (m * w)) next ++ (part (start s) (m * w) r ++ drop (m * w) (drop (s * (m * w)) next)))
      (take (s * wide) column ++ (cell ++ drop wide (drop (s * wide) column))) (s + 1)
  parting-turn {s = s} cell now more cell-size cell-at = record {
    next-filled = fill-next _ _ _ s start r _ asked.next_size more now.next-filled
        (length_part (start s) (m * w) r (omega (arith, row-fits s more))) (λ _. refl);
    column-filled = fill-next _ _ _ s (λ i. start i + m * w) r cell (asked.column_size ∙ one-column (suc m) wide) more now.column-filled
        cell-size cell-at;
  }

  pub parting-end : {next column : List ℕ} → w ≤ wide → Parting m w wide k r next₀ column₀ next column (suc m)
      → Parted m w wide k r next column
  parting-end {column = column} widened now = record {
    next_size = now.next-filled.size ∙ asked.next_size;
    next_at = λ i j t li lj lt.
        let inside : j * w + t < m * w = within j t m w lj lt in
        now.next-filled.written i (j * w + t) li inside
        ∙ get_or-part (start i) (m * w) r (omega (arith, row-fits i li)) (j * w + t) inside
        ∙ ap (λ (x : ℕ). get_or r x 0) (omega arith);
    column_size = now.column-filled.size ∙ asked.column_size;
    column_at = λ i t li lt.
        cell i t li (omega arith)
        ∙ get_or-part (start i + m * w) w r (row-fits i li) t lt
        ∙ ap (λ (x : ℕ). get_or r x 0) (omega arith);
    column_zero = λ i t li from lt.
        cell i t li lt
        ∙ get_or-past (part (start i + m * w) w r) t (omega (arith, length_part (start i + m * w) w r (row-fits i li)));
  }
    where
      cell : (i t : ℕ) → i < suc m → t < wide → get_or column (i * (1 * wide) + (0 * wide + t)) 0 ≡ get_or (part (start i + m * w) w r) t 0
      cell i t li lt = ap (λ (x : ℕ). get_or column x 0) (in-column i wide t) ∙ now.column-filled.written i t li lt

-- r holds M in `rows` rows, of which those without row k are meant
module _ {p rows m w wide k : ℕ} {r next column : List ℕ} {M : ℕ → Row (Zp p)} (h : Held (by_rows rows (suc m) w) p r M)
    (left : (s : ℕ) → s < suc m → skip k s < rows) (d : Parted m w wide k r next column) where
  -- the rows that are left, without their last entries
  pub held_next : Held (by_rows (suc m) m w) p next (λ s. M (skip k s))
  held_next = record {
    size = d.next_size;
    at = λ s j t ls lj lt. d.next_at s j t ls lj lt ∙ h.at (skip k s) j t (left s ls) (omega arith) lt;
    beyond = λ s j t ls lj past. h.beyond (skip k s) j t (left s ls) (omega arith) past;
  }

  -- and these, in wide cells
  pub held-column : w ≤ wide → Held (by_rows (suc m) 1 wide) p column (λ s _. M (skip k s) m)
  held-column widened = record {
    size = d.column_size;
    at = λ s j t ls lj lt. let first : j ≡ 0 = omega arith in rw first (case-le w t
        (λ past. d.column_zero s t ls past lt ∙ sym (h.beyond (skip k s) m t (left s ls) (omega arith) past))
        (λ inside. d.column_at s t ls inside ∙ h.at (skip k s) m t (left s ls) (omega arith) inside));
    beyond = λ s j t ls lj past. h.beyond (skip k s) m t (left s ls) (omega arith) (omega arith);
  }

-- a cell of the column, as a polynomial
pub column-cell : {p n wide : ℕ} {l : List ℕ} {M : ℕ → Row (Zp p)} → Held (by_rows n 1 wide) p l M
    → (i : ℕ) → i < n → Holds p (part (i * wide) wide l) (M i 0)
column-cell {n = n} {wide = wide} {l = l} h i li =
    let fits : i * wide + wide ≤ length l = omega (arith, h.size, one-column n wide, line-end i n wide li) in
    record {
      at = λ t. case-le wide t
          (λ past.
          get_or-past (part (i * wide) wide l) t (omega (arith, length_part (i * wide) wide l fits))
          ∙ sym (h.beyond i 0 t li (omega arith) past))
          (λ inside.
          get_or-part (i * wide) wide l fits t inside
          ∙ sym (ap (λ (x : ℕ). get_or l x 0) (in-column i wide t))
          ∙ h.at i 0 t li (omega arith) inside);
    }
