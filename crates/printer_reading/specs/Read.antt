-- What the readers ask and answer: what a definition reads of a text, and the text that it leaves.
use Rattle.std.specs.Prelude.{ℕ, ◌+◌, ◌*◌, ◌≤◌, ◌≡◌, List, [], ◌∷◌, length, Option, Result, MatchOption, MatchResult}
use denote.Bor.{Bor}
use Rattle.printer_format.specs.Number.{Got, got, bad}
use Rattle.printer_format.specs.Line.{Lines, read, wrong}
use Rattle.printer_reading.specs.declared.WrongCell.{WrongCell}

-- a number, or none
abbrev pub NumberRead : Got ℕ → Option (ℕ × Bor (List ℕ)) → Type 0
NumberRead g x = MatchOption x (g ≡ bad) (λ y. g ≡ got y.0 y.1.now)

-- a line whose numbers the room holds, or none
abbrev pub LineRead : Got (List ℕ) → (room : List ℕ) → Option (Bor (List ℕ)) → Type 0
LineRead g room x = MatchOption x (g ≡ bad) (λ rest. g ≡ got room rest.now)

-- a line with one number, or none
abbrev pub FieldRead : Got (List ℕ) → Option (ℕ × Bor (List ℕ)) → Type 0
FieldRead g x = MatchOption x (g ≡ bad) (λ y. g ≡ got (y.0 ∷ []) y.1.now)

-- a place for each number of an n by m matrix
pub record CellsAsked (n m d : ℕ) (room : List ℕ) : Type 0 where
  pub rows : n ≤ 8
  pub some_columns : 1 ≤ m
  pub columns : m ≤ 8
  pub degree : d ≤ 63
  pub places : length room ≡ n * m * (d + 1)

-- the lines of all cells, whose numbers the room holds, or the first that isn't as said
abbrev pub CellsRead : Lines → (room : List ℕ) → Result (Bor (List ℕ)) WrongCell → Type 0
CellsRead x room r = MatchResult r (λ rest. x ≡ read room rest.now) (λ e. x ≡ wrong e.0)
