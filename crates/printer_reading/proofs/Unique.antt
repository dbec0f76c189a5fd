-- What is read has one answer only.
use Prim.Native.Nat.{ℕ}
use mathlib.Core.Path.{◌≡◌, refl, sym, ap, subst, ◌∙◌}
use mathlib.Core.List.{List, []}
use denote.Bor.{Bor}
use lib.ListN.{get_or}
use Rattle.std.specs.Prelude.{Option, Some, None, Result, Ok, Err}
use Rattle.printer_format.specs.Number.{Got, got, bad}
use Rattle.printer_format.specs.Line.{Lines, read, wrong}
use Rattle.printer_format.specs.File.{numbers_of, rest_of, AsSaid}
use Rattle.printer_reading.specs.Read.{FieldRead, CellsRead}
use Rattle.printer_reading.specs.declared.WrongCell.{WrongCell}

-- what was got is something or nothing
abbrev IsGot : Got (List ℕ) → Type 0
IsGot (got l s) = Unit
IsGot bad = ⊥

abbrev got_numbers : Got (List ℕ) → List ℕ
got_numbers (got l s) = l
got_numbers bad = []

abbrev got_rest : Got (List ℕ) → List ℕ
got_rest (got l s) = s
got_rest bad = []

-- the text that is left, wherever it stands
abbrev pub field_text : Option (ℕ × Bor (List ℕ)) → Option (ℕ × List ℕ)
field_text (Some y) = Some (y.0, y.1.now)
field_text None = None

-- two answers of `read_field` that the promise allows are equal
pub field-read-unique : (g : Got (List ℕ)) (x y : Option (ℕ × Bor (List ℕ))) → FieldRead g x → FieldRead g y → field_text x ≡ field_text y
field-read-unique g (Some v) (Some w) f h = ap (λ (t : Got (List ℕ)). Some (get_or (got_numbers t) 0 0, got_rest t)) (sym f ∙ h)
field-read-unique g (Some v) None f h = absurd (subst IsGot (sym f ∙ h) tt)
field-read-unique g None (Some w) f h = absurd (subst IsGot (sym h ∙ f) tt)
field-read-unique g None None f h = refl

abbrev wrong_line : Lines → ℕ
wrong_line (read l s) = 0
wrong_line (wrong c) = c

abbrev pub cells_text : Result (Bor (List ℕ)) WrongCell → Result (List ℕ) WrongCell
cells_text (Ok rest) = Ok rest.now
cells_text (Err e) = Err e

-- two answers of `read_cells` that the promise allows are equal
pub cells-read-unique : (x : Lines) (room room' : List ℕ) (c e : Result (Bor (List ℕ)) WrongCell) → CellsRead x room c → CellsRead x room' e
    → cells_text c ≡ cells_text e
cells-read-unique x room room' (Ok k) (Ok l) f h = ap (λ (t : Lines). Ok (rest_of t)) (sym f ∙ h)
cells-read-unique x room room' (Ok k) (Err e) f h = absurd (subst AsSaid (sym f ∙ h) tt)
cells-read-unique x room room' (Err c) (Ok l) f h = absurd (subst AsSaid (sym h ∙ f) tt)
cells-read-unique x room room' (Err c) (Err e) f h = ap (λ (t : Lines). Err (record { 0 = wrong_line t })) (sym f ∙ h)

-- and so is the room, where all lines were read
pub cells-room-unique : (x : Lines) (room room' : List ℕ) (k l : Bor (List ℕ)) → CellsRead x room (Ok k) → CellsRead x room' (Ok l) → room ≡ room'
cells-room-unique x room room' k l f h = ap numbers_of (sym f ∙ h)
