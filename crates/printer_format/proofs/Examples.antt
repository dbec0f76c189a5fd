-- Texts that are read, and texts that are written.
use Prim.Native.String.{String}
use mathlib.Core.Path.{◌≡◌, refl}
use Rattle.printer_format.specs.Number.{decimal_by, decimal, digits_of, value_from, is_number, number}
use Rattle.printer_format.specs.Line.{bytes, row, starts_with, numbers, read_line, Lines, wrong, read_lines}
use Rattle.printer_format.specs.File.{head_lines, cell_lines}
use Rattle.printer_format.specs.Answer.{refusal_text}

-- a needless zero, a number above 65,535, a missing line and another key than the next
head-lines : (head_lines (bytes "p=7\nn=02\n") ≡ wrong 1) × (head_lines (bytes "p=65536\n") ≡ wrong 0)
    × (head_lines (bytes "p=7\nn=2\nm=2\n") ≡ wrong 3) × (head_lines (bytes "n=2\np=7\n") ≡ wrong 0)
unfolding read_lines read_line numbers starts_with number is_number value_from digits_of
head-lines = (refl, refl, refl, refl)

-- two spaces, a space after the last number, no line feed, an extra line
abbrev cell : String → Lines
cell s = cell_lines 1 1 1 (bytes s)

cell-lines : (cell "a11=1  2\n" ≡ wrong 0) × (cell "a11=1 2 \n" ≡ wrong 0) × (cell "a11=1 2" ≡ wrong 0) × (cell "a11=1 2\n\n" ≡ wrong 1)
unfolding read_lines read_line numbers starts_with number is_number value_from digits_of
cell-lines = (refl, refl, refl, refl)

-- a refusal
refusal : refusal_text 6 4095 ≡ bytes "answer=6\nplace=4095\n"
unfolding row decimal decimal_by
refusal = refl
