-- The example of paper 01's printer: a text in, and a text out.
use Rattle.std.specs.Prelude.{◌≡◌, List, ◌++◌, ℕ, length, drop}
use Rattle.printer_format.specs.Line.{bytes}
use Rattle.printer_format.specs.Answer.{output_room}
use Rattle.printer_library.specs.Printed.{Printed, Output}

-- "For the input lines"
abbrev pub text_in : List ℕ
text_in = bytes "p=7\nn=2\nm=2\nd=2\na11=1 0 0\na12=0 1 0\na21=0 1 0\na22=1 0 1\n"

-- "it prints"
abbrev pub text_out : List ℕ
text_out = bytes "answer=0\nrank=2\nsteps=2\nr11=1 0 0\nr12=0 0 0\nr21=0 0 0\nr22=1 0 0\ndet=1 0 0 0 0\n"

-- For the text s the printer prints the text w: whatever a call of `printer_library::print` may do by its promise, it returns the length of
-- w, and the output, which was `out`, begins with w and is else as it was.
abbrev pub Prints : (s w : List ℕ) → Type 0
Prints s w = (out : List ℕ) (size : ℕ) (out' : List ℕ) → length out ≡ output_room → Output (Printed s) out size out'
    → (size ≡ length w) × (out' ≡ w ++ drop (length w) out)
