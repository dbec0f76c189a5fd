-- What is known of a text that is not refused.
use mathlib.Core.Path.{refl}
use mathlib.Core.List.{List}
use Prim.Native.Nat.{ℕ}
use native.Mathlib.Omega.{arith}
use lib.ListN.{length}
use Rattle.theory_lists.specs.Coefficients.{Coefficients}
use Rattle.matrix_promises.specs.Answering.{Told}
use Rattle.matrix_promises.specs.Refused.{Numbers}
use Rattle.matrix_promises.proofs.Tables.{past, in-range}
use Rattle.printer_format.specs.Line.{Lines}
use Rattle.printer_format.specs.File.{head_lines, numbers_of, head_modulus, head_rows, head_columns, head_degree, body_lines, AsSaid}
use Rattle.printer_files.specs.Table.{cells_table, table_by, printer_table}

-- its lines are as said, and p, n, m, d and the coefficients are in range
pub record InFormat (head : Lines) : Type 0 where
  pub head-said : AsSaid head
  pub numbers : Numbers (head_modulus head) (head_rows head) (head_columns head) (head_degree head)
  pub cells-said : AsSaid (body_lines head)
  pub residues : Coefficients (head_modulus head) (numbers_of (body_lines head))

told-nothing : (size : ℕ) (head : Lines) {place : ℕ} → Told (table_by size head) 0 place → InFormat head
told-nothing size head told =
    let (_, after-size) = past refl (omega arith) told in
    let (said, after-head) = past refl (omega arith) after-size in
    let (numbers, after-numbers) = in-range (cells_table (head_modulus head) (body_lines head)) refl after-head in
    let (cells, after-cells) = past refl (omega arith) after-numbers in
    let (residues, _) = past refl (omega arith) after-cells in
    record { head-said = said; numbers = numbers; cells-said = cells; residues = residues }

pub accepted : (s : List ℕ) {place : ℕ} → Told (printer_table s) 0 place → InFormat (head_lines s)
accepted s told = told-nothing (length s) (head_lines s) told
