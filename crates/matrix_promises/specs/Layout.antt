-- The layout of paper 01.
use Rattle.std.specs.Prelude.{ℕ}
use Rattle.theory_lists.specs.Place.{spot, Layout}
use Rattle.theory_lists.proofs.Place as Laws

-- "Cells stand row after row, in each row column after column", "constant term first": n rows of m cells of w places
abbrev pub by_rows : (n m w : ℕ) → Layout n m w
by_rows n m w = record {
  spot = spot m w;
  within = Laws.spot-inside n m w;
  own = λ x. Laws.spot-told;
  hits = Laws.spot-hit n m w;
}
