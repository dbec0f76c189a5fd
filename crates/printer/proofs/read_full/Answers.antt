use Rattle.std.proofs.Common.{◌≡◌, ℕ, ◌+◌, ◌-◌, ◌≤◌, List, ◌++◌, rules, length, take, drop, sym, ap, ◌∙◌, subst, le_refl}
use Rattle.std.proofs.Common.{drop_at, length-take-le}
use Rattle.std.proofs.lemmas.Slice.{take-put_mid_below}
use Rattle.std.specs.Io.KnownBytes.{Consumes}
use Rattle.std.proofs.KnownBytes.{Consumes-trans}
use borrow.Rule.Slice.PartMut.{put_mid, post_of}
use lib.Seq.{take-add, take-append-le}
use Rattle.printer.proofs.read_full.Goals as goal

-- what was filled before, and what a read put behind it
take_more : (a n : ℕ) (xs ys : List ℕ) → a ≤ length xs → n ≤ length ys
    → take a xs ++ take n ys ≡ take (a + n) (put_mid a (length xs - a) xs ys)
take_more a n xs ys within fits =
    let zs = put_mid a (length xs - a) xs ys in
    let front : take a zs ≡ take a xs = take-put_mid_below _ _ _ _ _ (le_refl _) within in
    let behind : take n (drop a zs) ≡ take n ys =
    ap (take n) (drop_at (take a xs) (ys ++ post_of a (length xs - a) xs) a (length-take-le a xs within))
    ∙ take-append-le n ys _ fits
    in
    ap (λ l. l ++ take n ys) (sym front) ∙ ap (λ l. take a zs ++ l) (sym behind) ∙ sym (take-add a n zs)

pub loop-done-preserved : goal.loop-done-preserved
loop-done-preserved g c = record {
  in_bounds = search rules;
  places = search rules;
  bytes =
      subst (Consumes _ _) (take_more _ _ _ _ c.loop-done.invariant.in_bounds c.in-Ok.ensures.bound.0)
      (Consumes-trans _ _ _ _ _ c.loop-done.invariant.bytes c.in-Ok.ensures.bytes.0);
}
