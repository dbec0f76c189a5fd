use mathlib.Core.Path.{◌≡◌, refl, sym}
use mathlib.Core.List.{List, append_assoc}
use Prim.Native.Nat.{ℕ, ◌+◌, ◌-◌, ◌≤◌}
use native.Mathlib.Omega.{arith}
use lib.ListN.{length}
use lib.Seq.{sets, drop-drop}
use borrow.Rule.Slice.PartMut.{put_mid}
use Rattle.std.proofs.lemmas.List.Edits.{sets-eq}
use Rattle.printer_writing.specs.Wrote.{written}
use Rattle.printer_writing.proofs.put_bytes.Goals as goal

-- a text that was copied to a part of its length is written there
copied : (l w w' : List ℕ) (a : ℕ) → w' ≡ w → a + length w ≤ length l → put_mid a (a + length w - a) l w' ≡ sets l a w
copied l w w' a same fits =
    let size : a + length w - a ≡ length w = omega arith in
    rw (same, size, drop-drop, ← append_assoc) (sym (sets-eq w l a fits))

pub returns : goal.returns
unfolding written
returns c = record { now = copied _ _ _ _ c.copy_from_slice.ensures.after c.requires.fits; next = refl }
