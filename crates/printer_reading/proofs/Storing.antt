-- A loop that reads lines of equally many numbers into lent room.
use Prim.Native.Nat.{ℕ, suc, ◌+◌, ◌*◌, ◌-◌, ◌≤◌, ◌<◌}
use mathlib.Core.Path.{◌≡◌, sym, ap, ◌∙◌}
use mathlib.Core.List.{List, ◌++◌, append-nil, append_assoc}
use native.Mathlib.Nat.{suc-mul}
use native.Mathlib.Numerals.{add-one}
use native.Mathlib.Omega.{arith}
use lib.ListN.{length, take, drop, length-append, length-take, length-drop}
use lib.Seq.{take_all, take_at}
use Rattle.theory_lists.proofs.Grid.{line-end}
use Rattle.printer_format.specs.Number.{Got, got, bad}
use Rattle.printer_format.specs.Line.{read, wrong, behind, read_lines}
use Rattle.printer_format.proofs.Line.{behind-append, lines_next, lines-wrong}

module _ (reader : ℕ → List ℕ → Got (List ℕ)) (s : List ℕ) (count width : ℕ) where
  -- the numbers of the first c of count lines stand in the room, and the others are read from what is left
  pub record Storing (c : ℕ) (rest room : List ℕ) : Type 0 where
    pub size : length room ≡ count * width
    pub same : read_lines reader count 0 s ≡ behind (take (c * width) room) (read_lines reader (count - c) c rest)

  module _ (c : ℕ) (rest room : List ℕ) (r : Storing c rest room) where
    -- where the numbers of line c have their places
    abbrev at : ℕ
    at = c * width

    pub storing_end : c ≡ count → read_lines reader count 0 s ≡ read room rest
    unfolding read_lines
    storing_end all =
        let none : count - c ≡ 0 = omega arith in
        r.same ∙ rw (none, take_all at room (rw all (omega (arith, r.size)))) (rw append-nil)

    module _ (before : c < count) where
      left : count - c ≡ suc (count - (c + 1))
      left = omega arith

      -- the next line's numbers have their places
      pub storing_room : at + width ≤ length room
      storing_room = omega (arith, r.size, line-end c count width before)

      pub storing_part : length (take (at + width - at) (drop at room)) ≡ width
      storing_part = simp (length-take, length-drop) (omega (arith, storing_room))

      pub storing_wrong : reader c rest ≡ bad → read_lines reader count 0 s ≡ wrong c
      storing_wrong e = r.same ∙ rw (left, lines-wrong reader _ c _ e)

      -- the next line was read into its part of the room, as which `new` comes back
      module _ (new : List ℕ) (many : length new ≡ length (take (at + width - at) (drop at room))) where
        abbrev others_room : List ℕ
        others_room = drop (at + width - at) (drop at room)

        new-width : length new ≡ width
        new-width = many ∙ storing_part

        pub storing_turn : (next : List ℕ) → reader c rest ≡ got new next → Storing (c + 1) next (take at room ++ (new ++ others_room))
        storing_turn next e =
            let place : (c + 1) * width ≡ at + width = omega (arith, suc-mul c width, add-one c) in
            let front : length (take at room ++ new) ≡ at + width =
            simp (length-append, length-take) (omega (arith, new-width, storing_room)) in
            let more : take at room ++ new ≡ take ((c + 1) * width) (take at room ++ (new ++ others_room)) =
            sym (rw place (ap (take (at + width)) (sym (append_assoc (take at room) new others_room))
            ∙ take_at (take at room ++ new) others_room (at + width) front)) in
            let others = read_lines reader (count - (c + 1)) (c + 1) next in
            let here : read_lines reader (count - c) c rest ≡ behind new others =
            rw (left, add-one) (lines_next reader _ c _ new next e) in
            record {
              size = simp (length-append, length-take, length-drop) (omega (arith, new-width, storing_room, r.size));
              same = r.same ∙ ap (behind (take at room)) here ∙ sym (behind-append (take at room) new others)
                  ∙ ap (λ (l : List ℕ). behind l others) more;
            }
