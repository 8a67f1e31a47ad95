-- The lines of the items from an input on: from 0 on nothing is left out.
use Rattle.std.proofs.Common.{◌≡◌, ℕ, suc, List, [], ◌∷◌, ◌++◌, filter, flat_map, refl, ap, ap₂}
use Rattle.std.proofs.Math.Dec.{leb-zero}
use Rattle.pz_case.specs.declared.item.Item.{Item}
use Rattle.pz_case.specs.declared.item.Item.TheVariants as item
use Rattle.pz_case.specs.declared.recording.Record.{Record}
use Rattle.pz_lines.specs.Lines.{frame_count, is_from, item_line, lines_from, lines_of, recording_lines, text_from, text_of}

each_from_0 : (items : List Item) → filter (is_from 0) items ≡ items
each_from_0 [] = refl
each_from_0 (item.Frame number kind at level_text ∷ items) = rw (leb-zero at) (ap (λ xs. item.Frame number kind at level_text ∷ xs) (each_from_0 items))
each_from_0 (item.Close verdict ∷ items) = ap (λ xs. item.Close verdict ∷ xs) (each_from_0 items)

numbered_from_0 : (n : ℕ) (recording : List Record) → recording_lines (lines_from 0) n recording ≡ recording_lines lines_of n recording
numbered_from_0 n [] = refl
numbered_from_0 n (shown ∷ later) =
    ap₂ (λ l m. l ++ m) (ap (flat_map (item_line n shown.name (frame_count shown.items))) (each_from_0 shown.items)) (numbered_from_0 (suc n) later)

pub all_from_0 : (recording : List Record) → text_from 0 recording ≡ text_of recording
unfolding text_from text_of
all_from_0 recording = numbered_from_0 0 recording
