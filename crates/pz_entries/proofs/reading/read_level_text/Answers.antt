use Rattle.std.proofs.Common.{◌<◌, [], ℕ, length, sym, ◌∙◌}
use Rattle.std.proofs.lemmas.List.Elements.{All-nil, All-same}
use Rattle.pz_entries.proofs.Pieces.{starts_so, stops_so, goes_on_so, within_so}
use Rattle.pz_entries.proofs.reading.read_level_text.Goals as goal

pub pieces-init : goal.pieces-init
pieces-init c =
    let P : ℕ → Type 0 = λ j. j < length c.new-sets.result.items in
    record {
      within = All-same P c.new-cells.result.items [] c.new-cells.ensures.items (All-nil P);
      whole = starts_so _ _ _ c.args.text.now c.new-sets.ensures.items c.new-cells.ensures.items (c.as_slice-rest.ensures.value ∙ c.in_ok-joined.ensures);
    }

pub returns-in_default-2 : goal.returns-in_default-2
returns-in_default-2 c =
    sym (sym c.pieces.invariant.whole ∙ stops_so c.pieces.sets.items c.pieces.cells.items c.pieces.rest.now c.in-Some.piece.now c.in-Some.later.now c.in-Some.ensures.parts (rw c.in_default-2.is at c.in_ok-place.ensures.reads))

pub pieces-preserved : goal.pieces-preserved
pieces-preserved c =
    let sets = c.pieces.sets.items in
    let more = c.read_piece.new.sets.items in
    let k = c.in-Some-2.place in
    let kept = rw c.in-Some-2.is at c.in_ok-place.ensures.kept in
    record {
      within = within_so sets more c.pieces.cells.items k c.add_cell.new.cells.items c.pieces.invariant.within kept c.in_ok-add_cell.ensures (rw c.in-Some-2.is at c.in_ok-place.ensures.within);
      whole = goes_on_so sets more c.pieces.cells.items c.pieces.rest.now c.in-Some.piece.now c.in-Some.later.now k c.add_cell.new.cells.items c.pieces.invariant.within kept c.in_ok-add_cell.ensures
          c.in-Some.ensures.parts (rw c.in-Some-2.is at c.in_ok-place.ensures.reads)
          ∙ c.pieces.invariant.whole;
    }
