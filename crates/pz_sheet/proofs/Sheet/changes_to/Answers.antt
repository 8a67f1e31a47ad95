use Rattle.pz_sheet.proofs.Common.{◌≡◌, ◌++◌, [], ◌∷◌, List, Option, arith, ap, sym, ◌∙◌, subst, Piece, Layering, pieces_of_cell, IsSound, Change, changed_cells, changes_seen, IsChangeOf, cell_there, layers_in}
use Rattle.std.proofs.lemmas.List.{map-append}
use Rattle.std.proofs.lemmas.List.Elements.{All-append, All-cons, All-nil}
use Rattle.pz_sheet.specs.Changes.{change_seen}
use Rattle.pz_sheet.proofs.ChangeLemmas.{found_more, all_found, way_back}
use Rattle.pz_sheet.proofs.Sheet.changes_to.Goals as goal

pub changes-preserved : goal.changes-preserved
changes-preserved g c =
    let grid = c.args.self.now.grid in
    let older = c.args.older.now.grid in
    let index = c.in-Some.index in
    let next = c.in-Some.ensures.next in
    let new : Change g.row.N = record { index = index; cell = c.cell-cell.result.now } in
    let old = c.changes.changes.items in
    let over : layers_in older ≡ layers_in grid = grind (arith, c.requires.size) in
    let there = ap (λ (layering : Layering). pieces_of_cell layering new.cell) (sym over) ∙ c.cell-cell.ensures.cell in
    let more : changes_seen grid c.push.new.self.items ≡ changes_seen grid old ++ cell_there older index ∷ [] =
    ap (changes_seen grid) c.in_ok-push.ensures.items ∙ map-append (change_seen (layers_in grid)) old (new ∷ []) ∙ ap (λ (cell : List (Option Piece)). changes_seen grid old ++ record { number = index; cell = cell } ∷ []) there in
    let long = c.in-Some.ensures.as_many in
    record {
      found = rw more (found_more grid older long (changes_seen grid old) (changed_cells grid older) c.changes.from index next c.changes.invariant.found);
      of_level = rw c.in_ok-push.ensures.items (All-append (IsChangeOf grid) old (new ∷ []) c.changes.invariant.of_level (All-cons (IsChangeOf grid) new [] (record { within = next.1; sound = subst (λ (layering : Layering). IsSound layering new.cell) over c.cell-cell.ensures.sound }) (All-nil (IsChangeOf grid))));
      low = omega (arith, next.1);
    }

pub returns-clause-changes : goal.returns-clause-changes
returns-clause-changes g c =
    let grid = c.args.self.now.grid in
    let older = c.args.older.now.grid in
    all_found grid older c.in_default.ensures.as_many (changes_seen grid c.changes.changes.items) (changed_cells grid older) c.changes.from c.changes.invariant.low c.in_default.ensures.next c.changes.invariant.found

pub returns-clause-way_back : goal.returns-clause-way_back
returns-clause-way_back g c = rw (returns-clause-changes g c) (way_back c.args.self.now.grid c.args.older.now.grid c.requires.size c.in_default.ensures.as_many)
