use Rattle.std.proofs.Common.{◌≡◌, ℕ, List, Some, length, refl, ap, sym, ◌∙◌, subst, arith}
use Rattle.std.specs.Prelude.{slice_get}
use Rattle.pz_bare.specs.Differing.{DifferWithin}
use Rattle.pz_grid.proofs.MovementLemmas.{same_size_on}
use Rattle.pz_sheet.specs.Grid.{Grid, SameSize}
use Rattle.pz_sheet.proofs.NewerLemmas.{size_back}
use Rattle.pz_store.specs.Digest.{digest_of}
use Rattle.pz_solve.specs.Origin.{AreSameBut, OriginState, IsPlayedFrom}
use Rattle.pz_store.proofs.Listing.{there as found_there}
use Rattle.pz_solve.proofs.Sizes.{same_size}
use Rattle.pz_solve.proofs.Turning.{differ_within, played_from}
use Rattle.pz_solve.proofs.origin.Origin.go_to.Goals as goal
use Rattle.pz_solve.proofs.origin.Origin.go_to.Goals.{After-deref-3}

-- the level to go to
next : (c : After-deref-3) → (grid : Grid) × (slice_get c.args.levels.now.grids c.args.place ≡ Some grid)
next c = found_there c.args.levels.now.grids c.args.place c.requires.within

is_at : (c : After-deref-3) → c.self-2.inside.level.grid ≡ c.args.self.now.grid
is_at c = ap (λ (h : OriginState). h.grid) (c.self-2.view_is ∙ c.settle.ensures)

are_as_many : (c : After-deref-3) → length c.args.self.now.grid.cells ≡ length (next c).0.cells
are_as_many c = omega (arith, c.requires.at.numbers.long, c.requires.at.row.long, (c.copy_to.ensures.numbers (next c).0 (next c).1).long, c.copy_to.ensures.row.long)

-- the cells in which the two differ at most
differ : (c : After-deref-3) → DifferWithin c.note_cells.new.cells.items c.args.self.now.grid (next c).0
differ c = differ_within c.args.levels.now.cells c.args.self.now.numbers c.copy_to.new.numbers c.note_cells.new.cells.items c.args.self.now.grid (next c).0 c.requires.at.numbers (c.copy_to.ensures.numbers (next c).0 (next c).1) (are_as_many c)
    (subst (λ (l : List ℕ). AreSameBut c.note_cells.new.cells.items l c.copy_to.new.numbers) (c.deref.ensures.value ∙ ap (λ (h : OriginState). h.numbers) (c.self-2.view_is ∙ c.settle.ensures)) c.in_ok-note_cells.ensures.rest)

is_next : (c : After-deref-3) → c.put_cells.new.bare.grid ≡ (next c).0
is_next c =
    let grid = (next c).0 in
    let bare : c.self-2.inside.bare.grid ≡ c.args.self.now.grid = c.self-2.invariant.same ∙ is_at c in
    c.put_cells.ensures grid (c.copy_to.ensures.size grid (next c).1) (c.copy_to.ensures.numbers grid (next c).1)
    (subst (λ (l : List ℕ). DifferWithin l c.self-2.inside.bare.grid grid) (sym c.deref-2.ensures.value) (subst (λ (g : Grid). DifferWithin c.note_cells.new.cells.items g grid) (sym bare) (differ c)))

size : (c : After-deref-3) → SameSize c.args.self.now.grid (next c).0
size c = same_size_on c.args.self.now.grid c.args.levels.now.frame (next c).0 (size_back c.args.levels.now.frame c.args.self.now.grid c.requires.at.size) (c.copy_to.ensures.size (next c).0 (next c).1)

pub take_bare_cells_of-requires-clause-size : goal.take_bare_cells_of-requires-clause-size
take_bare_cells_of-requires-clause-size c = rw (is_at c) (rw (is_next c) (size c))

pub take_bare_cells_of-requires-clause-rest : goal.take_bare_cells_of-requires-clause-rest
take_bare_cells_of-requires-clause-rest c = rw c.deref-3.ensures.value (rw (is_at c) (rw (is_next c) (differ c)))

pub invariant_of-self : goal.invariant_of-self
invariant_of-self c =
    let is = c.self-2.view_is ∙ c.settle.ensures in
    let grid = c.self-2.inside.level.grid in
    let cells = c.note_cells.new.cells.items in
    let long : length grid.cells ≡ length c.deref.result.now = ap (λ (h : OriginState). length h.grid.cells) is ∙ sym c.requires.at.numbers.long ∙ sym (ap (λ (l : List ℕ). length l) (c.deref.ensures.value ∙ ap (λ (h : OriginState). h.numbers) is)) in
    record {
      same = c.self-2.invariant.same;
      within = rw long c.note_cells.ensures.within;
      played = λ work there_is.
          played_from grid grid work cells (subst (λ (l : List ℕ). IsPlayedFrom grid l work) (ap (λ (h : OriginState). h.changed) is) (c.self-2.invariant.played work there_is)) (same_size grid) refl (λ index none. refl);
    }

pub invariant_of-self-2 : goal.invariant_of-self-2
invariant_of-self-2 c =
    let before = (goal.at.invariant_of-self-2 c).After-deref-3 in
    let is = c.self-2.view_is ∙ c.settle.ensures in
    let grid = c.self-2.inside.level.grid in
    let cells = c.note_cells.new.cells.items in
    let there = (next before).0 in
    let at = sym (is_at before) in
    let new : c.take_bare_cells_of.new.self.grid ≡ there = c.take_bare_cells_of.ensures.grid ∙ is_next before in
    let long : length c.take_bare_cells_of.new.self.grid.cells ≡ length c.deref.result.now = ap (λ (g : Grid). length g.cells) new ∙ sym (are_as_many before) ∙ sym c.requires.at.numbers.long ∙ sym (ap (λ (l : List ℕ). length l) (c.deref.ensures.value ∙ ap (λ (h : OriginState). h.numbers) is)) in
    record {
      same = sym c.take_bare_cells_of.ensures.grid;
      within = rw long c.note_cells.ensures.within;
      played = λ work there_is. rw new
          (played_from grid there work cells (subst (λ (l : List ℕ). IsPlayedFrom grid l work) (ap (λ (h : OriginState). h.changed) is) (c.self-2.invariant.played work there_is))
          (subst (λ (g : Grid). SameSize g there) at (size before)) (subst (λ (g : Grid). length g.cells ≡ length there.cells) at (are_as_many before)) (subst (λ (g : Grid). DifferWithin cells g there) at (differ before)));
    }

pub returns-clause-at : goal.returns-clause-at
returns-clause-at c =
    let before = (goal.at.returns-clause-at c).After-deref-3 in
    let grid = (next before).0 in
    let is : c.self-3.inside.level.grid ≡ grid = ap (λ (h : OriginState). h.grid) (c.self-3.view_is ∙ c.settle-2.ensures) ∙ c.take_bare_cells_of.ensures.grid ∙ is_next before in
    let items = c.copy_from_slice.ensures.items in
    record {
      there = (next before).1 ∙ ap (λ (g : Grid). Some g) (sym is);
      size = rw is (c.copy_to.ensures.size grid (next before).1);
      numbers = rw items (rw is (c.copy_to.ensures.numbers grid (next before).1));
      row = rw items c.copy_to.ensures.row;
      digest = c.requires.digest grid (next before).1 ∙ ap (λ (g : Grid). digest_of c.args.levels.now.objects g) (sym is);
    }
