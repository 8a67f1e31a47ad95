use Rattle.pz_sheet.proofs.Common.{◌≡◌, ◌*◌, ℕ, Bool, true, false, length, arith, member, no_number, HaveSameLines, PlaneSets, still_there_at}
use Rattle.pz_planes.proofs.PlaneLemmas.{same_lines}
use Rattle.pz_sheet.proofs.PlacedLemmas.{ends_still_at, all_there_more, all_there, none_of_empty}
use Rattle.pz_sheet.proofs.noting.note_all.Goals as goal

-- as many cells fit where nothing is noted any more
covers : (start cleared : PlaneSets) (count : ℕ) → HaveSameLines start cleared → count ≡ start.columns.count * start.rows.count → count ≡ cleared.columns.count * cleared.rows.count
covers start cleared count size is = grind arith

pub note_at-requires-clause-known_before : goal.note_at-requires-clause-known_before
note_at-requires-clause-known_before g c object is = absurd (grind (arith, no_number g.row.N object, is))

pub note_at-requires-clause-there : goal.note_at-requires-clause-there
note_at-requires-clause-there g c =
    let i = c.loop-index.invariant in
    let start = c.clear.new.self in
    none_of_empty g.row.N start c.loop-index.planes c.loop-index.index i.size
    (i.none c.loop-index.index (omega arith) (omega (arith, c.loop-index-test.true, covers c.args.planes.now start (length c.args.cells.now) c.clear.ensures.size c.requires.covers)))

pub loop-index-preserved : goal.loop-index-preserved
loop-index-preserved g c =
    let i = c.loop-index.invariant in
    let start = c.clear.new.self in
    let old = c.loop-index.planes in
    let new = c.note_at.new.self in
    let index = c.loop-index.index in
    let cell = c.index-cells-index.result in
    let all = covers c.args.planes.now start (length c.args.cells.now) c.clear.ensures.size c.requires.covers in
    let noted = λ (object : ℕ) (was : Bool). member cell.objects object in
    let changed = rw c.objects_of.ensures.objects at c.note_at.ensures in
    record {
      size = same_lines start old new _ _ noted i.size changed;
      there = all_there_more g.row.N start old new c.args.cells.now index cell c.loop-index-test.true c.index-cells-index.is i.size all changed i.there;
      none = λ k above inside. still_there_at start old new index k noted (λ object. false) i.size inside (omega (arith, above)) changed (i.none k (omega (arith, above)) inside);
      ends = ends_still_at start old new index noted i.size (omega (arith, c.loop-index-test.true, all)) changed i.ends;
    }

pub returns-clause-there : goal.returns-clause-there
returns-clause-there g c =
    let size = c.clear.ensures.size in
    let start = c.clear.new.self in
    rw (size.column_count, size.row_count) at (all_there g.row.N start c.loop-index.planes c.args.cells.now c.loop-index.index (omega (arith, c.loop-index-test.false)) (covers c.args.planes.now start (length c.args.cells.now) size c.requires.covers) c.loop-index.invariant.there)
