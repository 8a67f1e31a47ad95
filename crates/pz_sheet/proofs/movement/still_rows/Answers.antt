use Rattle.pz_sheet.proofs.Common.{◌≡◌, ◌≤◌, ◌<◌, inl, inr, ℕ, ◌+◌, ◌*◌, List, map, length, get_or, arith, sym, refl, subst, All, cases_lt, Cell, still_place, Layering, IsSound, HeadingSets, AreNoted}
use Rattle.std.proofs.Math.Nat.{mul-le-mul_right}
use Rattle.pz_cells.specs.Lists.{IsStilled}
use Rattle.pz_cells.proofs.ListLemmas.{AreWalked, walked_all}
use Rattle.pz_planes.specs.Notes.{HaveNoneBetween}
use Rattle.pz_sheet.proofs.StillLemmas.{row_within, rows_stay, walked_on}
use Rattle.pz_sheet.proofs.movement.still_rows.Goals as goal

-- what is stilled so far is sound, and so is the rest
sound_so_far : {N : ℕ} (layering : Layering) (old now : List (Cell N)) (end : ℕ) → All (IsSound layering) old → AreWalked (IsStilled layering) old now end → All (IsSound layering) now
sound_so_far layering old now end sound w k cell within = elim (cases_lt k end) [
  | inl below ↦ (w.turned k cell below).sound
  | inr past ↦ subst (IsSound layering) (sym (w.rest k cell past)) (sound k cell (omega (arith, within, w.long)))
]

-- rows for which nothing is noted are passed by
passed_by : {N : ℕ} (width height : ℕ) (layering : Layering) (old now : List (Cell N)) (notes : HeadingSets) → All (IsSound layering) old → length old ≡ width * height → AreNoted N width height notes old
    → (from end : ℕ) → from ≤ end → end ≤ height → HaveNoneBetween notes.rows from end → AreWalked (IsStilled layering) old now (from * width) → AreWalked (IsStilled layering) old now (end * width)
passed_by {N = N} width height layering old now notes sound covers noted from end order high none w =
    walked_on (IsStilled layering) old now now (from * width) (end * width) (mul-le-mul_right {m = from} width order) w refl
    (λ k cell late below. subst (IsStilled layering (get_or old k cell)) (sym (w.rest k cell late)) (rows_stay N width height layering old notes sound covers noted from end k cell high none late below))
    (λ k cell early. refl) (λ k cell past. refl)

pub still_cells-requires : goal.still_cells-requires
still_cells-requires g c =
    let i = c.rows.invariant in
    let within : c.in-Some.y * c.args.width + c.args.width ≤ length c.rows.cells.items = omega (arith, row_within c.in-Some.y c.args.width (length c.args.notes.now.rows) c.in-Some.ensures.1, c.requires.covers, i.walked.long) in
    (search, (search, (sound_so_far c.args.layers.now c.args.cells.now.items c.rows.cells.items (c.rows.from * c.args.width) c.requires.sound i.walked, (omega arith, within))))

pub rows-preserved : goal.rows-preserved
rows-preserved g c =
    let old = c.args.cells.now.items in
    let now = c.rows.cells.items in
    let next = c.still_cells.new.cells.items in
    let width = c.args.width in
    let y = c.in-Some.y in
    let done = c.still_cells.ensures in
    let w = passed_by width (length c.args.notes.now.rows) c.args.layers.now old now c.args.notes.now c.requires.sound c.requires.covers c.requires.noted c.rows.from y c.in-Some.ensures.0 (omega (arith, c.in-Some.ensures.1)) c.in-Some.ensures.2 c.rows.invariant.walked in
    let end : y * width + width ≡ (y + 1) * width = omega arith in
    record {
      within = omega (arith, c.in-Some.ensures.1);
      walked = subst (AreWalked (IsStilled c.args.layers.now) old next) end (walked_on (IsStilled c.args.layers.now) old now next (y * width) (y * width + width) (omega arith) w done.long
          (λ k cell late below. subst (λ it. IsStilled c.args.layers.now it (get_or next k cell)) (w.rest k cell late) (done.stilled k cell late below)) done.before done.behind);
    }

pub returns-clause-mapped : goal.returns-clause-mapped
returns-clause-mapped g c =
    let w = passed_by c.args.width (length c.args.notes.now.rows) c.args.layers.now c.args.cells.now.items c.rows.cells.items c.args.notes.now c.requires.sound c.requires.covers c.requires.noted c.rows.from (length c.args.notes.now.rows) c.rows.invariant.within (omega arith) c.in_default.ensures c.rows.invariant.walked in
    walked_all c.args.layers.now (map still_place) c.args.cells.now.items c.rows.cells.items (λ k cell within.
    let below : k < length c.args.notes.now.rows * c.args.width = omega (arith, within, c.requires.covers) in
    let stilled = w.turned k cell below in
    (stilled.sound, stilled.seen_still)) w.long

pub returns-clause-nowhere : goal.returns-clause-nowhere
returns-clause-nowhere g c index cell number within =
    let w = passed_by c.args.width (length c.args.notes.now.rows) c.args.layers.now c.args.cells.now.items c.rows.cells.items c.args.notes.now c.requires.sound c.requires.covers c.requires.noted c.rows.from (length c.args.notes.now.rows) c.rows.invariant.within (omega arith) c.in_default.ensures c.rows.invariant.walked in
    (w.turned index cell (omega (arith, within, c.requires.covers, w.long))).nowhere number
