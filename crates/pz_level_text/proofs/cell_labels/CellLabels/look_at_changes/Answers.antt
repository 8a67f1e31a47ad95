use Rattle.pz_level_text.proofs.Common.{common_steps, ◌≡◌, ◌+◌, ℕ, List, length, map, take, ap, arith, refl, subst, sym, ◌∙◌, IsSameBut, text_at}
use Rattle.pz_sheet.specs.Changes.{differ_in}
use Rattle.pz_level_text.proofs.Changing.{seen_count, seen_more, all_seen, last_before}
use Rattle.pz_level_text.proofs.cell_labels.CellLabels.look_at_changes.Goals as goal

pub look-requires-clause-count : goal.look-requires-clause-count
look-requires-clause-count c = seen_count c.args.self.now.table.game c.args.self.now.order c.args.seen.now.grid c.args.level.now.grid c.changes.from c.changes.self.cells c.changes.invariant.seen

pub changes-init : goal.changes-init
changes-init c = record {
  seen = record { now = c.args.seen.now.grid; size = c.requires.size; many = refl; known = c.requires.known; front = λ k low. absurd (omega (arith, low)); rest = λ k low. refl };
  last = c.requires.last;
  game = refl;
  order = refl;
  known = c.none-known.ensures (differ_in c.args.seen.now.grid c.args.level.now.grid) (length c.args.seen.now.grid.cells);
}

pub changes-preserved : goal.changes-preserved
changes-preserved c = grind (arith, common_steps, seen_more)

pub follow-last-requires-clause-last : goal.follow-last-requires-clause-last
follow-last-requires-clause-last c =
    let texts = c.changes.self.table.texts in
    let more = c.texts.result.now in
    let n = c.in_ok-number.number in
    let cells = c.changes.self.cells in
    let all = map (text_at more) c.labels.result.now in
    let now : all ≡ c.look.new.self.cells = ap (λ (l : List (List ℕ)). map (text_at l) c.labels.result.now) c.texts.ensures ∙ c.labels.ensures.cells in
    last_before texts more cells all c.changes.room n
    (subst (λ (l : List (List ℕ)). take (length texts) l ≡ texts) (sym c.texts.ensures) c.look.ensures.kept)
    (subst (IsSameBut n (n + 1) cells) (sym now) c.in_ok-number.ensures.changed)
    c.changes.last c.changes.invariant.last

pub returns-clause-cells : goal.returns-clause-cells
returns-clause-cells c =
    all_seen c.args.self.now.table.game c.args.self.now.order c.args.seen.now.grid c.args.level.now.grid c.changes.from c.changes.self.cells c.requires.size c.next_change_after.ensures.lawful c.width.ensures.lawful c.in_default.ensures.next c.changes.invariant.seen
