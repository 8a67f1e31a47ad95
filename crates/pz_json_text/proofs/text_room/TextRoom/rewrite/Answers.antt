use Rattle.std.proofs.Common.{List, ℕ, map, sym, subst}
use Rattle.pz_json_text.specs.Labels.{text_at}
use Rattle.pz_json_text.specs.Written.{IsWhole, HasTextOf}
use Rattle.pz_json_text.proofs.Drafts.{all_same, room_whole, room_sound}
use Rattle.pz_json_text.proofs.text_room.TextRoom.rewrite.Goals as goal

pub returns-then-changed-clause-written : goal.returns-then-changed-clause-written
returns-then-changed-clause-written c =
    let last = c.requires.last in
    subst (λ (cells : List (List ℕ)). HasTextOf c.args.width cells c.args.texts.now c.args.self.now) (all_same c.args.changed.first c.args.changed.end last.before (map (text_at c.args.texts.now) c.args.labels.now) last.same c.if-changed.true) last.text

pub invariant_of-self-2 : goal.invariant_of-self-2
invariant_of-self-2 c =
    let all = map (text_at c.args.texts.now) c.args.labels.now in
    room_sound c.args.width all c.args.texts.now c.swap.new.x (subst (IsWhole c.args.width all c.args.texts.now) (sym c.swap.ensures.x_after) c.in_ok-write_after.ensures)

pub returns-clause-written : goal.returns-clause-written
returns-clause-written c =
    let all = map (text_at c.args.texts.now) c.args.labels.now in
    room_whole c.args.width all c.args.texts.now c.swap.new.x (subst (IsWhole c.args.width all c.args.texts.now) (sym c.swap.ensures.x_after) c.in_ok-write_after.ensures)
