use Rattle.std.proofs.Common.{map, sym, subst}
use Rattle.pz_json_text.specs.Labels.{text_at}
use Rattle.pz_json_text.specs.Written.{IsWhole}
use Rattle.pz_json_text.proofs.Drafts.{room_whole, room_sound}
use Rattle.pz_json_text.proofs.text_room.TextRoom.write.Goals as goal

pub invariant_of-self-2 : goal.invariant_of-self-2
invariant_of-self-2 c =
    let all = map (text_at c.args.texts.now) c.args.labels.now in
    room_sound c.args.width all c.args.texts.now c.swap.new.x (subst (IsWhole c.args.width all c.args.texts.now) (sym c.swap.ensures.x_after) c.in_ok-write_all.ensures)

pub returns-clause-written : goal.returns-clause-written
returns-clause-written c =
    let all = map (text_at c.args.texts.now) c.args.labels.now in
    room_whole c.args.width all c.args.texts.now c.swap.new.x (subst (IsWhole c.args.width all c.args.texts.now) (sym c.swap.ensures.x_after) c.in_ok-write_all.ensures)
