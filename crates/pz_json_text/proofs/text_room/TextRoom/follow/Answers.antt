use Rattle.std.proofs.Common.{ℕ, ◌+◌, ◌<◌, ◌≡◌, List, length, map, get_or, set, take_all, ap, sym, subst, ◌∙◌, arith}
use Rattle.std.proofs.lemmas.List.{length-map}
use Rattle.pz_json_text.specs.Labels.{text_at}
use Rattle.pz_json_text.specs.Written.{HasTextOf, RoomView, room_of}
use Rattle.pz_json_text.proofs.Changes.{changed_again}
use Rattle.pz_json_text.proofs.Drafts.{room_sound, room_whole, whole_room}
use Rattle.pz_json_text.proofs.Patching.{text_follows}
use Rattle.pz_json_text.proofs.WrittenCells.{labelled}
use Rattle.pz_json_text.proofs.text_room.TextRoom.follow.Goals as goal

pub invariant_of-self : goal.invariant_of-self
invariant_of-self c =
    let texts = c.args.texts.now in
    let has = c.requires.last.1 in
    let one = c.requires.last.2 in
    let text = text_at texts (get_or c.args.labels.now c.args.cell 0) in
    let whole = whole_room c.args.width has.before texts c.self.inside.last c.self.invariant.0 c.self.invariant.1 (subst (λ (room : RoomView). HasTextOf c.args.width has.before texts room) (sym c.self.view_is) has.text) in
    let within : c.args.cell < length has.before = omega (arith, one.within, one.count, has.same.count) in
    room_sound c.args.width (set has.before c.args.cell text) texts c.patch.new.draft (c.patch.ensures.patched c.if-patch.true has.before whole within)

pub returns-then-patch : goal.returns-then-patch
returns-then-patch c =
    let texts = c.args.texts.now in
    let labels = c.args.labels.now in
    let all = map (text_at texts) labels in
    let cell = c.args.cell in
    let has = c.requires.last.1 in
    let one = c.requires.last.2 in
    let text = text_at texts (get_or labels cell 0) in
    let new = c.patch.new.draft in
    let whole = whole_room c.args.width has.before texts c.self.inside.last c.self.invariant.0 c.self.invariant.1 (subst (λ (room : RoomView). HasTextOf c.args.width has.before texts room) (sym c.self.view_is) has.text) in
    let within : cell < length has.before = omega (arith, one.within, one.count, has.same.count) in
    let here : cell < length labels = omega (arith, one.within, length-map labels (text_at texts)) in
    let patched = room_whole c.args.width (set has.before cell text) texts new (c.patch.ensures.patched c.if-patch.true has.before whole within) in
    text_follows c.args.width c.args.changed.first c.args.changed.end cell c.requires.last.0 all texts c.args.self.now (room_of new) has one
    (subst (λ (t : List ℕ). HasTextOf c.args.width (set has.before cell t) texts (room_of new)) (sym (labelled texts labels cell here c.requires.within).2) patched)

pub returns : goal.returns
returns c =
    let texts = c.args.texts.now in
    let all = map (text_at texts) c.args.labels.now in
    let has = c.requires.last.1 in
    let more = changed_again c.args.width c.args.changed.first c.args.changed.end c.args.cell (c.args.cell + 1) c.requires.last.0 all texts texts c.args.self.now has (take_all (length texts) texts (omega arith)) c.requires.last.2 in
    let same : room_of c.patch.new.draft ≡ c.args.self.now = ap room_of (c.patch.ensures.kept c.if-patch.false) ∙ c.self.view_is in
    rw (c.and.ensures.first, c.and.ensures.end, same) more
