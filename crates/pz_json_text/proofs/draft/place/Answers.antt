use Rattle.std.proofs.Common.{arith}
use Rattle.pz_json_text.proofs.Patching.{stands_in}
use Rattle.pz_json_text.proofs.draft.place.Goals as goal

pub overflow_mul-result : goal.overflow_mul-result
overflow_mul-result c =
    let all = c.requires.whole.0 in
    let texts = c.requires.whole.1 in
    let whole = c.requires.whole.2 in
    let stands = stands_in c.args.width all texts c.args.draft.now c.requires.wide whole c.args.cell c.requires.whole.3 c.index-mark.result.now c.index-mark.ensures c.known_behind-known.result (c.known_behind-known.ensures c.args.width all texts whole) c.if-known-mark.false c.if-known-gt10.false in
    omega (arith, stands.small, whole.within, c.ranges)

pub overflow_add-result-2 : goal.overflow_add-result-2
overflow_add-result-2 c =
    let all = c.requires.whole.0 in
    let texts = c.requires.whole.1 in
    let whole = c.requires.whole.2 in
    let stands = stands_in c.args.width all texts c.args.draft.now c.requires.wide whole c.args.cell c.requires.whole.3 c.index-mark.result.now c.index-mark.ensures c.known_behind-known.result (c.known_behind-known.ensures c.args.width all texts whole) c.if-known-mark.false c.if-known-gt10.false in
    omega (arith, stands.small, whole.within, c.ranges)

pub returns : goal.returns
returns c all texts whole within =
    (stands_in c.args.width all texts c.args.draft.now c.requires.wide whole c.args.cell within c.index-mark.result.now c.index-mark.ensures c.known_behind-known.result (c.known_behind-known.ensures c.args.width all texts whole) c.if-known-mark.false c.if-known-gt10.false).digit
