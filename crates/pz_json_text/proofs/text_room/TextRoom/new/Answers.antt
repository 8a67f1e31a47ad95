use Rattle.std.proofs.Common.{[], arith, ap, take}
use Rattle.pz_json_text.proofs.Quoting.{room_says}
use Rattle.pz_json_text.proofs.text_room.TextRoom.new.Goals as goal

pub invariant_of-result : goal.invariant_of-result
invariant_of-result c = (omega (arith, c.new.ensures.end), (room_says (take c.new.result.at.end c.new.result.json.items) [] (ap (λ n. take n c.new.result.json.items) c.new.ensures.end)).0)

pub returns : goal.returns
returns c =
    let says = (room_says (take c.new.result.at.end c.new.result.json.items) [] (ap (λ n. take n c.new.result.json.items) c.new.ensures.end)).1 in
    λ i. record { text = says i; firsts = c.new.ensures.firsts i; marks = c.new.ensures.marks i }
