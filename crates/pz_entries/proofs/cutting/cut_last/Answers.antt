use Rattle.std.proofs.Common.{◌≡◌, ◌<◌, ◌+◌, ◌-◌, length, drop, take, None, sym, arith}
use Rattle.std.proofs.lemmas.List.{take_all, length-drop}
use Rattle.pz_entries.specs.Reading.{cut_last}
use Rattle.pz_entries.proofs.Cuts.{cut_at}
use Rattle.pz_entries.proofs.cutting.cut_last.Goals as goal

pub returns-then-text-end-eq58 : goal.returns-then-text-end-eq58
returns-then-text-end-eq58 c =
    let text = c.args.text.now in
    let k = c.loop-end.end - 1 in
    let same : k + 1 ≡ c.loop-end.end = omega arith in
    let within : k < length text = omega arith in
    let behind : take (length text - (k + 1)) (drop (k + 1) text) ≡ drop (k + 1) text = take_all (length text - (k + 1)) (drop (k + 1) text) (omega (arith, length-drop (k + 1) text)) in
    let none : cut_last (drop (k + 1) text) ≡ None = rw same c.loop-end.invariant.none in
    rw behind (sym (cut_at text k within c.if-text-end-eq58.true none))
