use Rattle.std.proofs.Common.{rules, ◌≡◌, ◌<◌, ◌≤◌, ◌++◌, List, length, sym, subst, arith}
use Rattle.std.specs.Prelude.{take}
use Rattle.std.specs.List.{slice_range}
use Rattle.pz_record.specs.declared.input.Input.{Input}
use Rattle.pz_open.specs.Kept.{IsStanding}
use Rattle.pz_open.specs.Places.{IsPlace}
use Rattle.pz_open.proofs.Keeps.{first_to}
use Rattle.pz_open.proofs.opened.play_on.Goals as goal

pub stages-preserved : goal.stages-preserved
stages-preserved c =
    let plan = c.args.plan.now in let inputs = c.args.inputs.now in let taken = c.stages.taken in let next = c.next_worth_keeping-next.result in
    let low : next ≤ c.args.count = search rules in
    let further : taken < next = search rules in
    let all = c.requires.within in
    let here : taken ≤ next = grind (arith, further) in
    let before = c.stages.invariant.1 in
    let there : IsPlace plan (take next inputs) c.in_ok-further.further =
    subst (λ (first : List Input). IsPlace plan first c.in_ok-further.further) (first_to inputs taken next here) (c.in_ok-further.ensures.place (take taken inputs) before.there) in
    let stands : IsStanding plan (take next inputs) c.in_ok-further.further = record { there = there; can = c.in_ok-further.ensures.go_on } in
    (low, stands, c.keep.ensures plan inputs (record { within = grind (arith, low, all); standing = stands }) c.stages.invariant.2)
