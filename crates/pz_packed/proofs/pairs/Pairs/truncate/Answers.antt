use Rattle.std.proofs.Common.{◌≤◌, ◌-◌, ◌≡◌, ℕ, List, length, Some, subst, sym}
use Rattle.std.specs.Prelude.{slice_get}
use Rattle.pz_packed.proofs.PairedLemmas.{take_even, take_odd}
use Rattle.pz_packed.proofs.pairs.Pairs.truncate.Goals as goal
use Rattle.pz_packed.proofs.pairs.Pairs.truncate.Goals.{then-len-eq0, else-len-eq0}

pub returns : goal.returns
returns c =
    let bytes = c.self-2.inside.bytes.items in
    let odd = c.self-2.inside.odd in
    let low = subst (λ (all : List ℕ). c.args.len ≤ length all) (sym c.self-2.view_is) c.requires in
    elim c.if-len-eq0.branch [
      | then-len-eq0 w ↦ rw (c.truncate.ensures.items, w.odd-is, ← c.self-2.view_is) (take_even bytes odd c.args.len low w.if-len-eq0.true)
      | else-len-eq0 w ↦
          let there = subst (λ (all : List ℕ). slice_get all (c.args.len - 1) ≡ Some w.get.result) (sym c.self-2.view_is) w.get.ensures.number in
          rw (c.truncate.ensures.items, w.odd-is, ← c.self-2.view_is) (take_odd bytes odd c.args.len w.get.result low w.if-len-eq0.false there)
    ]
