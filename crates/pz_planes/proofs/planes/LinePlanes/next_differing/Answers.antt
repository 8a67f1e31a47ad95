use Rattle.std.proofs.Common.{◌-◌, ◌*◌, arith}
use Rattle.std.proofs.lemmas.Bool.{cases_lt}
use Rattle.std.proofs.lemmas.Nat.{div-mul-add, mod-mul-add, mul-add-lt}
use Rattle.pz_planes.proofs.DifferingLemmas.{same_to, differ_there}
use Rattle.pz_planes.proofs.planes.LinePlanes.next_differing.Goals as goal

pub returns-in-Some : goal.returns-in-Some
returns-in-Some c =
    let line = c.loop-line.line in
    let found = c.in-Some.ensures in
    let start = c.saturating_sub-start.ensures in (
      (
        omega (arith, found.0, start),
        grind (arith, mul-add-lt line c.args.long c.in-Some.at c.args.self.now.count, c.self.view_is, c.loop-line-test.true, found.1),
        differ_there c.args.self.now c.args.other.now c.args.long line c.differing-places.result c.requires.short c.differing-places.ensures c.in-Some.at found.1 found.2,
        same_to c.args.self.now c.args.other.now c.args.long line c.differing-places.result c.requires.short c.differing-places.ensures c.args.from c.saturating_sub-start.result c.in-Some.at start (omega (arith, found.1)) found.3 c.loop-line.invariant,
      ),
      grind (arith, div-mul-add line c.args.long c.in-Some.at found.1),
      c.differing-places.ensures,
    )

pub loop-line-preserved : goal.loop-line-preserved
loop-line-preserved c number above below =
    same_to c.args.self.now c.args.other.now c.args.long c.loop-line.line c.differing-places.result c.requires.short c.differing-places.ensures c.args.from c.saturating_sub-start.result c.args.long c.saturating_sub-start.ensures (omega arith) c.in_default.ensures c.loop-line.invariant number above (omega (arith, below))

pub loop-line-preserved-then-is_same_in : goal.loop-line-preserved-then-is_same_in
loop-line-preserved-then-is_same_in c number above below object known =
    let start = c.loop-line.line * c.args.long in
    let at = number - start in
    grind (arith, cases_lt number start, c.loop-line.invariant number above, c.is_same_in.ensures c.if-is_same_in.true at, div-mul-add c.loop-line.line c.args.long at, mod-mul-add c.loop-line.line c.args.long at)
