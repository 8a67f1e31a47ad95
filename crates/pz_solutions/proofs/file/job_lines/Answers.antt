use Rattle.std.proofs.Common.{rules, ◌≡◌, ◌≤◌, ◌<◌, ◌+◌, ◌++◌, length, List, ℕ, subst, sym, arith}
use Rattle.std.specs.Prelude.{take}
use Rattle.pz_solutions.specs.File.{AreLinesOf}
use Rattle.pz_solutions.proofs.Lines.{all_lines, one_more}
use Rattle.pz_solutions.proofs.file.job_lines.Goals as goal

pub loop-number-preserved : goal.loop-number-preserved
loop-number-preserved c =
    let job = c.args.job.now in
    let number = c.loop-number.number in
    let within : number < length job = omega (arith, c.loop-number-test.true, c.len-number-end.ensures.count) in
    let more : c.extend_from_slice.new.self.items ≡ c.loop-number.lines.items ++ c.in_ok-line.line.items = search rules in
    subst (λ (lines : List ℕ). AreLinesOf c.args.bounds 0 (take (number + 1) job) lines) (sym more)
    (one_more c.args.bounds job number c.case.result.now c.loop-number.lines.items c.in_ok-line.line.items within c.case.ensures c.loop-number.invariant c.in_ok-line.ensures)

pub returns : goal.returns
returns c =
    let over : length c.args.job.now ≤ c.loop-number.number = omega (arith, c.loop-number-test.false, c.len-number-end.ensures.count) in
    all_lines c.args.bounds c.args.job.now c.loop-number.number c.loop-number.lines.items over c.loop-number.invariant
