use Rattle.pz_console.proofs.Reported.{first_cut, second_cut, third_cut, all_written, of_fault}
use Rattle.pz_console.proofs.failure.write_parts.Goals as goal

pub returns-in_err-write_whole-clause-cut : goal.returns-in_err-write_whole-clause-cut
returns-in_err-write_whole-clause-cut g c =
    let cut = rw c.as_bytes.ensures.value at c.in_err-write_whole.ensures.err in
    let within = rw c.as_bytes.ensures.value at c.in_err-write_whole.ensures.within in
    of_fault _ _ (first_cut c.args.first.now c.args.second.now c.args.third.now _ _ _ _ within cut)

pub returns-in_err-write_whole-2-clause-cut : goal.returns-in_err-write_whole-2-clause-cut
returns-in_err-write_whole-2-clause-cut g c =
    let first = rw c.as_bytes.ensures.value at c.in_ok-write_whole.ensures.ok in
    let cut = rw c.as_bytes-2.ensures.value at c.in_err-write_whole-2.ensures.err in
    let within = rw c.as_bytes-2.ensures.value at c.in_err-write_whole-2.ensures.within in
    of_fault _ _ (second_cut c.args.first.now c.args.second.now c.args.third.now _ _ _ _ _ within first cut)

pub returns-clause-whole : goal.returns-clause-whole
returns-clause-whole g c =
    let first = rw c.as_bytes.ensures.value at c.in_ok-write_whole.ensures.ok in
    let second = rw c.as_bytes-2.ensures.value at c.in_ok-write_whole-2.ensures.ok in
    let whole = rw c.as_bytes-3.ensures.value at c.write_whole-3.ensures.ok in
    all_written c.write_whole-3.result c.args.first.now c.args.second.now c.args.third.now _ _ _ _ first second whole

pub returns-clause-cut : goal.returns-clause-cut
returns-clause-cut g c =
    let first = rw c.as_bytes.ensures.value at c.in_ok-write_whole.ensures.ok in
    let second = rw c.as_bytes-2.ensures.value at c.in_ok-write_whole-2.ensures.ok in
    let within = rw c.as_bytes-3.ensures.value at c.write_whole-3.ensures.within in
    let cut = rw c.as_bytes-3.ensures.value at c.write_whole-3.ensures.err in
    third_cut c.write_whole-3.result c.args.first.now c.args.second.now c.args.third.now _ _ _ _ first second within cut
