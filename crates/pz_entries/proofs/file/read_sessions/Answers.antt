use Rattle.std.proofs.Common.{◌<◌, ◌≤◌, ◌∙◌, length, sym, rules, arith}
use Rattle.std.proofs.lemmas.Result.{IfErr-weaker}
use Rattle.serde_json.specs.View.{view as data_of}
use Rattle.pz_entries.specs.File.{entries_of}
use Rattle.pz_entries.proofs.Entries.{too_long, not_read, no_list, too_many, listed_so, seen_ok, seen_err}
use Rattle.pz_entries.proofs.file.read_sessions.Goals as goal

pub returns-then-text-gt-MOST_BYTES-clause-refused : goal.returns-then-text-gt-MOST_BYTES-clause-refused
returns-then-text-gt-MOST_BYTES-clause-refused c other = too_long c.args.text.now (omega arith)

pub returns-in-Err-2-clause-refused : goal.returns-in-Err-2-clause-refused
returns-in-Err-2-clause-refused c other = not_read c.args.text.now (omega arith) (search rules)

pub returns-in_default-clause-refused : goal.returns-in_default-clause-refused
returns-in_default-clause-refused c other = no_list c.args.text.now (data_of c.in-Ok.value) (omega arith) c.in-Ok.ensures.ok (search rules)

pub returns-then-len-gt-MOST_ENTRIES-clause-refused : goal.returns-then-len-gt-MOST_ENTRIES-clause-refused
returns-then-len-gt-MOST_ENTRIES-clause-refused c other =
    let many : 65536 < length c.in-Some.list.now.items = omega (arith, c.len.ensures, c.if-len-gt-MOST_ENTRIES.true, c.in-Some.list.now.ok.0) in
    too_many c.args.text.now (data_of c.in-Ok.value) c.in-Some.list.now.items (omega arith) c.in-Ok.ensures.ok (search rules) many

pub returns-clause-read : goal.returns-clause-read
returns-clause-read c =
    let few : length c.deref.result.now ≤ 65536 = search rules in
    let is = listed_so c.args.text.now (data_of c.in-Ok.value) c.deref.result.now (omega arith) c.in-Ok.ensures.ok (search rules) few in
    seen_ok _ c.in_ok-read_entries.field-0 (entries_of c.args.text.now) (c.in_ok-read_entries.ensures.read ∙ sym is)

pub returns-clause-refused : goal.returns-clause-refused
returns-clause-refused c =
    let few : length c.deref.result.now ≤ 65536 = search rules in
    let is = listed_so c.args.text.now (data_of c.in-Ok.value) c.deref.result.now (omega arith) c.in-Ok.ensures.ok (search rules) few in
    IfErr-weaker c.in_ok-read_entries.field-0 _ _ (λ fault h other. h) (seen_err _ c.in_ok-read_entries.field-0 (entries_of c.args.text.now) (c.in_ok-read_entries.ensures.read ∙ sym is))
