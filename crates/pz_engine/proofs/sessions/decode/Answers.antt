use Rattle.std.proofs.Common.{◌≡◌, ap, ◌∙◌, sym, arith}
use Rattle.pz_entries.specs.File.{entries_of}
use Rattle.pz_engine.specs.Sessions.{sessions_in}
use Rattle.pz_engine.proofs.Deciding.{not_text, text_in, too_long}
use Rattle.pz_engine.proofs.sessions.decode.Goals as goal

pub returns-then-bytes-gt-MOST_BYTES-clause-refused : goal.returns-then-bytes-gt-MOST_BYTES-clause-refused
returns-then-bytes-gt-MOST_BYTES-clause-refused c = λ other. too_long c.args.bytes.now (omega arith)

pub returns-in_default-clause-refused : goal.returns-in_default-clause-refused
returns-in_default-clause-refused c = λ other. not_text c.args.bytes.now (omega arith) c.in_default.ensures.cases.0

pub returns-clause-read : goal.returns-clause-read
returns-clause-read c =
    let text = c.in-Ok.ensures.cases in
    let here : sessions_in c.args.bytes.now ≡ entries_of c.in-Ok.text.now = text_in c.args.bytes.now (omega arith) text.1 ∙ ap entries_of (sym text.0) in
    rw here c.read_sessions.ensures.read

pub returns-clause-refused : goal.returns-clause-refused
returns-clause-refused c =
    let text = c.in-Ok.ensures.cases in
    let here : sessions_in c.args.bytes.now ≡ entries_of c.in-Ok.text.now = text_in c.args.bytes.now (omega arith) text.1 ∙ ap entries_of (sym text.0) in
    rw here c.read_sessions.ensures.refused
