use Rattle.std.proofs.Common.{◌≡◌, ap, ◌∙◌}
use Rattle.std.specs.Prelude.{Ok, Err}
use Rattle.std.proofs.lemmas.Result.{err_from_is_err_and}
use Rattle.pz_base.specs.Fault.{and_then}
use Rattle.pz_text.specs.Check.{lines_of}
use Rattle.pz_source.specs.Reading.{source_of, game_of_lines}
use Rattle.pz_source.proofs.FaultLines.{given-game, given-fault, given-memory, given-line}
use Rattle.pz_source.proofs.RuleNumbers.{result-ruled}
use Rattle.pz_source.proofs.reading.read_game.Goals as goal

pub returns-in_err-lines-clause-refused : goal.returns-in_err-lines-clause-refused
unfolding source_of
returns-in_err-lines-clause-refused c =
    let p = err_from_is_err_and c.from_residual-in_err-lines.result c.from_residual-in_err-lines.ensures.1 in
    let refused : Err c.in_err-lines.field-0.0 ≡ lines_of c.args.text.now = rw c.in_err-lines.was at c.in_ok-read_lines.ensures.read in
    let given : Err c.in_err-lines.field-0.0 ≡ source_of c.args.text.now = ap (and_then game_of_lines) refused in
    rw (p.1, p.2) (given-fault c.args.text.now (Err c.in_err-lines.field-0.0) given)

pub returns-in_err-lines-clause-whole : goal.returns-in_err-lines-clause-whole
unfolding source_of
returns-in_err-lines-clause-whole c =
    let p = err_from_is_err_and c.from_residual-in_err-lines.result c.from_residual-in_err-lines.ensures.1 in
    let refused : Err c.in_err-lines.field-0.0 ≡ lines_of c.args.text.now = rw c.in_err-lines.was at c.in_ok-read_lines.ensures.read in
    let given : Err c.in_err-lines.field-0.0 ≡ source_of c.args.text.now = ap (and_then game_of_lines) refused in
    rw (p.1, p.2) (given-memory c.args.text.now (Err c.in_err-lines.field-0.0) given)

pub returns-in_err-lines-clause-lined : goal.returns-in_err-lines-clause-lined
unfolding source_of
returns-in_err-lines-clause-lined c =
    let p = err_from_is_err_and c.from_residual-in_err-lines.result c.from_residual-in_err-lines.ensures.1 in
    let refused : Err c.in_err-lines.field-0.0 ≡ lines_of c.args.text.now = rw c.in_err-lines.was at c.in_ok-read_lines.ensures.read in
    let given : Err c.in_err-lines.field-0.0 ≡ source_of c.args.text.now = ap (and_then game_of_lines) refused in
    rw (p.1, p.2) (given-line c.args.text.now (Err c.in_err-lines.field-0.0) given)

pub returns-clause-read : goal.returns-clause-read
unfolding source_of
returns-clause-read c =
    let lines : Ok c.in_ok-lines.lines.items ≡ lines_of c.args.text.now = rw c.in_ok-lines.was at c.in_ok-read_lines.ensures.read in
    let given : c.in_ok-read_game_of_lines.field-0 ≡ source_of c.args.text.now =
    c.in_ok-read_game_of_lines.ensures ∙ (ap game_of_lines c.as_slice.ensures.value ∙ ap (and_then game_of_lines) lines) in
    given-game c.args.text.now c.in_ok-read_game_of_lines.field-0 given

pub returns-clause-refused : goal.returns-clause-refused
unfolding source_of
returns-clause-refused c =
    let lines : Ok c.in_ok-lines.lines.items ≡ lines_of c.args.text.now = rw c.in_ok-lines.was at c.in_ok-read_lines.ensures.read in
    let given : c.in_ok-read_game_of_lines.field-0 ≡ source_of c.args.text.now =
    c.in_ok-read_game_of_lines.ensures ∙ (ap game_of_lines c.as_slice.ensures.value ∙ ap (and_then game_of_lines) lines) in
    given-fault c.args.text.now c.in_ok-read_game_of_lines.field-0 given

pub returns-clause-whole : goal.returns-clause-whole
unfolding source_of
returns-clause-whole c =
    let lines : Ok c.in_ok-lines.lines.items ≡ lines_of c.args.text.now = rw c.in_ok-lines.was at c.in_ok-read_lines.ensures.read in
    let given : c.in_ok-read_game_of_lines.field-0 ≡ source_of c.args.text.now =
    c.in_ok-read_game_of_lines.ensures ∙ (ap game_of_lines c.as_slice.ensures.value ∙ ap (and_then game_of_lines) lines) in
    given-memory c.args.text.now c.in_ok-read_game_of_lines.field-0 given

pub returns-clause-lined : goal.returns-clause-lined
unfolding source_of
returns-clause-lined c =
    let lines : Ok c.in_ok-lines.lines.items ≡ lines_of c.args.text.now = rw c.in_ok-lines.was at c.in_ok-read_lines.ensures.read in
    let given : c.in_ok-read_game_of_lines.field-0 ≡ source_of c.args.text.now =
    c.in_ok-read_game_of_lines.ensures ∙ (ap game_of_lines c.as_slice.ensures.value ∙ ap (and_then game_of_lines) lines) in
    given-line c.args.text.now c.in_ok-read_game_of_lines.field-0 given

pub returns-clause-ruled : goal.returns-clause-ruled
returns-clause-ruled c = result-ruled c.args.text.now c.in_ok-read_game_of_lines.field-0 (returns-clause-read c)
