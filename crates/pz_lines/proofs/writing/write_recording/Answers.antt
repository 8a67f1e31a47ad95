use Rattle.std.proofs.Common.{◌+◌, suc, drop}
use Rattle.pz_lines.specs.Lines.{lines_of, recording_lines, text_of}
use Rattle.pz_lines.proofs.Cut.{sessions_cut, sessions_more}
use Rattle.pz_lines.proofs.Sent.{ended_for, part_behind, part_is, sent_more}
use Rattle.pz_lines.proofs.writing.write_recording.Goals as goal

pub returns-in-Err-clause-err : goal.returns-in-Err-clause-err
unfolding text_of
returns-in-Err-clause-err g c =
    let records = c.args.recording.now in
    let session = c.loop-session.session in
    let cut = sessions_cut lines_of records c.records-shown-items.result.now session c.shown-item.result c.records-shown-items.ensures c.loop-session-test.true c.shown-item.is in
    ended_for _ _ _ _ (part_is _ _ _ _ _ _ _ cut (part_behind _ (lines_of session c.shown-item.result) (recording_lines lines_of (suc session) (drop (session + 1) records)) _ _ _ _ _ _ _ c.loop-session.invariant c.in-Err.ensures.err))

pub loop-session-preserved : goal.loop-session-preserved
loop-session-preserved g c =
    let more = sessions_more lines_of c.args.recording.now c.records-shown-items.result.now c.loop-session.session c.shown-item.result c.records-shown-items.ensures c.loop-session-test.true c.shown-item.is in
    rw more (sent_more _ _ _ _ _ _ _ _ c.loop-session.invariant c.in_default.ensures.ok)
