use Rattle.std.proofs.Common.{take}
use Rattle.pz_lines.specs.Lines.{lines_of, recording_lines}
use Rattle.pz_lines.specs.Writing.{IsSent}
use Rattle.pz_lines.proofs.writing.write_recording.Given as goal

abbrev pub invariant-loop-session : goal.invariant-loop-session
invariant-loop-session g l = IsSent (recording_lines lines_of 0 (take l.session l.recording)) 0 l.written l.fn.output l.output
