use Rattle.std.proofs.Common.{◌≡◌, map, take}
use Rattle.std.specs.List.{list_all}
use Rattle.pz_case.specs.Playing.{shown_by}
use Rattle.pz_lines.specs.Lines.{lines_from, recording_lines}
use Rattle.pz_session.specs.Case.{items_of}
use Rattle.pz_engine.specs.Sessions.{has_passed}
use Rattle.pz_engine.proofs.engine.play.Given as goal

abbrev pub invariant-loop-number : goal.invariant-loop-number
invariant-loop-number l = record {
  written : l.lines.items ≡ recording_lines (lines_from l.from) 0 (take l.number (map (shown_by items_of) l.job));
  told : l.passed ≡ list_all has_passed (take l.number (map (shown_by items_of) l.job));
}
