use Rattle.std.proofs.Common.{◌≡◌, ◌++◌, map}
use Rattle.std.specs.List.{list_any}
use Rattle.pz_serving.specs.AsLines.{lines_of, passed_of}
use Rattle.pz_serving.proofs.as_lines.PlayedJob.take_in.Given as goal

abbrev pub invariant-loop-piece : goal.invariant-loop-piece
invariant-loop-piece l = record {
  texts : l.self.texts.items ≡ l.fn.self.texts.items ++ map lines_of l.yielded;
  told : l.passed ≡ list_any passed_of l.yielded;
  passed : l.self.passed ≡ l.fn.self.passed;
}
