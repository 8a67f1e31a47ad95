use Rattle.std.proofs.Common.{◌≡◌, ◌≤◌, ◌+◌, ◌++◌, [], length, true}
use Rattle.pz_text.specs.Comment.{outside, depth_after}
use Rattle.pz_text.proofs.comment.outside.Given as goal

abbrev pub invariant-loop-c : goal.invariant-loop-c
invariant-loop-c l = record {
  left : l.text.items ++ outside l.section l.cursor.is_first l.cursor.word.items l.depth l.rest ≡ outside l.section true [] l.opened l.line;
  deep : depth_after l.section l.cursor.is_first l.cursor.word.items l.depth l.rest ≡ depth_after l.section true [] l.opened l.line;
  bound : l.depth + length l.rest ≤ l.opened + length l.line;
}

abbrev pub decreases-loop-c : goal.decreases-loop-c
decreases-loop-c l = length l.rest
