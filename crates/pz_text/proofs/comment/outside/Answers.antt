use Rattle.std.proofs.Common.{◌≡◌, ◌==◌, false, sym, ◌∙◌, rules, arith, append_assoc}
use Rattle.pz_text.specs.Comment.{is_plain_from}
use Rattle.pz_text.proofs.TextLemmas.{outside-kept, depth_after-kept}
use Rattle.pz_text.proofs.comment.outside.Goals as goal

pub loop-c-preserved : goal.loop-c-preserved
loop-c-preserved c =
    let x = c.in-Some.c.now in
    let cs = c.in-Some.others.now in
    let s = c.args.section in
    let first = c.loop-c.cursor.is_first in
    let word = c.loop-c.cursor.word.items in
    let parts = c.in-Some.ensures.cases in
    let none : c.loop-c.depth ≡ 0 = omega arith in
    let other : (x == 40) ≡ false = search rules in
    let kept : is_plain_from s first word x ≡ false = sym c.is_plain_from.ensures ∙ c.if-is_plain_from.false in
    let left = rw parts.0 at c.loop-c.invariant.left in
    let deep = rw parts.0 at c.loop-c.invariant.deep in
    record {
      left = rw (c.in_ok-pass.ensures.word, c.in_ok-pass.ensures.first, c.in_ok-push.ensures.items) (rw append_assoc (rw (sym (outside-kept s first word c.loop-c.depth x cs none other kept)) left));
      deep = rw (c.in_ok-pass.ensures.word, c.in_ok-pass.ensures.first) (rw (sym (depth_after-kept s first word c.loop-c.depth x cs none other kept)) deep);
      bound = omega arith;
    }
