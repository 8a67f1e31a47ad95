use Rattle.std.proofs.Common.{◌≡◌, true, false, sym, ap, ◌∙◌, rules, arith}
use Rattle.std.specs.Str.{drop_trailing_whitespace}
use Rattle.std.specs.Char.{is_whitespace}
use Rattle.pz_text.proofs.TextLemmas.{drop_trailing-push_white, drop_trailing-push_other}
use Rattle.pz_text.proofs.characters.trimmed.Goals as goal

pub loop-last-preserved : goal.loop-last-preserved
loop-last-preserved c = (
  let white : is_whitespace c.in-Some.last.now ≡ true = search rules in
      let parts = c.in-Some.ensures.cases.0 in
      sym (drop_trailing-push_white c.in-Some.others.now c.in-Some.last.now white) ∙ (ap drop_trailing_whitespace (sym parts) ∙ c.loop-last.invariant.0),
  omega (arith, c.in-Some.ensures.cases.1),
)

pub returns-then-not-is_whitespace-2-clause-value : goal.returns-then-not-is_whitespace-2-clause-value
returns-then-not-is_whitespace-2-clause-value c =
    let other : is_whitespace c.in-Some.last.now ≡ false = search rules in
    let parts = c.in-Some.ensures.cases.0 in
    parts ∙ (sym (drop_trailing-push_other c.in-Some.others.now c.in-Some.last.now other) ∙ (ap drop_trailing_whitespace (sym parts) ∙ c.loop-last.invariant.0))
