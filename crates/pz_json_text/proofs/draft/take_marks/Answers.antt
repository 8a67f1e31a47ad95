use Rattle.std.proofs.Common.{ℕ, ◌++◌, List, map, ap, sym, ◌∙◌}
use Rattle.pz_json_text.specs.declared.written.Written.{Written}
use Rattle.pz_json_text.specs.Written.{with_shifted_end}
use Rattle.pz_json_text.proofs.Drafts.{unmoved}
use Rattle.pz_json_text.proofs.draft.take_marks.Goals as goal

pub returns-then-from-to : goal.returns-then-from-to
returns-then-from-to c =
    let rest = c.args.rest.now in
    c.in_ok-extend_from_slice.ensures.items
    ∙ ap (λ (l : List Written). c.args.marks.now.items ++ l) (sym (unmoved c.args.from rest c.requires.ends) ∙ ap (λ (n : ℕ). map (with_shifted_end c.args.from n) rest) c.if-from-to.true)
