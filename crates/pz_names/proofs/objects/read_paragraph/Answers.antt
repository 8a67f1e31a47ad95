use Rattle.std.proofs.Common.{◌≡◌, true, refl, sym, ◌∙◌}
use Rattle.pz_names.specs.Objects.{is_blank}
use Rattle.pz_names.proofs.objects.read_paragraph.Goals as goal

pub returns-then-is_blank : goal.returns-then-is_blank
returns-then-is_blank c =
    let blank : is_blank c.args.line.now ≡ true = sym c.is_blank.ensures ∙ c.if-is_blank.true in
    λ n. rw blank refl
