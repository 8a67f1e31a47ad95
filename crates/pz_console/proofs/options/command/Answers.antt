use Rattle.std.proofs.Common.{rules, ◌≡◌, ◌∙◌, ap₂, codes}
use Rattle.std.proofs.lemmas.Result.{IfOk-weaker}
use Rattle.clap.specs.Words.{app_of, new_app, new_rule, rule_of, with_rule}
use Rattle.pz_console.specs.Options.{workers_rule, order_rule}
use Rattle.pz_console.proofs.options.command.Goals as goal

pub returns : goal.returns
returns c =
    let workers_is : rule_of c.value_parser-workers.result ≡ workers_rule = search rules in
    let order_is : rule_of c.long-2.result ≡ order_rule = search rules in
    let file_is : rule_of c.new-4.result ≡ new_rule (codes "file") = search rules in
    let first : app_of c.in_ok-arg.field-0 ≡ with_rule (new_app (codes "pz_replayer")) workers_rule = c.in_ok-arg.ensures.shape (search rules) ∙ ap₂ with_rule c.new-2.ensures.app workers_is in
    let second : app_of c.in_ok-arg-2.field-0 ≡ with_rule (with_rule (new_app (codes "pz_replayer")) workers_rule) order_rule = c.in_ok-arg-2.ensures.shape (search rules) ∙ ap₂ with_rule first order_is in
    IfOk-weaker c.arg-3.result _ _ (λ x h. h.shape (search rules) ∙ ap₂ with_rule second file_is) c.arg-3.ensures
