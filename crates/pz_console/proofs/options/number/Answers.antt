use Rattle.std.proofs.Common.{◌∙◌, ap, arith, Some}
use Rattle.pz_console.proofs.Numbers.{spelled, unspelled}
use Rattle.pz_console.proofs.options.number.Goals as goal

pub returns-clause-value : goal.returns-clause-value
returns-clause-value c =
    let is = c.in-Ok.ensures.value.0 in
    ap Some is.1 ∙ spelled c.args.text.now (is.0.0, is.0.1, omega arith, omega arith)

pub returns-in_default-clause-value : goal.returns-in_default-clause-value
returns-in_default-clause-value c = unspelled c.args.text.now (λ h. c.in_default.ensures.value.0 (h.0, h.1))
