use Rattle.std.proofs.lemmas.Result.{IfErr-weaker}
use Rattle.pz_rules.specs.Drafts.{program_of}
use Rattle.pz_rules.proofs.FaultLines.{program_of-lined, program_of-apart}
use Rattle.pz_rules.proofs.Ownership.{program_of-owned}
use Rattle.pz_rules.proofs.expanding.expand.Goals as goal

pub returns-clause-owned : goal.returns-clause-owned
returns-clause-owned c = rw c.in_ok-read_program.ensures (program_of-owned c.args.game.now c.layers-layers.ensures.game)

pub returns-clause-whole : goal.returns-clause-whole
returns-clause-whole c =
    rw c.in_ok-read_program.ensures (IfErr-weaker (program_of c.args.game.now) _ _ (λ fault apart memory. absurd (apart memory)) (program_of-apart c.args.game.now))

pub returns-clause-lined : goal.returns-clause-lined
returns-clause-lined c =
    rw c.in_ok-read_program.ensures (IfErr-weaker (program_of c.args.game.now) _ _ (λ fault named other. named) (program_of-lined c.args.game.now))
