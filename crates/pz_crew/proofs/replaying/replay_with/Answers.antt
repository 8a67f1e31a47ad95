use Rattle.std.proofs.Common.{◌≡◌, refl, sym, ◌∙◌, Ok, Err, arith}
use Rattle.std.proofs.lemmas.Result.{err_from_is_err_and}
use Rattle.pz_crew.specs.declared.fault.ReplayFault.TheVariants.{Memory, Workers, GateClosed, LaneLost}
use Rattle.pz_crew.specs.declared.replaying.TheConstants.{MOST_WORKERS}
use Rattle.pz_crew.proofs.Finishing.{answered, few_or_many, handed_on, no_answer, no_refusal, passed_on, some_made}
use Rattle.pz_crew.proofs.Gating.{all_passed}
use Rattle.pz_crew.proofs.Joining.{not_closed, not_lost, not_workers}
use Rattle.pz_crew.proofs.replaying.replay_with.Goals as goal

pub returns-then-workers-eq0-clause-workers : goal.returns-then-workers-eq0-clause-workers
returns-then-workers-eq0-clause-workers g c = (λ _. few_or_many c.args.workers MOST_WORKERS c.then-workers-eq0.either, λ _. refl)

pub returns-in_default-clause-workers : goal.returns-in_default-clause-workers
returns-in_default-clause-workers g c = no_refusal c.args.workers MOST_WORKERS (Err Memory) c.if-workers-eq0.false c.if-workers-gt-MOST_WORKERS.false (not_workers (Err Memory) refl)

pub returns-in_default-clause-closed : goal.returns-in_default-clause-closed
returns-in_default-clause-closed g c = λ is. absurd (not_closed (Err Memory) refl is)

pub new-requires : goal.new-requires
new-requires g c = c.count-count.ensures.few

pub returns-in_default-new-clause-workers : goal.returns-in_default-new-clause-workers
returns-in_default-new-clause-workers g c = no_refusal c.args.workers MOST_WORKERS (Err Memory) c.if-workers-eq0.false c.if-workers-gt-MOST_WORKERS.false (not_workers (Err Memory) refl)

pub returns-in_default-new-clause-closed : goal.returns-in_default-new-clause-closed
returns-in_default-new-clause-closed g c = λ is. absurd (not_closed (Err Memory) refl is)

pub returns-in_err-maker-clause-workers : goal.returns-in_err-maker-clause-workers
returns-in_err-maker-clause-workers g c =
    let gives = err_from_is_err_and c.from_residual.result c.from_residual.ensures.1 in
    no_refusal c.args.workers MOST_WORKERS c.from_residual.result c.if-workers-eq0.false c.if-workers-gt-MOST_WORKERS.false (passed_on Workers c.in_err-maker.field-0.0 gives.0 c.scoped-all.result c.from_residual.result c.in_err-maker.was gives.1 gives.2 c.scoped-all.ensures.1.3)

pub returns-in_err-maker-clause-sessions : goal.returns-in_err-maker-clause-sessions
returns-in_err-maker-clause-sessions g c = no_answer _ c.from_residual.result c.from_residual.ensures.0

pub returns-in_err-maker-clause-passed : goal.returns-in_err-maker-clause-passed
returns-in_err-maker-clause-passed g c = no_answer _ c.from_residual.result c.from_residual.ensures.0

pub returns-in_err-maker-clause-closed : goal.returns-in_err-maker-clause-closed
returns-in_err-maker-clause-closed g c =
    let gives = err_from_is_err_and c.from_residual.result c.from_residual.ensures.1 in
    λ is. c.scoped-all.ensures.1.2 (handed_on GateClosed c.in_err-maker.field-0.0 gives.0 c.scoped-all.result c.from_residual.result c.in_err-maker.was gives.1 gives.2 is)

pub close-requires-clause-table : goal.close-requires-clause-table
close-requires-clause-table g c = c.in_ok-maker.ensures.1.0.0

pub close-requires-clause-joined : goal.close-requires-clause-joined
close-requires-clause-joined g c = c.in_ok-maker.ensures.1.0.2 ∙ sym c.in_ok-maker.ensures.1.0.1

pub returns-clause-workers : goal.returns-clause-workers
returns-clause-workers g c = no_refusal c.args.workers MOST_WORKERS (Ok c.in_ok-maker.sessions) c.if-workers-eq0.false c.if-workers-gt-MOST_WORKERS.false (answered c.in_ok-maker.sessions Workers)

pub returns-clause-sessions : goal.returns-clause-sessions
returns-clause-sessions g c =
    c.in_ok-maker.ensures.1.0.3 (c.close.ensures.once (some_made c.in_ok-maker.maker.made c.crew_for-started.result c.in_ok-maker.ensures.1.0.1 (λ none. absurd (omega (arith, c.crew_for-started.ensures.some, none)))))

pub returns-clause-passed : goal.returns-clause-passed
returns-clause-passed g c =
    let sessions = g.P.Playable.sessions c.args.played.now in
    let many = c.in-Ok-new.ensures.claims ∙ c.count-count.ensures.count in
    let once = c.close.ensures.once (some_made c.in_ok-maker.maker.made c.crew_for-started.result c.in_ok-maker.ensures.1.0.1 (λ none. absurd (omega (arith, c.crew_for-started.ensures.some, none)))) in
    all_passed (g.G.Gate.may_pass c.args.gate.now) sessions c.in_ok-maker.maker.numbers _ many once c.in_ok-maker.ensures.1.1

pub returns-clause-closed : goal.returns-clause-closed
returns-clause-closed g c = λ is. absurd (answered c.in_ok-maker.sessions GateClosed is)

pub returns-then-workers-eq0-clause-whole : goal.returns-then-workers-eq0-clause-whole
returns-then-workers-eq0-clause-whole g c = λ (is : Err Workers ≡ Err LaneLost). cc

pub returns-in_default-clause-whole : goal.returns-in_default-clause-whole
returns-in_default-clause-whole g c = not_lost (Err Memory) refl

pub returns-in_default-new-clause-whole : goal.returns-in_default-new-clause-whole
returns-in_default-new-clause-whole g c = not_lost (Err Memory) refl

pub returns-in_err-maker-clause-whole : goal.returns-in_err-maker-clause-whole
returns-in_err-maker-clause-whole g c =
    let gives = err_from_is_err_and c.from_residual.result c.from_residual.ensures.1 in
    passed_on LaneLost c.in_err-maker.field-0.0 gives.0 c.scoped-all.result c.from_residual.result c.in_err-maker.was gives.1 gives.2 c.scoped-all.ensures.1.4

pub returns-clause-whole : goal.returns-clause-whole
returns-clause-whole g c = answered c.in_ok-maker.sessions LaneLost
