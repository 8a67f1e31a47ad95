use Rattle.std.proofs.Common.{◌≡◌, ℕ, ap, sym, ◌∙◌}
use Rattle.std.proofs.lemmas.Result.{IfOk-weaker}
unfoldable use Rattle.pz_session.specs.Board.{first_link}
use Rattle.pz_session.specs.Session.{ticks_after}
use Rattle.pz_steps.specs.Chains.{chain_after, leaving, left_by}
use Rattle.pz_steps.specs.Steps.{chain_of, settled_after, settled_in}
use Rattle.pz_steps.proofs.Stepping.{chain_follows}
use Rattle.pz_steps.proofs.chains.play.Goals as goal

pub returns-in-Some : goal.returns-in-Some
returns-in-Some c =
    let state = c.begin.new.board in
    let more = c.in-Some.more in
    let left = c.in_ok-more.ensures ∙ ap (leaving state) c.in-Some.is in
    let follows = chain_follows (ticks_after c.args.input) (first_link c.args.input c.args.board.now) state more left in
    let number = ap (λ (n : ℕ). settled_in (chain_after more n state)) (sym c.ticks_after.ensures) in
    IfOk-weaker c.finish.result (λ whole. settled_in (chain_after more c.ticks_after.result state) ≡ left_by whole c.finish.new.board) (λ whole. settled_after (chain_of c.args.input c.args.board.now) ≡ left_by whole c.finish.new.board) (λ whole is. follows ∙ number ∙ is) c.finish.ensures
