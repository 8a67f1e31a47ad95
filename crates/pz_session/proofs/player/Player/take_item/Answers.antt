use Rattle.pz_session.proofs.Common.{arith, drop, option_to_list, ◌≡◌, [], ◌∷◌, None, refl, ap, sym, ◌∙◌, items_left}
use Rattle.pz_case.specs.declared.item.Item.TheVariants as item
use Rattle.pz_session.proofs.Leaving.{left-first, left-of_stopped, left-of_over, left-of_closed}
use Rattle.pz_session.proofs.player.Player.take_item.Goals as goal
use Rattle.pz_session.proofs.player.Player.take_item.Goals.{in-Stopped, in-Between}

pub returns-in-Some-clause-item : goal.returns-in-Some-clause-item
returns-in-Some-clause-item c =
    let p = c.args.self.now in
    grind (arith, left-first p.phase p.number c.in-Some.frame (option_to_list p.second) p.taken (drop p.taken p.inputs) p.board)

pub returns-in-Some-take-clause-item : goal.returns-in-Some-take-clause-item
returns-in-Some-take-clause-item c =
    let p = c.args.self.now in
    grind (arith, left-first p.phase p.number c.in-Some-take.frame [] p.taken (drop p.taken p.inputs) p.board)

pub returns-in-Closed-clause-item : goal.returns-in-Closed-clause-item
returns-in-Closed-clause-item c =
    let p = c.args.self.now in (
      left-of_closed p c.in-Closed.is (sym c.take.ensures.value ∙ c.in_default.is) (sym c.take-2.ensures.value ∙ c.in_default-take.is),
      left-of_closed _ c.in-Closed.is c.take.ensures.after c.take-2.ensures.after,
    )

pub returns-clause-item : goal.returns-clause-item
returns-clause-item c =
    let p = c.args.self.now in
    let e : p.first ≡ None = sym c.take.ensures.value ∙ c.in_default.is in
    let f : p.second ≡ None = sym c.take-2.ensures.value ∙ c.in_default-take.is in
    let before : items_left p ≡ item.Close c.match-self.close ∷ [] =
    elim c.match-self.branch [
      | in-Stopped w ↦ rw w.close-is (left-of_stopped p _ w.in-Stopped.is e f)
      | in-Between w ↦ rw (w.close-is, w.verdict-close.ensures) (left-of_over p w.in-Between.is e f c.requires.ready)
    ] in
    before ∙ ap (λ l. item.Close c.match-self.close ∷ l) (sym (left-of_closed _ refl c.take.ensures.after c.take-2.ensures.after))
