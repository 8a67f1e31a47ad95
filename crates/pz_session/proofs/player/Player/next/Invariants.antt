use Rattle.pz_session.proofs.Common.{◌≡◌, items_left, work}
use Rattle.pz_session.proofs.player.Player.next.Given as goal

abbrev pub decreases-links : goal.decreases-links
decreases-links l = work l.self

-- what is left stays as it is
abbrev pub invariant-links : goal.invariant-links
invariant-links l =
    (items_left l.self ≡ items_left l.fn.self) × (l.self.number ≡ l.fn.self.number)
