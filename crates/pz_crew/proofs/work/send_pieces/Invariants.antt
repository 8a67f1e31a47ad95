use Rattle.std.proofs.Common.{◌≡◌, ◌++◌, List, length}
use Rattle.pz_crew.specs.Gates.{MayPassUpTo}
use Rattle.pz_crew.specs.Sent.{messages_of}
use Rattle.pz_crew.proofs.work.send_pieces.Given as goal

abbrev pub invariant-loop-number : goal.invariant-loop-number
invariant-loop-number g l =
    (shown : List _) × (shown ++ g.U.Playing.left l.run ≡ g.U.Playing.left l.fn.run)
    × (l.sender ≡ record l.initial.sender { sent = l.initial.sender.sent ++ messages_of l.session shown })
    × (length shown ≡ l.number) × MayPassUpTo (g.G.Gate.may_pass l.gate) l.session l.number
