use Rattle.std.proofs.Common.{length, ◌≡◌, ◌++◌, map, fold, take}
use Rattle.pz_rules.specs.PlanInstances.{kept_after}
use Rattle.pz_plan.proofs.Products.{headed}
use Rattle.pz_rules.proofs.plan_instances.+consider_all.Given as goal

abbrev pub decreases-consider_all : goal.decreases-consider_all
decreases-consider_all l = length l.options.now

-- every list of picks that goes on with one of the first options has been considered
abbrev pub invariant-options : goal.invariant-options
invariant-options l =
    (l.kept ≡ fold (kept_after l.directed.layers.now l.directed.below l.directed.plan.now l.directed.direction) l.fn.kept (map (λ rest. l.fn.picks.items ++ rest) (headed l.others (take l.pick-index l.pick-items))))
    × (l.picks.items ≡ l.fn.picks.items)
