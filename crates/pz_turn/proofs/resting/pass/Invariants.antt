use Rattle.pz_turn.proofs.Common.{◌≡◌, ◌<◌, Ok, true, drop, take, fold, SameSize, IsCalm, followed_by, pass_of}
use Rattle.pz_turn.proofs.resting.pass.Given as goal

-- the items that are left, run from here, give what the pass gives; the first item, run alone, is calm if it was said to be
abbrev pub invariant-loop-item : goal.invariant-loop-item
invariant-loop-item g l = record {
  whole : fold (λ so_far item. followed_by so_far (g.T.Runnable.runs l.whole item)) (Ok (record { level = l.level.grid; commands = l.so_far.commands; changed = l.so_far.changed })) (drop l.item-index l.items) ≡ pass_of (g.T.Runnable.runs l.whole) l.items l.initial.level.grid;
  calm : l.calm ≡ true → (0 < l.item-index) × (l.item-index ≡ 1 → IsCalm (pass_of (g.T.Runnable.runs l.whole)) l.so_far.commands l.level.grid (take l.item-index l.items));
  size : SameSize l.initial.level.grid l.level.grid;
}
