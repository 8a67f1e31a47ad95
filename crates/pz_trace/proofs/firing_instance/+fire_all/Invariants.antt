use Rattle.std.proofs.Common.{◌≡◌, ◌+◌, ◌++◌, length, map, fold, take, drop}
use Rattle.pz_sheet.specs.Grid.{SameSize}
use Rattle.pz_turn.proofs.Combining.{ending}
use Rattle.pz_trace.specs.Firings.{fired_at}
use Rattle.pz_trace.proofs.firing_instance.+fire_all.Given as goal

abbrev pub decreases-fire_all : goal.decreases-fire_all
decreases-fire_all l = length l.lists.now

-- each combination that ends with one of the first places has been applied
abbrev pub invariant-places : goal.invariant-places
invariant-places l = record {
  so_far : record { level = l.level.grid; places = l.told.items } ≡ fold (fired_at l.instance) (record { level = l.fn.level.grid; places = l.fn.told.items }) (map (λ places. places ++ drop (length l.others + 1) l.fn.chosen) (ending l.others (take l.place-index l.place-items)));
  size : SameSize l.fn.level.grid l.level.grid;
  chosen : drop (length l.others + 1) l.chosen ≡ drop (length l.others + 1) l.fn.chosen;
  room : length l.chosen ≡ length l.fn.chosen;
}
