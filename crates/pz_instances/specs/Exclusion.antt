-- Items that can't stand in one cell: as a left asks for them, or as a right places them.
use Rattle.std.specs.Prelude.{Bool, true, false, not, ◌&&◌, ◌||◌, ◌==◌, List, if◌then◌else◌}
use Rattle.std.specs.List.{list_any}
use Rattle.pz_instances.specs.declared.exclusion.Role.{Role}
use Rattle.pz_instances.specs.declared.exclusion.Role.TheVariants.{Asked, Placed}
use Rattle.pz_game.specs.declared.pattern.Item.{Item}
use Rattle.pz_game.specs.declared.pattern.Word.{Word}
use Rattle.pz_game.specs.declared.pattern.Word.TheVariants.{Present, Absent}
use Rattle.pz_instances.specs.Equal.{same_meaning}
use Rattle.pz_game.specs.Pattern.{RuleRow}

abbrev pub is_absent : Word → Bool
is_absent Absent = true
is_absent _ = false

abbrev pub is_present : Word → Bool
is_present Present = true
is_present _ = false

-- two words contradict each other on one object. Asked for, it can't be there and not there, or move in two ways. Placed, it
-- can't have two words, or one and none
abbrev pub at_odds : Role → Word → Word → Bool
at_odds Asked a b =
    if is_absent a || is_absent b then not (is_absent a && is_absent b)
    else not (is_present a || is_present b || same_meaning a b)
at_odds Placed a b = not (is_absent a || is_absent b) && not (same_meaning a b)

-- expand.dropped: no cell can be as both items say: they contradict each other on one object, or they are two objects of one
-- layer
unfoldable pub excludes : Role → Item → Item → Bool
excludes role a b =
    if a.object == b.object then at_odds role a.word b.word
    else not (is_absent a.word || is_absent b.word) && (a.layer == b.layer)

unfoldable pub excludes_some : Role → List Item → Item → Bool
excludes_some role cell a = list_any (excludes role a) cell

unfoldable pub is_impossible : Role → List Item → Bool
is_impossible role cell = list_any (excludes_some role cell) cell

unfoldable pub has_impossible : Role → RuleRow → Bool
has_impossible role row = list_any (is_impossible role) row.cells
