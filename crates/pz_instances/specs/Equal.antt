-- Equal instances of a rule: cells are compared as sets of items. (The commands and the gaps of one rule's instances are the same.)
use Rattle.std.specs.Prelude.{Bool, true, false, ◌&&◌, ◌==◌, List}
use Rattle.std.specs.List.{list_all, list_any}
use lib.Pointwise.{pointwise}
use Rattle.pz_game.specs.declared.pattern.Word.{Word}
use Rattle.pz_game.specs.declared.pattern.Word.TheVariants.{Present, Still, Toward, Absent}
use Rattle.pz_game.specs.declared.pattern.Item.{Item}
use Rattle.pz_program.specs.declared.instance.Instance.{Instance}
use Rattle.pz_game.specs.Pattern.{RuleRow}
use Rattle.pz_game.specs.Direction.{same_dir}

-- two words of one meaning
abbrev pub same_meaning : Word → Word → Bool
same_meaning Present Present = true
same_meaning Still Still = true
same_meaning (Toward a) (Toward b) = same_dir a b
same_meaning Absent Absent = true
same_meaning _ _ = false

unfoldable pub same_item : Item → Item → Bool
same_item a b = (a.object == b.object) && ((a.layer == b.layer) && same_meaning a.word b.word)

unfoldable pub has_item : List Item → Item → Bool
has_item cell item = list_any (λ x. same_item x item) cell

-- each item of a stands in b
unfoldable pub within_cell : List Item → List Item → Bool
within_cell a b = list_all (λ x. has_item b x) a

-- cells as sets of items
unfoldable pub same_cell : List Item → List Item → Bool
same_cell a b = within_cell a b && within_cell b a

-- rows of the same length that are the same cell by cell
unfoldable pub same_row : RuleRow → RuleRow → Bool
same_row a b = pointwise same_cell a.cells b.cells

-- expand.equal
unfoldable pub same_instance : Instance → Instance → Bool
same_instance a b = same_dir a.scan b.scan && (pointwise same_row a.left b.left && pointwise same_row a.right b.right)
