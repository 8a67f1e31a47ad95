-- Clashes on the right: a cell that would hold two objects of one layer, or one object with two different words or once with
-- a word and once without.
use Rattle.std.specs.Prelude.{Bool}
use Rattle.std.specs.List.{list_any}
use Rattle.pz_instances.specs.declared.exclusion.Role.TheVariants.{Placed}
use Rattle.pz_program.specs.declared.instance.Instance.{Instance}
use Rattle.pz_instances.specs.Exclusion.{has_impossible}

-- checks.right-clash
unfoldable pub has_clash : Instance → Bool
has_clash instance = list_any (has_impossible Placed) instance.right
