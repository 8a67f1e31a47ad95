-- Directions that are mentioned, one after the other.
use Rattle.std.proofs.Common.{◌≡◌, true, List, [], ◌++◌, refl}
use Rattle.std.proofs.lemmas.Grind.{fold-append}
use Rattle.pz_game.specs.declared.direction.Dir.{Dir}
use Rattle.pz_game.specs.declared.direction.Dir.TheVariants.{Up, Down, Left, Right, Action}
use Rattle.pz_base.specs.Lists.{firsts, with_new, added_all}
use Rattle.pz_game.specs.Direction.{same_dir}
use Rattle.pz_plan.proofs.Firsts.{firsts-append}

pub same_dir_is : (a b : Dir) → same_dir a b ≡ true → a ≡ b
same_dir_is Up Up h = refl
same_dir_is Down Down h = refl
same_dir_is Left Left h = refl
same_dir_is Right Right h = refl
same_dir_is Action Action h = refl
same_dir_is _ _ h = cc

pub same_dir-trans : (a b c : Dir) → same_dir a b ≡ true → same_dir b c ≡ true → same_dir a c ≡ true
same_dir-trans a b c p q = let e = same_dir_is a b p in rw e q

pub directions-start : (ds : List Dir) → added_all same_dir [] ds ≡ firsts same_dir ds
directions-start ds = firsts-append same_dir same_dir-trans [] ds

pub directions-more : (kept now more : List Dir) → added_all same_dir kept (now ++ more) ≡ added_all same_dir (added_all same_dir kept now) more
directions-more kept now more = fold-append (with_new same_dir) kept now more

pub ruleset mentioning = (directions-start, directions-more)
