use Rattle.std.proofs.Common.{◌≡◌, ℕ, Bool, true, List, ap, sym, subst, ◌∙◌}
use Rattle.std.specs.List.{All}
use Rattle.pz_game.specs.declared.pattern.Item.{Item}
use Rattle.pz_game.specs.Pattern.{AreOf}
use Rattle.pz_game.specs.Pattern.{AsksAmong}
use Rattle.pz_sheet.specs.Grid.{BareState}
use Rattle.pz_sheet.specs.Searching.{HoldsSomewhere}
use Rattle.pz_bare.specs.AnySheet.{state_in}
use Rattle.pz_bare.proofs.BareLevel.may_head_in.Goals as goal

abbrev Tells : List ℕ → Bool → BareState → Type 0
Tells asked may state = (cells : List (List Item)) → All (AreOf state.grid.layers) cells → AsksAmong asked cells → All (HoldsSomewhere state.grid) cells → may ≡ true

pub returns-in-Small : goal.returns-in-Small
returns-in-Small c = subst (Tells c.args.asked.now c.may_head_in.result) (sym (ap state_in c.in-Small.is) ∙ ap state_in c.deref.ensures ∙ c.self.view_is) c.may_head_in.ensures

pub returns-in-Middle : goal.returns-in-Middle
returns-in-Middle c = subst (Tells c.args.asked.now c.may_head_in-in-Middle.result) (sym (ap state_in c.in-Middle.is) ∙ ap state_in c.deref.ensures ∙ c.self.view_is) c.may_head_in-in-Middle.ensures

pub returns-in-Large : goal.returns-in-Large
returns-in-Large c = subst (Tells c.args.asked.now c.may_head_in-in-Large.result) (sym (ap state_in c.in-Large.is) ∙ ap state_in c.deref.ensures ∙ c.self.view_is) c.may_head_in-in-Large.ensures
