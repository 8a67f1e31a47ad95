use Rattle.std.proofs.Common.{◌≡◌, ℕ, Some, Result, Ok, Err, get_or, ap, sym, ◌∙◌, subst, arith}
use Rattle.std.specs.Prelude.{slice_get, IfOk}
use Rattle.std.proofs.lemmas.List.Elements.{All-get_or}
use Rattle.std.proofs.lemmas.Option.{same_Some, slice_get-get_or}
use Rattle.pz_sheet.specs.Grid.{Grid, IsOfGame}
use Rattle.pz_solve.specs.declared.moves.Move.{Move}
use Rattle.pz_solve.specs.Found.{Found}
use Rattle.pz_solve.specs.Origin.{OriginState}
use Rattle.pz_solve.specs.Leading.{reached_by, MoveKeepsSize}
use Rattle.pz_solve.specs.Moves.{move_of}
use Rattle.pz_solve.proofs.Finding.{grid_of, length_links}
use Rattle.pz_store.proofs.Listing.{there}
use Rattle.pz_solve.proofs.search.Search.play.Goals as goal
use Rattle.pz_solve.proofs.search.Search.play.Goals.{After-level}

pub go_to-requires-clause-within : goal.go_to-requires-clause-within
go_to-requires-clause-within c = omega (arith, c.requires.within, c.self.invariant.linked, length_links c.self.inside.levels.grids c.self.inside.links.items c.args.self.now c.self.invariant.linked c.self.view_is)

-- the press is played from the level of the number
is_here : (c : After-level) (here : Found) → slice_get c.args.self.now c.args.index ≡ Some here → here.grid ≡ c.level.result.now.grid
is_here c here is =
    let levels = c.self.inside.levels in
    let at : slice_get levels.grids c.args.index ≡ Some c.go_to.new.origin.grid = ap (λ (n : ℕ). slice_get levels.grids n) (sym c.in_ok-go_to.ensures.place) ∙ c.go_to.ensures.at.there in
    grid_of levels.grids c.self.inside.links.items c.args.self.now c.args.index c.go_to.new.origin.grid here c.self.invariant.linked c.self.view_is at is ∙ sym (c.level.ensures ∙ ap (λ (h : OriginState). h.grid) c.in_ok-equal.ensures.kept)

pub play-requires-clause-level_of : goal.play-requires-clause-level_of
play-requires-clause-level_of c =
    let h = there c.args.self.now c.args.index c.requires.within in
    let found = c.args.self.now in
    let same : get_or found c.args.index h.0 ≡ h.0 = same_Some (get_or found c.args.index h.0) h.0 (sym (slice_get-get_or found c.args.index h.0 c.requires.within) ∙ h.1) in
    subst (λ (g : Grid). IsOfGame c.args.game.now g) (is_here c h.0 h.1) (subst (λ (f : Found). IsOfGame c.args.game.now f.grid) same (All-get_or (λ (f : Found). IsOfGame c.args.game.now f.grid) found c.args.index h.0 c.requires.within c.requires.level_of))

-- what holds of a result holds of it in other words
in_words : {T E : Type 0} (result : Result T E) (P Q : T → Type 0) → ((value : T) → P value → Q value) → IfOk result P → IfOk result Q
in_words (Ok value) P Q so is = so value is
in_words (Err fault) P Q so is = tt

pub returns-clause-reached : goal.returns-clause-reached
returns-clause-reached c =
    let before = (goal.at.returns-clause-reached c).After-level in
    let moves = move_of c.args.game.now c.args.program.now in
    in_words c.play.result (λ (end : Move). reached_by end ≡ moves c.level.result.now.grid c.args.input) (λ (end : Move). (here : Found) → slice_get c.args.self.now c.args.index ≡ Some here → reached_by end ≡ moves here.grid c.args.input)
    (λ end is here there. is ∙ ap (λ (g : Grid). moves g c.args.input) (sym (is_here before here there))) c.play.ensures.reached

pub returns-clause-size : goal.returns-clause-size
returns-clause-size c =
    let before = (goal.at.returns-clause-size c).After-level in
    in_words c.play.result (MoveKeepsSize c.level.result.now.grid) (λ (end : Move). (here : Found) → slice_get c.args.self.now c.args.index ≡ Some here → MoveKeepsSize here.grid end)
    (λ end is here there. subst (λ (g : Grid). MoveKeepsSize g end) (sym (is_here before here there)) is) c.play.ensures.size
