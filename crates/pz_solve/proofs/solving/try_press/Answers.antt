use Rattle.std.proofs.Common.{◌≡◌, ◌+◌, List, option_map, ap, sym, ◌∙◌, subst}
use Rattle.std.specs.Prelude.{slice_get}
use Rattle.std.proofs.lemmas.Option.{same_Some}
use Rattle.pz_solve.specs.declared.solving.Tried.{Tried}
use Rattle.pz_solve.specs.Found.{Found}
use Rattle.pz_solve.specs.Leading.{reached_by}
use Rattle.pz_solve.specs.Moves.{Stands, move_of}
use Rattle.pz_solve.specs.Trying.{HasTried}
use Rattle.pz_solve.specs.Noted.{IsNotedAs, entry_of}
use Rattle.pz_solve.proofs.TryingLemmas.{tried_noted}
use Rattle.pz_solve.proofs.solving.try_press.Goals as goal

pub returns-in_ok-note-in-Stands-clause-tried : goal.returns-in_ok-note-in-Stands-clause-tried
returns-in_ok-note-in-Stands-clause-tried c = λ start here search is_here.
    let moves = move_of c.args.game.now c.args.program.now in
    let old = c.args.search.now in
    let index = c.args.index in
    let most = c.args.most in
    let next = c.in-Stands.next.grid in
    let noted = c.in_ok-note-in-Stands.field-0 in
    let kept = c.play.ensures.kept in
    let leads : moves here.grid c.args.input ≡ Stands next = sym (c.in_ok-next.ensures.reached here is_here) ∙ ap reached_by c.in-Stands.is in
    let link = c.in_ok-link-in-Stands.link in
    let same = ap (λ (all : List Found). slice_get all index) kept ∙ is_here in
    let depth : link.depth ≡ here.depth + 1 = sym (same_Some (here.depth + 1) link.depth (sym (ap (option_map (λ (f : Found). f.depth + 1)) same) ∙ c.in_ok-link-in-Stands.ensures.depth)) in
    let told = subst (λ (all : List Found). IsNotedAs all c.note.new.self most (entry_of next link) noted) kept c.in_ok-note-in-Stands.ensures.noted in
    subst (λ (outcome : Tried). HasTried moves start old c.note.new.self index here most c.args.input outcome) (sym c.tried_by.ensures)
    (tried_noted moves start old c.note.new.self index here most c.args.input search is_here next link leads c.in_ok-link-in-Stands.ensures.parent c.in_ok-link-in-Stands.ensures.input depth noted told)
