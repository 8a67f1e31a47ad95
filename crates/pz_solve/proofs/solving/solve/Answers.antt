use Rattle.std.proofs.Common.{◌≡◌, option_map, ap, sym, ◌∙◌, subst, arith}
use Rattle.std.proofs.lemmas.Option.{same_Some}
use Rattle.pz_solve.specs.declared.solving.Tried.{Tried}
use Rattle.pz_solve.specs.Moves.{move_of}
use Rattle.pz_solve.specs.Noted.{link_of}
use Rattle.pz_solve.specs.Trying.{HasExpanded}
use Rattle.pz_solve.proofs.Answering.{out_of_bounds, shortest}
use Rattle.pz_store.proofs.Listing.{there}
use Rattle.pz_solve.proofs.Searching.{next_turn, none_wins, none_within}
use Rattle.pz_solve.proofs.solving.solve.Goals as goal

pub levels-preserved : goal.levels-preserved
levels-preserved c =
    let moves = move_of c.args.game.now c.args.program.now in
    let start = c.args.level.now.grid in
    let old = c.levels.search in
    let new = c.expand.new.search in
    let index = c.levels.index in
    let h = there old index (omega (arith, c.levels-test.true, c.len.ensures.count)) in
    let told = c.in_ok-expand.ensures.tried start h.0 c.levels.invariant.search h.1 in
    let it = subst (λ (outcome : Tried). HasExpanded moves start old new index h.0 c.most_kept-most.result outcome) c.in-Nothing.is told in
    record {
      level_of = c.in_ok-expand.ensures.level_of;
      room = omega (arith, c.in_ok-expand.ensures.room, c.levels.invariant.room);
      search = next_turn moves start new index h.0 it.search (it.grows index h.0 h.1) it.comes_to;
    }

pub returns-in-Wins : goal.returns-in-Wins
returns-in-Wins c =
    let moves = move_of c.args.game.now c.args.program.now in
    let start = c.args.level.now.grid in
    let old = c.levels.search in
    let new = c.expand.new.search in
    let index = c.levels.index in
    let h = there old index (omega (arith, c.levels-test.true, c.len.ensures.count)) in
    let told = c.in_ok-expand.ensures.tried start h.0 c.levels.invariant.search h.1 in
    let it = subst (λ (outcome : Tried). HasExpanded moves start old new index h.0 c.most_kept-most.result outcome) c.in-Wins.is told in
    let is_here = it.grows index h.0 h.1 in
    let inputs = c.in_ok-inputs_to-in-Wins.field-0.items in
    shortest moves start h.0.depth inputs
    (c.in_ok-inputs_to-in-Wins.ensures moves start index h.0 it.search is_here it.comes_to)
    (none_within moves start new index h.0 it.search is_here)

pub returns-in-NoRoom : goal.returns-in-NoRoom
returns-in-NoRoom c =
    let moves = move_of c.args.game.now c.args.program.now in
    let start = c.args.level.now.grid in
    let old = c.levels.search in
    let new = c.expand.new.search in
    let index = c.levels.index in
    let h = there old index (omega (arith, c.levels-test.true, c.len.ensures.count)) in
    let told = c.in_ok-expand.ensures.tried start h.0 c.levels.invariant.search h.1 in
    let it = subst (λ (outcome : Tried). HasExpanded moves start old new index h.0 c.most_kept-most.result outcome) c.in-NoRoom.is told in
    let is_here = it.grows index h.0 h.1 in
    let link : link_of h.0 ≡ c.link.result = same_Some (link_of h.0) c.link.result (sym (ap (option_map link_of) is_here) ∙ c.link.ensures.link) in
    out_of_bounds moves start new index h.0 it.search is_here c.args.bounds c.most_kept-most.result c.most_kept-most.ensures c.len-in-NoRoom.result c.link.result.depth c.len-in-NoRoom.ensures.kept it.comes_to.0 it.comes_to.1 c.len-in-NoRoom.ensures.count
    (ap (λ l. l.depth) (sym link))

pub returns : goal.returns
returns c =
    none_wins (move_of c.args.game.now c.args.program.now) c.args.level.now.grid c.levels.search c.levels.index c.levels.invariant.search (omega (arith, c.levels-test.false, c.len.ensures.count))
