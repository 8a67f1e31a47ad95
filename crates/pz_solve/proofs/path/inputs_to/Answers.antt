use Rattle.std.proofs.Common.{◌≡◌, ℕ, ◌+◌, true, List, [], ◌∷◌, ◌++◌, length, length-append, reverse, Option, Some, None, option_map, refl, ap, sym, ◌∙◌, subst, arith}
use Rattle.std.specs.Prelude.{slice_get}
use Rattle.std.proofs.lemmas.List.{length-reverse, reverse-append}
use Rattle.std.proofs.lemmas.Option.{same_Some}
use Rattle.pz_game.specs.declared.direction.Dir.{Dir}
use Rattle.pz_sheet.specs.Grid.{Grid}
use Rattle.pz_solve.specs.declared.search.Link.{Link}
use Rattle.pz_solve.specs.Found.{Found, start_of}
use Rattle.pz_solve.specs.Moves.{Stands}
use Rattle.pz_solve.specs.Noted.{link_of}
use Rattle.pz_solve.specs.Winning.{Moves, wins}
use Rattle.pz_solve.proofs.Reaching.{one_wins, before_wins}
use Rattle.pz_solve.proofs.Searching.{one}
use Rattle.pz_solve.proofs.path.inputs_to.Goals as goal

pub links-init : goal.links-init
links-init c =
    let items : c.push.new.self.items ≡ c.args.last ∷ [] = grind (arith, c.in_ok-push.ensures.items, c.new-inputs.ensures.items) in
    record {
      within = c.requires.within;
      leads = λ moves start tried here search is_here win f is_f.
          let same : here ≡ f = one c.args.search.now c.args.index here f is_here is_f in (
            subst (λ (inputs : List Dir). wins moves (reverse inputs) f.grid ≡ true) (sym items) (subst (λ (g : Found). wins moves (c.args.last ∷ []) g.grid ≡ true) same (one_wins moves here.grid c.args.last win)),
            omega (arith, ap (λ (inputs : List Dir). length inputs) items, ap (λ (g : Found). g.depth) same),
          );
    }

-- what a link is of
abbrev IsLinkOf : Option Found → Link → Type 0
IsLinkOf there link = (here : Found) × (there ≡ Some here) × (link_of here ≡ link)

linked : (there : Option Found) (link : Link) → option_map link_of there ≡ Some link → IsLinkOf there link
linked None link is = absurd cc
linked (Some here) link is = (here, refl, same_Some (link_of here) link is)

-- one press more in front of those that win
turned : (moves : Moves) (inputs : List Dir) (input : Dir) (grid : Grid) → wins moves (input ∷ reverse inputs) grid ≡ true → wins moves (reverse (inputs ++ input ∷ [])) grid ≡ true
turned moves inputs input grid win = subst (λ (all : List Dir). wins moves all grid ≡ true) (sym (reverse-append inputs (input ∷ []))) win

pub links-preserved : goal.links-preserved
links-preserved c =
    let link = c.link-link.result in
    let found = c.args.search.now in
    let at = c.links.at in
    let behind = c.link-link.ensures.behind c.links-test.true in
    record {
      within = omega (arith, behind, c.links.invariant.within);
      leads = λ moves start tried here search is_here win f is_f.
          let it = linked (slice_get found at) link c.link-link.ensures.link in
          let led = search.led at it.0 c.links-test.true it.1 in
          let parent : link.parent ≡ it.0.parent = ap (λ (l : Link). l.parent) (sym it.2) in
          let input : it.0.input ≡ link.input = ap (λ (l : Link). l.input) it.2 in
          let same : led.before ≡ f = one found it.0.parent led.before f led.is (subst (λ (n : ℕ). slice_get found n ≡ Some f) parent is_f) in
          let so_far = c.links.invariant.leads moves start tried here search is_here win it.0 it.1 in
          let from : moves f.grid link.input ≡ Stands it.0.grid = subst (λ (g : Found). moves g.grid link.input ≡ Stands it.0.grid) same (subst (λ (d : Dir). moves led.before.grid d ≡ Stands it.0.grid) input led.led) in
          let items = c.in_ok-push-2.ensures.items in
          let height : it.0.depth ≡ f.depth + 1 = led.deeper ∙ ap (λ (g : Found). g.depth + 1) same in (
            subst (λ (all : List Dir). wins moves (reverse all) f.grid ≡ true) (sym items) (turned moves c.links.inputs.items link.input f.grid (before_wins moves f.grid it.0.grid link.input (reverse c.links.inputs.items) from so_far.0)),
            omega (arith, ap (λ (all : List Dir). length all) items, length-append c.links.inputs.items (link.input ∷ []), so_far.1, height),
          );
    }

pub returns : goal.returns
returns c = λ moves start tried here search is_here win.
    let first : c.links.at ≡ 0 = omega (arith, c.links-test.false) in
    let done = c.links.invariant.leads moves start tried here search is_here win (start_of start) (subst (λ (n : ℕ). slice_get c.args.search.now n ≡ Some (start_of start)) (sym first) search.first) in
    record {
      win = subst (λ (inputs : List Dir). wins moves inputs start ≡ true) (sym c.reverse.ensures.items) done.0;
      long = ap (λ (inputs : List Dir). length inputs) c.reverse.ensures.items ∙ length-reverse c.links.inputs.items ∙ omega (arith, done.1);
    }
