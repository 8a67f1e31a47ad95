use Rattle.std.proofs.Common.{◌≡◌, Bool, not, ◌&&◌, ◌||◌, Option, nat_eq, ap, ◌∙◌}
use Rattle.pz_sets.specs.Sets.{member}
use Rattle.pz_game.specs.declared.direction.Dir.{Dir}
use Rattle.pz_game.specs.Headings.{heads, is_toward}
use Rattle.pz_game.specs.Masks.{is_first, toward}
use Rattle.pz_game.proofs.masks.Masks.add.Goals as goal

pub returns : goal.returns
returns c =
    let item = c.args.item in
    let old = c.args.self.now in
    let named = c.names-named.ensures in
    let first : c.is_first-first.result ≡ is_first item old = c.is_first-first.ensures ∙ ap (λ (b : Bool). b && not (member old.layers item.layer)) named in
    record {
      present = λ o. c.insert_if.ensures o ∙ ap (λ (b : Bool). (b && nat_eq o item.object) || member old.present o) named;
      absent = λ o. c.insert_if-2.ensures o ∙ ap (λ (b : Bool). (not b && nat_eq o item.object) || member old.absent o) named;
      required = λ l d. c.add_if.ensures.heads l d ∙ ap (λ (h : Option Dir). (nat_eq l item.layer && is_toward h d) || heads old.required l d) c.toward.ensures;
      forbidden = λ l d. c.fill_if.ensures.heads l d ∙ ap (λ (b : Bool). (b && nat_eq l item.layer) || heads old.forbidden l d) c.is_still.ensures;
      told = λ l d. c.fill_if-2.ensures.heads l d ∙ ap (λ (b : Bool). (b && nat_eq l item.layer) || heads old.told l d) c.tells_movement.ensures;
      layers = λ l. c.insert_if-3.ensures l ∙ ap (λ (b : Bool). (b && nat_eq l item.layer) || member old.layers l) first;
      placed = λ o. c.insert_if-4.ensures o ∙ ap (λ (b : Bool). (b && nat_eq o item.object) || member old.placed o) first;
      covered = λ l d. c.fill_if-3.ensures.heads l d ∙ ap (λ (b : Bool). (b && nat_eq l item.layer) || heads old.covered l d) first;
      settled = λ l d. c.fill_if-4.ensures.heads l d ∙ ap (λ (b : Bool). ((b && c.tells_movement-2.result) && nat_eq l item.layer) || heads old.settled l d) first ∙ ap (λ (b : Bool). ((is_first item old && b) && nat_eq l item.layer) || heads old.settled l d) c.tells_movement-2.ensures;
      headed = λ l d. c.add_if-2.ensures.heads l d ∙ ap (λ (h : Option Dir). (nat_eq l item.layer && is_toward h d) || heads old.headed l d) (c.toward-2.ensures ∙ ap (λ (b : Bool). toward b item.word) first);
      proper_required = c.add_if.ensures.proper;
      proper_forbidden = c.fill_if.ensures.proper;
      proper_headed = c.add_if-2.ensures.proper;
    }
