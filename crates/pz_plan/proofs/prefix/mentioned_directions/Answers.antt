use Rattle.std.proofs.Common.{◌<◌, ◌+◌, length, drop, ap, sym, ◌∙◌, arith, get_or}
use Rattle.std.specs.List.{flat_map}
use Rattle.std.proofs.lemmas.List.{at_drop_more, drop_all}
use Rattle.pz_base.specs.Lists.{added_all}
use Rattle.pz_grammar.specs.declared.token.Token.TheVariants.{Open}
use Rattle.pz_game.specs.Direction.{same_dir}
use Rattle.pz_plan.specs.Prefix.{prefix_directions, mentioned_directions}
use Rattle.pz_plan.proofs.Directions.{directions-more, directions-start}
use Rattle.pz_plan.proofs.prefix.mentioned_directions.Goals as goal

pub loop-token-preserved : goal.loop-token-preserved
loop-token-preserved c =
    let prefixes = c.args.prefixes.now in
    let i = c.loop-token.token-index in
    let before = c.loop-token.directions.items in
    let rest = flat_map prefix_directions (drop (i + 1) prefixes) in
    let in_range : i < length prefixes = omega arith in
    ap (λ l. added_all same_dir l rest) (c.in_ok-add_directions.ensures ∙ ap (added_all same_dir before) c.prefix_directions.ensures)
    ∙ (sym (directions-more before (prefix_directions (get_or prefixes i Open)) rest) ∙ (sym (at_drop_more (λ l. added_all same_dir before (flat_map prefix_directions l)) prefixes i Open in_range) ∙ c.loop-token.invariant))

pub loop-token-init : goal.loop-token-init
loop-token-init c = rw c.new-directions.ensures.items (directions-start (flat_map prefix_directions c.args.prefixes.now))

pub returns : goal.returns
unfolding mentioned_directions
returns c =
    let over = drop_all c.loop-token.token-index c.args.prefixes.now c.loop-token-test.false in
    ap (λ l. added_all same_dir c.loop-token.directions.items (flat_map prefix_directions l)) (sym over) ∙ c.loop-token.invariant
