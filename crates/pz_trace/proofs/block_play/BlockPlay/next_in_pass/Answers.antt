use Rattle.std.proofs.Common.{◌≡◌, Some, false, List, Bool, refl, subst, sym, ap, ◌∙◌}
use Rattle.std.proofs.lemmas.Option.{slice_get_read}
use Rattle.std.proofs.lemmas.Result.{err_from_is_err_and}
use Rattle.std.specs.Prelude.{is_some, slice_get}
use Rattle.pz_grid.proofs.MovementLemmas.{same_size_on}
use Rattle.pz_program.specs.declared.instance.Instance.{Instance}
use Rattle.pz_trace.specs.Firings.{Sequence}
use Rattle.pz_trace.specs.FiringPlay.{IsAllowed, Yields, behind_instance_at, ends_left, sequence_from, left_in, setting_of}
use Rattle.pz_trace.proofs.Going.{ends_stay, instance_fires, instance_of_game, instance_rests, instance_stops, played_on}
use Rattle.pz_trace.proofs.block_play.BlockPlay.next_in_pass.Goals as goal

pub apply-requires : goal.apply-requires
apply-requires c =
    let inv = c.instances.invariant in
    let play = c.instances.self in
    let spot = play.spot in
    let group = c.args.group.now in
    let instance = c.index-instances-at.result in
    let is : slice_get (setting_of play).groups spot.moment.group ≡ Some group = (λ i. slice_get (inv.setting i).groups (inv.group i)) ∙ c.requires.group in
    let here : slice_get group spot.moment.instance ≡ Some instance =
    ap (λ (xs : List Instance). slice_get xs spot.moment.instance) (sym c.instances-instances.ensures)
    ∙ slice_get_read c.instances-instances.result.now _ spot.moment.instance instance refl c.instances-test.true c.index-instances-at.is in
    record { of_game = instance_of_game play.level.grid.layers play.groups.now spot.moment.group spot.moment.instance group instance inv.played.groups is here }

pub returns-in_err-firing-clause-firing : goal.returns-in_err-firing-clause-firing
returns-in_err-firing-clause-firing c =
    let inv = c.instances.invariant in
    let play = c.instances.self in
    let spot = play.spot in
    let group = c.args.group.now in
    let instance = c.index-instances-at.result in
    let is : slice_get (setting_of play).groups spot.moment.group ≡ Some group = (λ i. slice_get (inv.setting i).groups (inv.group i)) ∙ c.requires.group in
    let here : slice_get group spot.moment.instance ≡ Some instance =
    ap (λ (xs : List Instance). slice_get xs spot.moment.instance) (sym c.instances-instances.ensures)
    ∙ slice_get_read c.instances-instances.result.now _ spot.moment.instance instance refl c.instances-test.true c.index-instances-at.is in
    let p = err_from_is_err_and c.from_residual.result c.from_residual.ensures.1 in
    rw (p.1, p.2) (λ not_memory. sym inv.left ∙ instance_stops (setting_of play) spot group is instance here play.level.grid _ (c.in_err-firing.ensures.firing not_memory))

pub returns-in_err-firing-clause-played : goal.returns-in_err-firing-clause-played
returns-in_err-firing-clause-played c =
    let inv = c.instances.invariant in
    played_on c.instances.self c.apply.new.self inv.played c.apply.ensures.setting c.apply.ensures.size (subst IsAllowed (sym c.apply.ensures.spot) inv.played.allowed)

pub returns-then-is_some-clause-firing : goal.returns-then-is_some-clause-firing
returns-then-is_some-clause-firing c =
    let inv = c.instances.invariant in
    let play = c.instances.self in
    let spot = play.spot in
    let group = c.args.group.now in
    let instance = c.index-instances-at.result in
    let is : slice_get (setting_of play).groups spot.moment.group ≡ Some group = (λ i. slice_get (inv.setting i).groups (inv.group i)) ∙ c.requires.group in
    let here : slice_get group spot.moment.instance ≡ Some instance =
    ap (λ (xs : List Instance). slice_get xs spot.moment.instance) (sym c.instances-instances.ensures)
    ∙ slice_get_read c.instances-instances.result.now _ spot.moment.instance instance refl c.instances-test.true c.index-instances-at.is in
    let firing = c.in_ok-firing.firing in
    let level = c.apply.new.self.level.grid in
    let at : c.behind_instance-self.result ≡ behind_instance_at spot (is_some firing) = c.behind_instance-self.ensures ∙ (λ i. behind_instance_at (c.apply.ensures.spot i) (c.is_some.ensures i)) in
    let allowed : IsAllowed (behind_instance_at spot (is_some firing)) = record { pass = inv.played.allowed.pass; round = inv.played.allowed.round } in
    let after : sequence_from (setting_of c.apply.new.self) c.behind_instance-self.result level ≡ sequence_from (setting_of play) (behind_instance_at spot (is_some firing)) level = (λ i. sequence_from (c.apply.ensures.setting i) (at i) level) in
    let fires = instance_fires (setting_of play) spot group is instance here play.level.grid level firing c.in_ok-firing.ensures.firing in
    λ some. subst (λ (before : Sequence). Yields before firing level (sequence_from (setting_of c.apply.new.self) c.behind_instance-self.result level)) inv.left
    (subst (λ (behind : Sequence). Yields (left_in play) firing level behind) (sym after) (fires some))

pub returns-then-is_some-clause-played : goal.returns-then-is_some-clause-played
returns-then-is_some-clause-played c =
    let inv = c.instances.invariant in
    let spot = c.instances.self.spot in
    let firing = c.in_ok-firing.firing in
    let level = c.apply.new.self.level.grid in
    let at : c.behind_instance-self.result ≡ behind_instance_at spot (is_some firing) = c.behind_instance-self.ensures ∙ (λ i. behind_instance_at (c.apply.ensures.spot i) (c.is_some.ensures i)) in
    let allowed : IsAllowed (behind_instance_at spot (is_some firing)) = record { pass = inv.played.allowed.pass; round = inv.played.allowed.round } in
    played_on c.instances.self _ inv.played c.apply.ensures.setting c.apply.ensures.size (subst IsAllowed (sym at) allowed)

pub instances-preserved : goal.instances-preserved
instances-preserved c =
    let inv = c.instances.invariant in
    let play = c.instances.self in
    let spot = play.spot in
    let group = c.args.group.now in
    let instance = c.index-instances-at.result in
    let is : slice_get (setting_of play).groups spot.moment.group ≡ Some group = (λ i. slice_get (inv.setting i).groups (inv.group i)) ∙ c.requires.group in
    let here : slice_get group spot.moment.instance ≡ Some instance =
    ap (λ (xs : List Instance). slice_get xs spot.moment.instance) (sym c.instances-instances.ensures)
    ∙ slice_get_read c.instances-instances.result.now _ spot.moment.instance instance refl c.instances-test.true c.index-instances-at.is in
    let firing = c.in_ok-firing.firing in
    let level = c.apply.new.self.level.grid in
    let at : c.behind_instance-self.result ≡ behind_instance_at spot (is_some firing) = c.behind_instance-self.ensures ∙ (λ i. behind_instance_at (c.apply.ensures.spot i) (c.is_some.ensures i)) in
    let allowed : IsAllowed (behind_instance_at spot (is_some firing)) = record { pass = inv.played.allowed.pass; round = inv.played.allowed.round } in
    let none : is_some firing ≡ false = sym c.is_some-in-instances.ensures ∙ c.if-is_some.false in
    record {
      left = (λ i. sequence_from (c.apply.ensures.setting i) (at i) level) ∙ instance_rests (setting_of play) spot group is instance here play.level.grid level firing c.in_ok-firing.ensures.firing none ∙ inv.left;
      setting = c.apply.ensures.setting ∙ inv.setting;
      group = ap (λ s. s.moment.group) at ∙ inv.group;
      ends = (λ i. ends_left (c.apply.ensures.setting i) (at i)) ∙ ap (λ (b : Bool). ends_left (setting_of play) (behind_instance_at spot b)) none ∙ ends_stay (setting_of play) spot ∙ inv.ends;
      played = played_on play _ inv.played c.apply.ensures.setting c.apply.ensures.size (subst IsAllowed (sym at) allowed);
      size = same_size_on _ _ _ inv.size c.apply.ensures.size;
    }
