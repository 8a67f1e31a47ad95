use Rattle.std.proofs.Common.{rules, map, ◌≡◌, reverse, sym, subst, ◌∙◌, Option}
use Rattle.pz_sheet.specs.Grid.{BareState}
use Rattle.pz_bare.specs.Past.{IsPast, grids_of, kept_in}
use Rattle.pz_bare.proofs.PastLemmas.{copied_grids, copied_is, copied_empty}
use Rattle.pz_bare.proofs.past.Past.copy.Goals as goal
use Rattle.pz_bare.proofs.past.Past.copy.Goals.{in-Some+in_ok-copy-in-Some, in-None}

kept : (c : goal.Joined-self) → map kept_in c.in_ok-before.before.items ≡ map kept_in c.self.inside.before.items
kept c = search rules

pub invariant_of-result : goal.invariant_of-result
invariant_of-result c = elim c.match-self.branch [
  | in-Some+in_ok-copy-in-Some w ↦
      subst (λ (newest : Option BareState). IsPast newest (reverse c.in_ok-before.before.items)) (sym w.newest-is)
      (copied_is c.in_ok-before.before.items c.self.inside.before.items w.in-Some.newest w.in_ok-copy-in-Some.field-0 (kept c) w.in_ok-copy-in-Some.ensures.copied
      (subst (λ (newest : Option BareState). IsPast newest (reverse c.self.inside.before.items)) w.in-Some.is c.self.invariant))
  | in-None w ↦
      subst (λ (newest : Option BareState). IsPast newest (reverse c.in_ok-before.before.items)) (sym w.newest-is)
      (copied_empty c.in_ok-before.before.items c.self.inside.before.items (kept c)
      (subst (λ (newest : Option BareState). IsPast newest (reverse c.self.inside.before.items)) w.in-None.is c.self.invariant))
]

pub returns : goal.returns
returns c = elim c.match-self.branch [
  | in-Some+in_ok-copy-in-Some w ↦
      (λ i. grids_of (w.newest-is i) (reverse c.in_ok-before.before.items)) ∙
      copied_grids c.in_ok-before.before.items c.self.inside.before.items w.in-Some.newest w.in_ok-copy-in-Some.field-0 (kept c) w.in_ok-copy-in-Some.ensures.copied ∙
      (λ i. grids_of (sym w.in-Some.is i) (reverse c.self.inside.before.items)) ∙ c.self.view_is
  | in-None w ↦ (λ i. grids_of (w.newest-is i) (reverse c.in_ok-before.before.items)) ∙ (λ i. grids_of (sym w.in-None.is i) (reverse c.self.inside.before.items)) ∙ c.self.view_is
]
