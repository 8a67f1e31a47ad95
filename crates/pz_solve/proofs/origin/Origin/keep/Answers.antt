use Rattle.std.proofs.Common.{sym, subst}
use Rattle.std.proofs.lemmas.Option.{same_Some}
use Rattle.pz_bare.specs.Differing.{DifferWithin}
use Rattle.pz_sheet.specs.Grid.{SameSize}
use Rattle.pz_sheet.proofs.NewerLemmas.{size_back}
use Rattle.pz_store.proofs.Books.{as_many}
use Rattle.pz_solve.specs.Origin.{OriginState, IsPlayedFrom}
use Rattle.pz_solve.proofs.origin.Origin.keep.Goals as goal

pub invariant_of-self : goal.invariant_of-self
invariant_of-self c =
    let grid = c.self.inside.level.grid in
    let changed = c.self.inside.changed.items in
    let is = c.self.view_is in
    let size : SameSize grid c.args.level.grid = subst (λ (h : OriginState). SameSize h.grid c.args.level.grid) (sym is) c.requires.size in
    let played : IsPlayedFrom grid changed c.args.level = record {
      size = size_back grid c.args.level.grid size;
      long = as_many grid c.args.level.grid c.width.ensures.lawful c.width-2.ensures.lawful size;
      rest = subst (λ (h : OriginState). DifferWithin h.changed c.args.level.grid h.grid) (sym is) c.requires.rest;
    } in
    record {
      same = c.self.invariant.same;
      within = c.self.invariant.within;
      played = λ work there. subst (IsPlayedFrom grid changed) (same_Some c.args.level work there) played;
    }
