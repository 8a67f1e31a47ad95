use Rattle.std.proofs.Common.{◌≡◌, Some, ap, subst, arith}
use Rattle.std.specs.Prelude.{option_map, slice_get}
use Rattle.pz_sheet.specs.Grid.{Grid}
use Rattle.pz_solve.specs.Noted.{IsKept, IsPlaced, entry_of, link_of}
use Rattle.pz_solve.proofs.Finding.{length_links, link_there}
use Rattle.pz_solve.proofs.search.Search.link.Goals as goal
use Rattle.pz_solve.proofs.search.Search.link.Goals.{After-index}

pub index-requires : goal.index-requires
index-requires c = omega (arith, c.requires, c.self.inside.links.ok.0, length_links c.self.inside.levels.grids c.self.inside.links.items c.args.self.now c.self.invariant.linked c.self.view_is)

-- the level whose link it is
found : (c : After-index) → (grid : Grid) × (slice_get c.args.self.now c.args.index ≡ Some (entry_of grid c.index.result.now))
found c = link_there c.self.inside.levels.grids c.self.inside.links.items c.args.self.now c.args.index c.index.result.now c.self.invariant.linked c.self.view_is c.requires c.index.ensures

placed : (c : After-index) → IsPlaced c.args.index (entry_of (found c).0 c.index.result.now)
placed c =
    let kept = subst IsKept c.self.view_is c.self.invariant.kept in
    kept.placed c.args.index (entry_of (found c).0 c.index.result.now) (found c).1

pub returns-clause-link : goal.returns-clause-link
returns-clause-link c = ap (option_map link_of) (found (goal.at.returns-clause-link c).After-index).1

pub returns-clause-low : goal.returns-clause-low
returns-clause-low c = (placed (goal.at.returns-clause-low c).After-index).low

pub returns-clause-behind : goal.returns-clause-behind
returns-clause-behind c = (placed (goal.at.returns-clause-behind c).After-index).behind
