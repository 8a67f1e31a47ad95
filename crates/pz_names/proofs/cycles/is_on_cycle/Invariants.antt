use Rattle.pz_names.specs.Denotation.{AreMarked}
use Rattle.pz_names.proofs.SearchLemmas.{IsSearch}
use Rattle.pz_names.proofs.cycles.is_on_cycle.Given as goal

abbrev pub invariant-loop-place : goal.invariant-loop-place
invariant-loop-place l = record {
  marked : AreMarked l.marks l.found.items;
  search : IsSearch l.meanings l.number l.found.items l.place;
}
