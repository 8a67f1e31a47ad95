use Rattle.std.proofs.Common.{◌≡◌, ℕ, ◌<◌, All, false, length, nat_eq}
use Rattle.std.specs.Prelude.{slice_get}
use Rattle.std.specs.List.{list_any}
use Rattle.pz_solve.proofs.origin.note_cells.Given as goal

-- the cells so far
abbrev pub invariant-loop-index : goal.invariant-loop-index
invariant-loop-index l = record {
  within : All (λ cell. cell < length l.old) l.cells.items;
  rest : (index : ℕ) → index < l.index → list_any (nat_eq index) l.cells.items ≡ false → slice_get l.old index ≡ slice_get l.new index;
}
