use Rattle.std.proofs.Common.{◌≡◌, ℕ, ◌<◌, length}
use Rattle.std.specs.Prelude.{slice_get, IfSome}
use Rattle.pz_store.proofs.rows.Rows.copy_to.Given as goal

-- the numbers so far are copied
abbrev pub invariant-loop-index : goal.invariant-loop-index
invariant-loop-index l = record {
  long : length l.row ≡ l.self.long;
  copied : IfSome (slice_get l.self.rows l.place) (λ row. (index : ℕ) → index < l.index → slice_get l.row index ≡ slice_get row index);
}
