use Rattle.std.proofs.Common.{◌≡◌, ◌==◌, ◌<◌, ℕ, length, drop}
use Rattle.std.specs.Prelude.{if◌then◌else◌, Some}
use Rattle.std.specs.List.{list_any}
use Rattle.pz_source.specs.Layers.{entry_at, members_of}
use Rattle.pz_source.proofs.layers.put_layer.Given as goal

abbrev pub invariant-loop-name : goal.invariant-loop-name
invariant-loop-name l =
    (k : ℕ) → k < length l.initial.table
    → (if list_any (λ name. list_any (λ o. o == k) (members_of l.names l.values name)) (drop l.name-index l.parts) then Some l.layer else entry_at l.table k)
    ≡ (if list_any (λ name. list_any (λ o. o == k) (members_of l.names l.values name)) l.parts then Some l.layer else entry_at l.initial.table k)
