use Rattle.std.proofs.Common.{◌≡◌, ◌==◌, ◌<◌, ℕ, length, drop}
use Rattle.std.specs.Prelude.{if◌then◌else◌, Some}
use Rattle.std.specs.List.{list_any}
use Rattle.pz_source.specs.Layers.{entry_at}
use Rattle.pz_source.proofs.layers.put_objects.Given as goal

abbrev pub invariant-loop-object : goal.invariant-loop-object
invariant-loop-object l =
    (k : ℕ) → k < length l.initial.table
    → (if list_any (λ o. o == k) (drop l.object-index l.objects) then Some l.layer else entry_at l.table k)
    ≡ (if list_any (λ o. o == k) l.objects then Some l.layer else entry_at l.initial.table k)
