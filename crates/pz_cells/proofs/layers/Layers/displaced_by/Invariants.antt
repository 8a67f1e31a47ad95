use Rattle.pz_cells.proofs.Common.{◌≡◌, ℕ, ◌<◌, ◌||◌, drop, is_displaced, length, member}
use Rattle.pz_cells.proofs.layers.Layers.displaced_by.Given as goal

abbrev pub invariant-loop-item : goal.invariant-loop-item
invariant-loop-item g l = (object : ℕ) → object < length l.self.layers → is_displaced l.self.layers l.right object ≡ (member l.objects object || is_displaced l.self.layers (drop l.item-index l.right) object)
