use Rattle.std.proofs.Common.{◌≡◌, ◌++◌, drop, flat_map, map}
use Rattle.pz_describe.specs.Values.{text}
use Rattle.pz_describe.proofs.objects.put_each.Given as goal

abbrev pub invariant-loop-text : goal.invariant-loop-text
invariant-loop-text l = l.page ++ flat_map text (map (λ text. text.now) (drop l.text-index l.texts)) ≡ l.fn.page ++ flat_map text (map (λ text. text.now) l.texts)
