use Rattle.pz_level_text.proofs.Common.{◌≡◌, drop, map, fold, member, with_name, set_of, chosen_from}
use Rattle.pz_level_text.proofs.set_text.names_of.Given as goal

abbrev pub invariant-loop-object : goal.invariant-loop-object
invariant-loop-object l = fold with_name (map (λ name. name.now) l.chosen.keys) (chosen_from (member l.objects) l.object (drop l.object l.names)) ≡ set_of (chosen_from (member l.objects) 0 l.names)
