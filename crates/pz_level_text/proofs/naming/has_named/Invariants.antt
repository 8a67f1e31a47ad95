use Rattle.pz_level_text.proofs.Common.{◌≡◌, drop, member, has_name, chosen_from}
use Rattle.pz_level_text.proofs.naming.has_named.Given as goal

abbrev pub invariant-loop-object : goal.invariant-loop-object
invariant-loop-object l = has_name (chosen_from (member l.standing) l.object (drop l.object l.objects)) l.name ≡ has_name (chosen_from (member l.standing) 0 l.objects) l.name
