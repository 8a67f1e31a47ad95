use Rattle.pz_level_text.proofs.Common.{◌≡◌, drop, list_all, member, has_name, chosen_from}
use Rattle.pz_level_text.proofs.naming.is_within.Given as goal

abbrev pub invariant-loop-object : goal.invariant-loop-object
invariant-loop-object l =
    list_all (has_name l.names) (chosen_from (member l.standing) l.object (drop l.object l.objects)) ≡ list_all (has_name l.names) (chosen_from (member l.standing) 0 l.objects)
