use Rattle.std.proofs.Common.{◌≡◌, drop}
use Rattle.std.specs.List.{flat_map}
use Rattle.pz_base.specs.Lists.{added_all, firsts}
use Rattle.pz_plan.specs.Same.{says_the_same}
use Rattle.pz_plan.specs.Spelling.{mentions_at}
use Rattle.pz_plan.proofs.spelling.spelled_out.Given as goal

abbrev pub invariant-loop-phrase : goal.invariant-loop-phrase
invariant-loop-phrase l =
    added_all (says_the_same l.side) l.mentions.items (flat_map (mentions_at l.table) (drop l.phrase-index l.phrase-items)) ≡ firsts (says_the_same l.side) (flat_map (mentions_at l.table) l.phrase-items)
