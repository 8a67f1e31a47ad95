use Rattle.std.proofs.Common.{◌≡◌, fold, length, map}
use Rattle.std.specs.List.{slice_split}
use Rattle.pz_entries.specs.Names.{with_word, name_set, is_space}
use Rattle.pz_entries.proofs.names.read_names.Given as goal

abbrev pub invariant-words : goal.invariant-words
invariant-words l = fold with_word (map (λ name. name.items) l.names.keys) (slice_split is_space l.rest) ≡ name_set l.fn.text

abbrev pub decreases-words : goal.decreases-words
decreases-words l = length l.rest
