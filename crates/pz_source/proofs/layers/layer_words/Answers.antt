use Rattle.std.proofs.Common.{◌==◌, ◌||◌, not, length, rules}
use Rattle.std.specs.Char.{is_whitespace}
use Rattle.std.proofs.lemmas.Iterator.Consumers.{map_from_collect, YieldsList-from_filter, YieldsList-at}
use Rattle.std.proofs.lemmas.Iterator.Splits.{YieldsList-from_slice_split}
use Rattle.pz_source.proofs.layers.layer_words.Goals as goal

pub returns : goal.returns
returns c =
    let parts = YieldsList-from_slice_split _ (λ c. is_whitespace c || c == 44) c.args.line.now c.split.ensures.rest c.split.ensures.done c.split.ensures.closure (λ x q k. search rules) in
    map_from_collect _ c.collect.ensures.ran
    (YieldsList-from_filter _ (λ word. not (length word == 0)) (YieldsList-at c.filter.ensures.source parts) c.filter.ensures.closure (λ x b q k. search rules))
