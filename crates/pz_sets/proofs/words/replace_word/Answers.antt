use Rattle.pz_sets.proofs.WordsLemmas.{changed_word}
use Rattle.pz_sets.proofs.words.replace_word.Goals as goal

pub returns-clause-changed : goal.returns-clause-changed
returns-clause-changed c = changed_word c.args.words.now c.args.index c.union-new.result c.same.result c.requires.within c.same.ensures
