use Rattle.std.proofs.Common.{◌≡◌, ℕ, List, true, rules, arith}
use Rattle.std.proofs.lemmas.List.Elements.{AllWithin-more, at_read}
use Rattle.pz_base.specs.NameSet.{number_in}
use Rattle.pz_job.proofs.same.same_numbers.Goals as goal

pub loop-number-preserved : goal.loop-number-preserved
loop-number-preserved c =
    let number = c.loop-number.number in
    let words = c.args.words.now in
    let word = c.index-words-number.result in
    let game = c.args.game.now.names in
    let other = c.args.other.now.names in
    let same : c.same_number.result ≡ true = search rules in
    let mine = c.number_of.ensures in
    let theirs = c.number_of-in-loop-number.ensures in
    let text = c.as_str-word.ensures in
    let alike = c.same_number.ensures same in
    let here : number_in game word ≡ number_in other word = cc in
    AllWithin-more (λ (w : List ℕ). number_in game w ≡ number_in other w) words 0 number c.loop-number.invariant
    (at_read words (λ (w : List ℕ). number_in game w ≡ number_in other w) number word c.loop-number-test.true c.index-words-number.is here)

pub returns : goal.returns
returns c = λ _ k d less. c.loop-number.invariant k d (omega arith) (omega arith)
