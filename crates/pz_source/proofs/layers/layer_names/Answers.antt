use Rattle.std.proofs.Common.{ℕ, ◌++◌, List, Bor, map, ap, sym, ◌∙◌}
use Rattle.std.proofs.lemmas.List.{append-nil, drop_all}
use Rattle.pz_base.specs.Name.{name_of}
use Rattle.pz_source.proofs.layers.layer_names.Goals as goal

pub loop-word-init : goal.loop-word-init
loop-word-init c =
    let now = λ (word : Bor (List ℕ)). word.now in
    rw c.new-items.ensures.items (ap (map name_of) (ap (map now) c.deref-word-items.ensures.value ∙ c.in_ok-words.ensures))

pub returns : goal.returns
returns c =
    let now = λ (word : Bor (List ℕ)). word.now in
    let items = c.loop-word.items.items in
    let over = drop_all c.loop-word.word-index c.deref-word-items.result.now c.loop-word-test.false in
    sym (append-nil items) ∙ (ap (λ ws. items ++ map name_of (map now ws)) (sym over) ∙ c.loop-word.invariant)
