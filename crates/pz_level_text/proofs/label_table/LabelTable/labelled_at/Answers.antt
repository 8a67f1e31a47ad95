use Rattle.pz_level_text.proofs.Common.{◌≡◌, ℕ, List, length, get_or, arith, ap, sym, subst, ◌∙◌, slice_index, TableView, IsLabelOf}
use Rattle.pz_level_text.specs.declared.labelled_set.LabelledSet.{LabelledSet}
use Rattle.pz_level_text.proofs.Labelling.{label_of_word}
use Rattle.pz_level_text.proofs.label_table.LabelTable.labelled_at.Goals as goal

pub returns-then-words-word : goal.returns-then-words-word
returns-then-words-word c =
    let known = c.in_ok-known.known.now in
    let place = c.args.place in
    let sets = c.deref.ensures.value in
    let found = c.in_ok-known.ensures.lookup.3 in
    let there : known ≡ get_or c.self.inside.known.items place known = found.1 known ∙ ap (λ (l : List LabelledSet). get_or l place known) sets in
    let own : IsLabelOf c.self.inside.game.now.objects c.self.inside.texts known.objects known.label =
    subst (λ (s : LabelledSet). IsLabelOf c.self.inside.game.now.objects c.self.inside.texts s.objects s.label) (sym there) (c.self.invariant place known (omega (arith, found.0, ap length sets))) in
    let first : slice_index known.objects 0 ≡ c.args.word = ap (λ (l : List ℕ). slice_index l 0) (sym c.words.ensures.words) ∙ c.if-words-word.true in
    label_of_word c.args.self.now.game.objects c.args.self.now.texts known.objects c.args.word known.label c.requires first
    (subst (λ (t : TableView). IsLabelOf t.game.objects t.texts known.objects known.label) c.self.view_is own)
