-- One more cell is written.
use Rattle.std.proofs.Common.{◌≡◌, ℕ, ◌+◌, ◌≤◌, ◌<◌, ◌%◌, ◌++◌, ◌∷◌, [], List, Option, All, length, take, get_or, map, refl, ap, sym, ◌∙◌, subst, arith}
use Rattle.std.proofs.lemmas.List.{get_or-map, get_or_default, length-map, map_push}
use Rattle.std.proofs.lemmas.List.Elements.{All-get_or, All-push}
use Rattle.json.specs.Print.{escape}
use Rattle.pz_base.specs.NameSet.{number_in}
use Rattle.pz_json_text.specs.declared.written.Written.{Written}
use Rattle.pz_json_text.specs.Labels.{text_at}
use Rattle.pz_json_text.specs.CellTexts.{known_of, piece, with_cell, line_end, text_to}
use Rattle.pz_json_text.specs.Written.{AreWritten, AreFirsts}
use Rattle.pz_json_text.proofs.Escaping.{escape-append}
use Rattle.pz_json_text.proofs.KnownCells.{cell_written, cell_known}

-- what is written of one more cell, and of the line that it may end
text_more : (width : ℕ) (all : List (List ℕ)) (k : ℕ) (old new cell : List ℕ) → get_or all k [] ≡ cell
    → old ≡ escape (text_to width all k) → new ≡ (old ++ escape (piece (known_of (take k all)) cell)) ++ escape (line_end width (k + 1))
    → new ≡ escape (text_to width all (k + 1))
text_more width all k old new cell item before now =
    let text = text_to width all k in
    let known = known_of (take k all) in
    let written = piece known cell in
    let end = line_end width (k + 1) in
    now ∙ ap (λ l. (l ++ escape written) ++ escape end) before
    ∙ sym (escape-append (text ++ written) end ∙ ap (λ l. l ++ escape end) (escape-append text written))
    ∙ ap escape (cell_written width all k text (text ++ written) ((text ++ written) ++ end) known cell refl refl item refl refl)

pub cell_more : (width : ℕ) (all texts : List (List ℕ)) (at : Written) (json : List ℕ) (given : List (Option ℕ)) → AreWritten width all texts at json given
    → (cell : List ℕ) → at.cells < length all → get_or all at.cells [] ≡ cell
    → (next : Written) (new : List ℕ) (more : List (Option ℕ)) → next.cells ≡ at.cells + 1
    → take next.end new ≡ (take at.end json ++ escape (piece (known_of (take at.cells all)) cell)) ++ escape (line_end width (at.cells + 1))
    → next.end ≤ length new
    → more ≡ map (number_in (with_cell (known_of (take at.cells all)) cell)) texts
    → next.known ≡ length (with_cell (known_of (take at.cells all)) cell)
    → next.known ≤ at.cells + 1
    → next.column ≡ (at.cells + 1) % width
    → next.column < width
    → AreWritten width all texts next new more
cell_more width all texts at json given before cell here item next new more cells text within numbers known few column line =
    let after = cell_known all at.cells (known_of (take at.cells all)) (with_cell (known_of (take at.cells all)) cell) cell here refl item refl in
    record {
      text = text_more width all at.cells (take at.end json) (take next.end new) cell item before.text text ∙ ap (λ n. escape (text_to width all n)) (sym cells);
      within = within;
      numbers = numbers ∙ ap (λ l. map (number_in l) texts) after ∙ ap (λ n. map (number_in (known_of (take n all))) texts) (sym cells);
      known = known ∙ ap length after ∙ ap (λ n. length (known_of (take n all))) (sym cells);
      few = omega (arith, cells, few);
      column = column ∙ ap (λ n. n % width) (sym cells);
      line = line;
      cells = omega (arith, cells, here);
    }

-- the text of a cell is that of its label
pub labelled : (texts : List (List ℕ)) (labels : List ℕ) (k : ℕ) → k < length labels → All (λ label. label < length texts) labels
    → (k < length (map (text_at texts) labels)) × (get_or labels k 0 < length texts) × (get_or (map (text_at texts) labels) k [] ≡ text_at texts (get_or labels k 0))
labelled texts labels k here within =
    let label : ℕ = get_or labels k 0 in
    let is : label ≡ get_or labels k label = get_or_default labels k 0 label here in
    let P : ℕ → Type 0 = λ l. l < length texts in
    (rw (length-map labels (text_at texts)) here, subst P (sym is) (All-get_or P labels k label here within), get_or-map (text_at texts) labels k label [] here ∙ ap (text_at texts) (sym is))

-- the number of a text, if it has one
pub numbered_at : (texts known : List (List ℕ)) (given : List (Option ℕ)) (label : ℕ) (d : Option ℕ) → given ≡ map (number_in known) texts → label < length texts
    → get_or given label d ≡ number_in known (text_at texts label)
numbered_at texts known given label d e within = ap (λ l. get_or l label d) e ∙ get_or-map (number_in known) texts label [] d within

-- the labels of the texts that have a number, with one more cell
pub firsts_known : (all texts : List (List ℕ)) (k : ℕ) (firsts : List ℕ) (cell : List ℕ) → AreFirsts all texts k firsts → k < length all → get_or all k [] ≡ cell
    → with_cell (known_of (take k all)) cell ≡ known_of (take k all) → AreFirsts all texts (k + 1) firsts
firsts_known all texts k firsts cell before here item same = record {
  known = before.known ∙ sym same ∙ cell_known all k (known_of (take k all)) (with_cell (known_of (take k all)) cell) cell here refl item refl;
  within = before.within;
}

pub firsts_new : (all texts : List (List ℕ)) (k : ℕ) (firsts : List ℕ) (label : ℕ) → AreFirsts all texts k firsts → k < length all → get_or all k [] ≡ text_at texts label → label < length texts
    → with_cell (known_of (take k all)) (text_at texts label) ≡ known_of (take k all) ++ text_at texts label ∷ [] → AreFirsts all texts (k + 1) (firsts ++ label ∷ [])
firsts_new all texts k firsts label before here item within new =
    let cell = text_at texts label in
    let P : ℕ → Type 0 = λ l. l < length texts in
    record {
      known = map_push (text_at texts) firsts label ∙ ap (λ l. l ++ cell ∷ []) before.known ∙ sym new ∙ cell_known all k (known_of (take k all)) (with_cell (known_of (take k all)) cell) cell here refl item refl;
      within = All-push P firsts label before.within within;
    }
