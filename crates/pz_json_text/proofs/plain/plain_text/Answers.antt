use Rattle.std.proofs.Common.{rules, ◌≡◌, ◌<◌, ◌++◌, ◌∷◌, [], length, decimal, string_bytes, ℕ, ◌+◌, ◌%◌, ◌≤◌, List, Vec, Global, Option, None, Some, get_or, take, map, refl, replicate, slice_set, ap, ap₂, sym, ◌∙◌, subst, arith}
use Rattle.std.proofs.Math.Nat.{mod-lt, mod-eq_of_lt}
use Rattle.std.proofs.lemmas.List.{get_or-map, get_or_default, length-map}
use Rattle.std.proofs.lemmas.List.Elements.{All-get_or}
use Rattle.pz_base.specs.NameSet.{number_in}
use Rattle.pz_json_text.specs.Labels.{text_at}
use Rattle.pz_json_text.specs.CellTexts.{known_of, piece, with_cell}
use Rattle.pz_json_text.proofs.KnownCells.{cell_written, cell_known}
use Rattle.pz_json_text.proofs.LabelTexts.{none_numbered, one_known, known_piece, new_piece, numbers_more}
use Rattle.pz_json_text.proofs.plain.plain_text.Goals as goal
use Rattle.pz_json_text.proofs.plain.plain_text.Goals.{in-Some+in_ok-write_number-in-Some, in-None+in_ok-write_new-in-None}

pub loop-cell-init : goal.loop-cell-init
loop-cell-init c = record {
  text = search rules;
  numbers = c.in_ok-numbers.ensures ∙ ap (λ n. replicate n None) c.len.ensures.count ∙ none_numbered c.args.texts.now;
  count = refl;
  few = omega arith;
  column = sym (mod-eq_of_lt c.requires.wide);
  within = c.requires.wide;
}

pub loop-cell-preserved : goal.loop-cell-preserved
loop-cell-preserved c =
    let texts = c.args.texts.now in
    let items = c.args.labels.now in
    let text : ℕ → List ℕ = text_at texts in
    let cells = map text items in
    let k = c.loop-cell.cell-index in
    let label : ℕ = get_or items k 0 in
    let cell = text_at texts label in
    let known = known_of (take k cells) in
    let here : k < length items = c.loop-cell-test.true in
    let is : label ≡ get_or items k label = get_or_default items k 0 label here in
    let P : ℕ → Type 0 = λ l. l < length texts in
    let within : label < length texts = subst P (sym is) (All-get_or P items k label here c.requires.within) in
    let item : get_or cells k [] ≡ cell = get_or-map text items k label [] here ∙ ap text (sym is) in
    let found : c.index.result.now ≡ number_in known cell =
    c.index.ensures ∙ ap (λ l. get_or l label c.index.result.now) c.loop-cell.invariant.numbers ∙ get_or-map (number_in known) texts label [] c.index.result.now within in
    let after : (string_bytes c.match-index.text ≡ string_bytes c.loop-cell.text ++ piece known cell)
    × ((c.match-index.numbers.items ≡ map (number_in (with_cell known cell)) texts)
    × ((c.match-index.count ≡ length (with_cell known cell)) × (c.match-index.count ≤ k + 1))) =
    elim c.match-index.branch [
      | in-Some+in_ok-write_number-in-Some w ↦
          let parts = known_piece known cell w.in-Some.number (sym found ∙ w.in-Some.is) in
          (rw (w.text-is, parts.0) w.in_ok-write_number-in-Some.ensures, (rw (w.numbers-is, parts.1) c.loop-cell.invariant.numbers, (rw (w.count-is, parts.1) c.loop-cell.invariant.count, omega (arith, w.count-is, c.loop-cell.invariant.few))))
      | in-None+in_ok-write_new-in-None w ↦
          let parts = new_piece known cell (sym found ∙ w.in-None.is) in
          let number : c.loop-cell.count ≡ length known = c.loop-cell.invariant.count in
          let all : string_bytes c.match-index.text ≡ string_bytes c.loop-cell.text ++ (cell ++ 58 ∷ [] ++ decimal (length known) ++ 44 ∷ []) =
          ap string_bytes w.text-is ∙ w.in_ok-write_new-in-None.ensures
          ∙ ap₂ (λ t n. string_bytes c.loop-cell.text ++ (t ++ 58 ∷ [] ++ decimal n ++ 44 ∷ [])) w.text.ensures number in
          let put : c.match-index.numbers.items ≡ slice_set c.loop-cell.numbers.items label (Some c.loop-cell.count) = ap (λ (v : Vec (Option ℕ) Global). v.items) w.numbers-is in
          let counted : c.match-index.count ≡ c.loop-cell.count + 1 = w.count-is in (
            rw parts.0 all,
            (
              rw parts.1 (put ∙ ap₂ (λ l n. slice_set l label (Some n)) c.loop-cell.invariant.numbers number ∙ numbers_more known texts label c.len.ensures.distinct within (sym found ∙ w.in-None.is)),
              (
                rw parts.1 (counted ∙ ap (λ n. n + 1) number ∙ sym (one_known known cell)),
                omega (arith, counted, c.loop-cell.invariant.few),
              ),
            ),
          )
    ] in
    let next : c.in_ok-column.column ≡ (k + 1) % c.args.width = c.in_ok-column.ensures.column k c.loop-cell.invariant.column in
    record {
      text = cell_written c.args.width cells k _ _ _ known cell c.loop-cell.invariant.text refl item after.0 (c.in_ok-column.ensures.ended k c.loop-cell.invariant.column);
      numbers = after.1.0 ∙ ap (λ l. map (number_in l) texts) (cell_known cells k known (with_cell known cell) cell (rw (length-map items text) here) refl item refl);
      count = after.1.1.0 ∙ ap length (cell_known cells k known (with_cell known cell) cell (rw (length-map items text) here) refl item refl);
      few = after.1.1.1;
      column = next;
      within = omega (arith, next, mod-lt (k + 1) c.requires.wide);
    }
