use Rattle.std.proofs.Common.{◌≡◌, ℕ, ◌+◌, ◌≤◌, ◌++◌, ◌∷◌, [], List, Option, Vec, Global, Some, None, length, take, get_or, map, slice_set, decimal, refl, arith, ap, ap₂, sym, ◌∙◌, subst}
use Rattle.json.specs.Print.{escape}
use Rattle.pz_base.specs.NameSet.{number_in}
use Rattle.pz_json_text.specs.declared.written.Written.{Written}
use Rattle.pz_json_text.specs.Labels.{text_at}
use Rattle.pz_json_text.specs.CellTexts.{known_of, line_end, piece, with_cell}
use Rattle.pz_json_text.specs.Written.{AreWritten, AreFirsts}
use Rattle.pz_json_text.proofs.Escaping.{lent}
use Rattle.pz_json_text.proofs.LabelTexts.{known_piece, new_piece, numbers_more, one_known}
use Rattle.pz_json_text.proofs.WrittenCells.{cell_more, firsts_known, firsts_new, numbered_at, labelled}
use Rattle.pz_json_text.proofs.escaped.write_cell.Goals as goal
use Rattle.pz_json_text.proofs.escaped.write_cell.Goals.{in-Some+in_ok-end-in-Some, in-None+in_ok-end-in-None+in_ok-push-in-None}

pub returns-clause-written : goal.returns-clause-written
returns-clause-written c =
    let texts = c.args.texts.now in
    let items = c.args.labels.now in
    let all = map (text_at texts) items in
    let k = c.args.at.cells in
    let label : ℕ = get_or items k 0 in
    let cell = text_at texts label in
    let known = known_of (take k all) in
    let before = c.requires.at in
    let old = take c.args.at.end c.args.json.now.items in
    let is = labelled texts items k c.requires.here c.requires.within in
    let found : c.index.result.now ≡ number_in known cell = c.index.ensures ∙ numbered_at texts known c.args.numbers.now.items label c.index.result.now before.numbers is.1 in
    let after : (take c.match-index.end c.match-index.json.items ≡ old ++ escape (piece known cell))
    × ((c.match-index.numbers.items ≡ map (number_in (with_cell known cell)) texts)
    × ((c.match-index.known ≡ length (with_cell known cell)) × (c.match-index.known ≤ k + 1))) =
    elim c.match-index.branch [
      | in-Some+in_ok-end-in-Some w ↦
          let parts = known_piece known cell w.in-Some.number (sym found ∙ w.in-Some.is) in
          (rw (w.end-is, w.json-is, parts.0) w.in_ok-end-in-Some.ensures.written, (rw (w.numbers-is, parts.1) before.numbers, (rw (w.known-is, parts.1) before.known, omega (arith, w.known-is, before.few))))
      | in-None+in_ok-end-in-None+in_ok-push-in-None w ↦
          let none : number_in known cell ≡ None = sym found ∙ w.in-None.is in
          let parts = new_piece known cell none in
          let count : c.args.at.known ≡ length known = before.known in
          let written : take c.match-index.end c.match-index.json.items ≡ old ++ escape (cell ++ 58 ∷ [] ++ decimal (length known) ++ 44 ∷ []) =
          rw (w.end-is, w.json-is) (w.in_ok-end-in-None.ensures.written ∙ ap₂ (λ t n. old ++ escape (t ++ 58 ∷ [] ++ decimal n ++ 44 ∷ [])) w.quoted.ensures.text count) in
          let put : c.match-index.numbers.items ≡ slice_set c.args.numbers.now.items label (Some c.args.at.known) = ap (λ (v : Vec (Option ℕ) Global). v.items) w.numbers-is in
          let counted : c.match-index.known ≡ c.args.at.known + 1 = w.known-is in (
            rw parts.0 written,
            (
              rw parts.1 (put ∙ ap₂ (λ l n. slice_set l label (Some n)) before.numbers count ∙ numbers_more known texts label w.quoted.ensures.distinct is.1 none),
              (
                rw parts.1 (counted ∙ ap (λ n. n + 1) count ∙ sym (one_known known cell)),
                omega (arith, counted, before.few),
              ),
            ),
          )
    ] in
    let long : length c.end_line-end.new.json ≡ c.make_way.new.json.len = c.end_line-end.ensures.room ∙ c.as_mut_slice.ensures.len in
    let next : Written = record { end = c.end_line-end.result.0; cells = k + 1; known = c.match-index.known; column = c.end_line-end.result.1 } in
    subst (λ (j : List ℕ). AreWritten c.args.width all texts next j c.match-index.numbers.items) (sym (lent c.make_way.new.json.len c.end_line-end.new.json c.make_way.new.json.items long))
    (cell_more c.args.width all texts c.args.at c.args.json.now.items c.args.numbers.now.items before cell is.0 is.2 next c.end_line-end.new.json c.match-index.numbers.items refl
    (c.end_line-end.ensures.written k before.column
    ∙ ap (λ l. l ++ escape (line_end c.args.width (k + 1))) (ap (take c.match-index.end) c.as_mut_slice.ensures.value ∙ c.in_ok-make_way.ensures.kept ∙ after.0))
    (omega (arith, c.end_line-end.ensures.end, c.end_line-end.ensures.room, ap length c.as_mut_slice.ensures.value, c.in_ok-make_way.ensures.room))
    after.1.0
    after.1.1.0
    after.1.1.1
    (c.end_line-end.ensures.column k before.column)
    c.end_line-end.ensures.line)

pub returns-clause-firsts : goal.returns-clause-firsts
returns-clause-firsts c =
    let texts = c.args.texts.now in
    let items = c.args.labels.now in
    let all = map (text_at texts) items in
    let k = c.args.at.cells in
    let label : ℕ = get_or items k 0 in
    let cell = text_at texts label in
    let known = known_of (take k all) in
    let before = c.requires.at in
    let is = labelled texts items k c.requires.here c.requires.within in
    let found : c.index.result.now ≡ number_in known cell = c.index.ensures ∙ numbered_at texts known c.args.numbers.now.items label c.index.result.now before.numbers is.1 in
    elim c.match-index.branch [
      | in-Some+in_ok-end-in-Some w ↦
          let parts = known_piece known cell w.in-Some.number (sym found ∙ w.in-Some.is) in
          subst (λ (v : Vec ℕ Global). AreFirsts all texts (k + 1) v.items) (sym w.firsts-is) (firsts_known all texts k c.args.firsts.now.items cell c.requires.firsts is.0 is.2 parts.1)
      | in-None+in_ok-end-in-None+in_ok-push-in-None w ↦
          let none : number_in known cell ≡ None = sym found ∙ w.in-None.is in
          let parts = new_piece known cell none in
          let pushed : c.match-index.firsts.items ≡ c.args.firsts.now.items ++ label ∷ [] = ap (λ (v : Vec ℕ Global). v.items) w.firsts-is ∙ w.in_ok-push-in-None.ensures.items in
          subst (AreFirsts all texts (k + 1)) (sym pushed) (firsts_new all texts k c.args.firsts.now.items label c.requires.firsts is.0 is.2 is.1 parts.1)
    ]
