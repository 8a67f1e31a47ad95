-- A whole text in which one cell gets another set of names, and one digit changes.
use Rattle.std.proofs.Common.{◌≡◌, ℕ, suc, zero, ◌+◌, ◌-◌, ◌*◌, ◌/◌, ◌%◌, ◌≤◌, ◌<◌, List, [], ◌∷◌, ◌++◌, Option, None, Some, length, take, drop, get_or, map, set, min, All, ◌==◌, refl, ap, ap₂, sym, ◌∙◌, subst, arith, inl, inr}
use Rattle.std.proofs.Math.Nat.{mod-lt}
use Rattle.std.proofs.lemmas.Nat.{div-add-mod', div-mul-add, le-div}
use Rattle.std.proofs.lemmas.List.{append_assoc, take-append-drop, take-set-le, length-set, length-append, length-map, length-take-le, get_or-set_same, get_or-map, take_at, set_at, set-append_left, set_split, drop-set-lt, drop-set-add, drop_more}
use Rattle.std.proofs.lemmas.Bool.{cases_lt, eqb-true}
use Rattle.std.proofs.lemmas.Iterator.Adapters.{position_from-zero}
use Rattle.std.proofs.lemmas.List.Quantifiers.{position-Some}
use Rattle.std.proofs.lemmas.Slice.Eq.{bytes_eq-Decides}
use Rattle.std.specs.List.{position, position_from}
use Rattle.std.specs.Str.{bytes_eq}
use Rattle.json.specs.Print.{escape}
use Rattle.pz_base.specs.NameSet.{number_in}
use Rattle.pz_json_text.specs.declared.draft.Draft.{Draft}
use Rattle.pz_json_text.specs.declared.draft.TheConstants.{STEP}
use Rattle.pz_json_text.specs.declared.written.Written.{Written}
use Rattle.pz_json_text.specs.Labels.{AreDistinct, text_at}
use Rattle.pz_json_text.specs.CellTexts.{known_of, with_cell, piece, line_end, cell_text, text_to, text_of_cells}
use Rattle.pz_json_text.specs.Written.{HasTextBut, HasTextOf, IsDigitAt, IsSameBut, IsWhole, RoomView, written_to}
use Rattle.pz_json_text.proofs.Changes.{one_changed}
use Rattle.pz_json_text.proofs.Drafts.{StoodAt, goes_far, stood_at}
use Rattle.pz_json_text.proofs.Escaping.{escape-append, escape-digit, line_feed}
use Rattle.pz_json_text.proofs.Keeping.{GoesOn, same_front, goes_on, first_known, distinct_known, none_more, one_more}
use Rattle.pz_json_text.proofs.KnownCells.{known_more, text_to_more}
use Rattle.pz_json_text.proofs.LabelTexts.{known_piece, new_piece, none_at, one_known, has_label}
use Rattle.pz_json_text.proofs.Walking.{in_line, unended, ended}

-- ---- a cell that is written as a digit
pub one_digit : (width : ℕ) (all : List (List ℕ)) (k n : ℕ) → number_in (known_of (take k all)) (get_or all k []) ≡ Some n → n < 10
    → escape (cell_text width all k) ≡ (48 + n) ∷ 44 ∷ escape (line_end width (k + 1))
one_digit width all k n e few =
    let known = known_of (take k all) in
    let cell = get_or all k [] in
    let line = line_end width (k + 1) in
    escape-append (piece known cell) line
    ∙ ap (λ (l : List ℕ). escape l ++ escape line) (known_piece known cell n e).0
    ∙ ap (λ (l : List ℕ). l ++ escape line) (escape-digit n few)

-- a cell that brings no new set has a number
pub record HasNumber (all : List (List ℕ)) (k : ℕ) : Type 0 where
  pub number : ℕ
  pub is : number_in (known_of (take k all)) (get_or all k []) ≡ Some number
  pub few : number < length (known_of (take k all))

pub has_number : (all : List (List ℕ)) (k : ℕ) → k < length all → length (known_of (take (k + 1) all)) ≡ length (known_of (take k all)) → HasNumber all k
has_number all k here same = by (number_in known cell) refl
  where
    known : List (List ℕ)
    known = known_of (take k all)

    cell : List ℕ
    cell = get_or all k []

    by : (o : Option ℕ) → number_in known cell ≡ o → HasNumber all k
    by (Some n) e = record { number = n; is = e; few = (has_label known cell n e).0 }
    by None e = absurd (omega (arith, same, ap length (known_more all k here ∙ (new_piece known cell e).1), one_known known cell))

-- ---- where such a cell stands
-- the line breaks that are written so far
line_long : (width k : ℕ) → 0 < width → length (escape (line_end width (k + 1))) + 2 * (k / width) ≡ 2 * ((k + 1) / width)
line_long width k wide = elim (cases_lt (k % width + 1) width) [
  | inl more ↦ omega (arith, ap (λ (l : List ℕ). length (escape l)) (unended k width (k % width) refl more), (in_line k width more).1)
  | inr full ↦ (let split : k + 1 ≡ (k / width + 1) * width + 0 = omega (arith, full, mod-lt k wide, div-add-mod' k width) in
      let next : (k + 1) / width ≡ k / width + 1 = ap (λ n. n / width) split ∙ div-mul-add (k / width + 1) width 0 wide in
      omega (arith, next, ap (λ (l : List ℕ). length (escape l)) (ended k width (k % width) refl (mod-lt k wide) full) ∙ ap length line_feed))
]

-- cells between which no set is new
module _ (width : ℕ) (all : List (List ℕ)) (from to : ℕ) (wide : 0 < width) (within : to ≤ length all) (same : length (known_of (take to all)) ≡ length (known_of (take from all))) (few : length (known_of (take from all)) ≤ 10) where
  pub as_known : (k : ℕ) → from ≤ k → k ≤ to → length (known_of (take k all)) ≡ length (known_of (take from all))
  as_known k low high =
      let to_k : from + (k - from) ≡ k = omega (arith, low) in
      let to_end : k + (to - k) ≡ to = omega (arith, high) in
      let at_k : length (known_of (take (from + (k - from)) all)) ≡ length (known_of (take k all)) = ap (λ (m : ℕ). length (known_of (take m all))) to_k in
      let at_end : length (known_of (take (k + (to - k)) all)) ≡ length (known_of (take to all)) = ap (λ (m : ℕ). length (known_of (take m all))) to_end in
      omega (arith, same, at_k, at_end, (first_known all from (k - from) (omega (arith, to_k, high, within))).fewer, (first_known all k (to - k) (omega (arith, to_end, within))).fewer)

  pub far_at : (d : ℕ) → from + d ≤ to → length (escape (text_to width all (from + d))) + 2 * (from / width) ≡ length (escape (text_to width all from)) + 2 * (d + (from + d) / width)
  far_at zero h =
      subst (λ (m : ℕ). length (escape (text_to width all m)) + 2 * (from / width) ≡ length (escape (text_to width all from)) + 2 * (0 + m / width)) (none_more from) (omega arith)
  far_at (suc d) h =
      let k = from + d in
      let before = far_at d (omega (arith, h)) in
      let there : k + 1 ≤ to = omega (arith, h) in
      let has = has_number all k (omega (arith, there, within)) (as_known (k + 1) (omega arith) there ∙ sym (as_known k (omega arith) (omega (arith, there)))) in
      let digit = one_digit width all k has.number has.is (omega (arith, has.few, few, as_known k (omega arith) (omega (arith, there)))) in
      subst (λ (m : ℕ). length (escape (text_to width all m)) + 2 * (from / width) ≡ length (escape (text_to width all from)) + 2 * (suc d + m / width)) (one_more from d)
      (omega (arith, before, goes_far width all k (k + 1) (cell_text width all k) (text_to_more width all k), ap length digit, line_long width k wide))

-- the place of a cell, in a step in which no set is new
pub record StandsIn (width : ℕ) (all texts : List (List ℕ)) (draft : Draft) (cell : ℕ) (mark : Written) (known : ℕ) : Type 0 where
  pub cells : mark.cells ≤ cell
  pub near : cell - mark.cells < STEP
  pub small : mark.end + 2 * (cell - mark.cells + (cell / width - mark.cells / width)) ≤ draft.at.end
  pub digit : IsDigitAt width all cell (mark.end + 2 * (cell - mark.cells + (cell / width - mark.cells / width))) known

pub stands_in : (width : ℕ) (all texts : List (List ℕ)) (draft : Draft) → 0 < width → (whole : IsWhole width all texts draft) → (cell : ℕ) → cell < length all → (mark : Written) → mark ≡ get_or draft.marks.items (cell / STEP) mark
    → (known : ℕ) → known ≡ length (known_of (take (min ((cell / STEP + 1) * STEP) (length all)) all)) → known ≡ mark.known → known ≤ 10
    → StandsIn width all texts draft cell mark known
stands_in width all texts draft wide whole cell here mark read known behind same few =
    let count = cell / STEP in
    let from = count * STEP in
    let to = min ((count + 1) * STEP) (length all) in
    let low : from ≤ cell = omega arith in
    let high : cell < to = omega (arith, here) in
    let there : count < length draft.marks.items = omega (arith, low, here, whole.marks.full) in
    let is : mark ≡ written_to width all from = read ∙ whole.marks.at count mark there in
    let end : mark.end ≡ length (escape (text_to width all from)) = ap (λ (w : Written). w.end) is in
    let cells : mark.cells ≡ from = ap (λ (w : Written). w.cells) is in
    let before : mark.known ≡ length (known_of (take from all)) = ap (λ (w : Written). w.known) is in
    let within : to ≤ length all = omega arith in
    let none_new : length (known_of (take to all)) ≡ length (known_of (take from all)) = omega (arith, behind, same, before) in
    let so_few : length (known_of (take from all)) ≤ 10 = omega (arith, before, same, few) in
    let split : from + (cell - from) ≡ cell = omega (arith, low) in
    let far = subst (λ (m : ℕ). length (escape (text_to width all m)) + 2 * (from / width) ≡ length (escape (text_to width all from)) + 2 * (cell - from + m / width)) split
    (far_at width all from to wide within none_new so_few (cell - from) (omega (arith, split, high))) in
    let lines : from / width ≤ cell / width = le-div (from / width) cell width wide (omega (arith, div-add-mod' from width, low)) in
    let lines_is : mark.cells / width ≡ from / width = ap (λ (n : ℕ). n / width) cells in
    let place : mark.end + 2 * (cell - mark.cells + (cell / width - mark.cells / width)) ≡ length (escape (text_to width all cell)) = omega (arith, far, end, cells, lines, lines_is) in
    record {
      cells = omega (arith, cells, low);
      near = omega (arith, cells);
      small = omega (arith, place, (stood_at width all all texts draft whole cell (omega (arith, here))).within);
      digit = record {
        there = place;
        count = omega (arith, same, before, as_known width all from to wide within none_new so_few cell low (omega (arith, high)));
        same = omega (arith, same, before, as_known width all from to wide within none_new so_few (cell + 1) (omega (arith, low)) (omega (arith, high)));
        few = few;
      };
    }

-- ---- the label of such a cell
number_at : (texts : List (List ℕ)) (k i : ℕ) → AreDistinct texts → k < length texts → position_from (bytes_eq (get_or texts k [])) i texts ≡ Some (i + k)
number_at [] k i d h = absurd (omega arith)
number_at (t ∷ ts) zero i d h = rw ((bytes_eq-Decides t t).1 refl) (ap Some (omega arith))
number_at (t ∷ ts) (suc k) i d h = rw (none_at t ts k d.0 (omega (arith, h)), number_at ts k (i + 1) d.1 (omega (arith, h))) (ap Some (omega arith))

-- a label at this place among those that have a number has that number
pub label_number : (texts known : List (List ℕ)) (firsts : List ℕ) (label i : ℕ) → map (text_at texts) firsts ≡ known → AreDistinct known → position (λ first. first == label) firsts ≡ Some i
    → number_in known (text_at texts label) ≡ Some i
label_number texts known firsts label i named distinct found =
    let at = position-Some (λ first. first == label) firsts i 0 found in
    let text : get_or known i [] ≡ text_at texts label =
    ap (λ (l : List (List ℕ)). get_or l i []) (sym named) ∙ get_or-map (text_at texts) firsts i 0 [] at.0 ∙ ap (text_at texts) (eqb-true (get_or firsts i 0) label at.1) in
    let within : i < length known = omega (arith, at.0, ap length named, length-map firsts (text_at texts)) in
    ap (number_in known) (sym text) ∙ position_from-zero (bytes_eq (get_or known i [])) known ∙ number_at known i 0 distinct within ∙ ap Some (omega arith)

module _ (width : ℕ) (all texts : List (List ℕ)) (draft : Draft) (whole : IsWhole width all texts draft) (cell place known : ℕ) (here : cell < length all) (at : IsDigitAt width all cell place known) where
  stood : StoodAt width all all texts draft whole cell
  stood = stood_at width all all texts draft whole cell (omega (arith, here))

  pub firsts_long : known ≤ length draft.firsts.items
  firsts_long = omega (arith, at.count, stood.fewer)

  pub place_inside : place < draft.at.end
  place_inside =
      let old = has_number all cell here (at.same ∙ at.count) in
      let digit = one_digit width all cell old.number old.is (omega (arith, old.few, at.count, at.few)) in
      omega (arith, at.there, goes_far width all cell (cell + 1) (cell_text width all cell) (text_to_more width all cell), ap length digit, (stood_at width all all texts draft whole (cell + 1) (omega (arith, here))).within)

  pub number_is : (firsts : List ℕ) (label i : ℕ) → firsts ≡ take known draft.firsts.items → position (λ first. first == label) firsts ≡ Some i → (i < 10) × (number_in (known_of (take cell all)) (text_at texts label) ≡ Some i)
  number_is firsts label i front found =
      let held = known_of (take cell all) in
      let named : map (text_at texts) firsts ≡ held = ap (map (text_at texts)) (front ∙ ap (λ (n : ℕ). take n draft.firsts.items) at.count) ∙ stood.known in
      let number = label_number texts held firsts label i named (distinct_known all cell (omega (arith, here))) found in
      (omega (arith, (has_label held (text_at texts label) i number).0, at.count, at.few), number)

-- ---- a text that was whole before one cell changed
take_put : (json : List ℕ) (end place byte : ℕ) → end ≤ length json → place < end → take end (set json place byte) ≡ set (take end json) place byte
take_put json end place byte within inside =
    let front = take end json in
    let long : length front ≡ end = length-take-le end json within in
    ap (λ (l : List ℕ). take end (set l place byte)) (sym (take-append-drop end json))
    ∙ ap (take end) (set-append_left front (drop end json) place byte (omega (arith, long, inside)))
    ∙ take_at (set front place byte) (drop end json) end (length-set front place byte ∙ long)

module _ (width : ℕ) (before texts : List (List ℕ)) (last : Draft) (whole : IsWhole width before texts last) (k place known : ℕ) (here : k < length before) (at : IsDigitAt width before k place known) (cell : List ℕ) (n : ℕ) (is : number_in (known_of (take k before)) cell ≡ Some n) where
  abbrev all : List (List ℕ)
  all = set before k cell

  -- the sets that have a number at the cell
  abbrev held : List (List ℕ)
  held = known_of (take k before)

  same : IsSameBut k (k + 1) before all
  same = one_changed before k cell here

  there : k < length all
  there = omega (arith, here, same.count)

  front : (m : ℕ) → m ≤ k → take m before ≡ take m all
  front m h = sym (take-set-le m before k cell h)

  held_here : known_of (take k all) ≡ held
  held_here = ap known_of (sym (front k (omega arith)))

  item : get_or all k [] ≡ cell
  item = get_or-set_same before k cell [] here

  old : HasNumber before k
  old = has_number before k here (at.same ∙ at.count)

  few : length held ≤ 10
  few = omega (arith, at.count, at.few)

  held_next : known_of (take (k + 1) before) ≡ known_of (take (k + 1) all)
  held_next =
      known_more before k here ∙ (known_piece held (get_or before k []) old.number old.is).1
      ∙ sym (known_more all k there ∙ ap₂ with_cell held_here item ∙ (known_piece held cell n is).1)

  goes_to : (m : ℕ) → k < m → m ≤ length before → GoesOn width before all (k + 1) m
  goes_to m low high =
      let split : k + 1 + (m - (k + 1)) ≡ m = omega (arith, low) in
      subst (GoesOn width before all (k + 1)) split (goes_on width before all (k + 1) held_next same.back same.count (m - (k + 1)) (omega (arith, split, high)))

  -- the text before the cell, and what stands behind the digit
  abbrev text : List ℕ
  text = escape (text_to width before k)

  abbrev line : List ℕ
  line = escape (line_end width (k + 1))

  old_text : escape (text_to width before (k + 1)) ≡ text ++ (48 + old.number) ∷ 44 ∷ line
  old_text =
      ap escape (text_to_more width before k) ∙ escape-append (text_to width before k) (cell_text width before k)
      ∙ ap (λ (l : List ℕ). text ++ l) (one_digit width before k old.number old.is (omega (arith, old.few, few)))

  new_text : escape (text_to width all (k + 1)) ≡ text ++ (48 + n) ∷ 44 ∷ line
  new_text =
      let number : number_in (known_of (take k all)) (get_or all k []) ≡ Some n = ap₂ number_in held_here item ∙ is in
      ap escape (text_to_more width all k) ∙ escape-append (text_to width all k) (cell_text width all k)
      ∙ ap₂ (λ (a b : List ℕ). escape a ++ b) (sym (same_front width before all k (front k (omega arith)))) (one_digit width all k n number (omega (arith, (has_label held cell n is).0, few)))

  as_long : length (escape (text_to width before (k + 1))) ≡ length (escape (text_to width all (k + 1)))
  as_long = ap length old_text ∙ length-append text ((48 + old.number) ∷ 44 ∷ line) ∙ sym (length-append text ((48 + n) ∷ 44 ∷ line)) ∙ sym (ap length new_text)

  alike : (m : ℕ) → m ≤ length before → written_to width before m ≡ written_to width all m
  alike m within = elim (cases_lt k m) [
    | inl low ↦ (let goes = goes_to m low within in
        let end : length (escape (text_to width before m)) ≡ length (escape (text_to width all m)) =
        omega (arith, goes_far width before (k + 1) m goes.rest goes.before, goes_far width all (k + 1) m goes.rest goes.after, as_long) in
        λ i. record { end = end i; cells = m; known = length (goes.known i); column = m % width })
    | inr high ↦ (let same_text = same_front width before all m (front m high) in
        λ i. record { end = length (escape (same_text i)); cells = m; known = length (known_of (front m high i)); column = m % width })
  ]

  pub patched : (new : Draft) → new.at.end ≡ last.at.end → new.json.items ≡ set last.json.items place (48 + n) → new.firsts.items ≡ last.firsts.items → new.marks.items ≡ last.marks.items → IsWhole width all texts new
  patched new end json firsts marks =
      let goes = goes_to (length before) here (omega arith) in
      let rest = 44 ∷ line ++ escape goes.rest in
      let was : take last.at.end last.json.items ≡ text ++ (48 + old.number) ∷ rest =
      whole.text ∙ ap escape goes.before ∙ escape-append (text_to width before (k + 1)) goes.rest ∙ ap (λ (l : List ℕ). l ++ escape goes.rest) old_text ∙ append_assoc text ((48 + old.number) ∷ 44 ∷ line) (escape goes.rest) in
      let now : escape (text_of_cells width all) ≡ text ++ (48 + n) ∷ rest =
      ap (λ (m : ℕ). escape (text_to width all m)) (sym same.count) ∙ ap escape goes.after ∙ escape-append (text_to width all (k + 1)) goes.rest ∙ ap (λ (l : List ℕ). l ++ escape goes.rest) new_text ∙ append_assoc text ((48 + n) ∷ 44 ∷ line) (escape goes.rest) in
      let inside : place < last.at.end = place_inside width before texts last whole k place known here at in
      record {
        text = ap₂ take end json ∙ take_put last.json.items last.at.end place (48 + n) whole.within inside ∙ ap (λ (l : List ℕ). set l place (48 + n)) was ∙ set_at text (48 + old.number) rest (48 + n) place (sym at.there) ∙ sym now;
        within = omega (arith, end, ap length json, length-set last.json.items place (48 + n), whole.within);
        firsts = record {
          known = ap (map (text_at texts)) firsts ∙ whole.firsts.known ∙ (goes_to (length before) here (omega arith)).known ∙ ap (λ (m : ℕ). known_of (take m all)) same.count;
          within = subst (λ (l : List ℕ). All (λ label. label < length texts) l) (sym firsts) whole.firsts.within;
        };
        marks = record {
          at = λ j d h. ap (λ (l : List Written). get_or l j d) marks ∙ whole.marks.at j d (omega (arith, h, ap length marks)) ∙ alike (j * STEP) (omega (arith, h, ap length marks, whole.marks.past));
          past = omega (arith, ap length marks, whole.marks.past, same.count);
          full = omega (arith, ap length marks, whole.marks.full, same.count);
        };
      }

-- ---- lists in which the same cell is replaced
take_set : (n k : ℕ) (cell : List ℕ) (cells : List (List ℕ)) → take n (set cells k cell) ≡ set (take n cells) k cell
take_set zero k cell cells = refl
take_set (suc n) k cell [] = refl
take_set (suc n) zero cell (x ∷ cells) = refl
take_set (suc n) (suc k) cell (x ∷ cells) = ap (λ (l : List (List ℕ)). x ∷ l) (take_set n k cell cells)

drop_set : (n k : ℕ) (cell : List ℕ) (before all : List (List ℕ)) → drop n before ≡ drop n all → drop n (set before k cell) ≡ drop n (set all k cell)
drop_set n k cell before all same = elim (cases_lt k n) [
  | inl low ↦ drop-set-lt n before k cell low ∙ same ∙ sym (drop-set-lt n all k cell low)
  | inr high ↦ (let split : n + (k - n) ≡ k = omega (arith, high) in
      let put : (l : List (List ℕ)) → drop n (set l k cell) ≡ set (drop n l) (k - n) cell = λ l. ap (λ (m : ℕ). drop n (set l m cell)) (sym split) ∙ drop-set-add n l (k - n) cell in
      put before ∙ ap (λ (l : List (List ℕ)). set l (k - n) cell) same ∙ sym (put all))
]

both_put : (first end k : ℕ) (cell : List ℕ) (before all : List (List ℕ)) → IsSameBut first end before all → IsSameBut first end (set before k cell) (set all k cell)
both_put first end k cell before all same = record {
  front = take_set first k cell before ∙ ap (λ (l : List (List ℕ)). set l k cell) same.front ∙ sym (take_set first k cell all);
  back = drop_set end k cell before all same.back;
  count = length-set before k cell ∙ same.count ∙ sym (length-set all k cell);
  within = omega (arith, same.within, length-set all k cell);
}

-- only one cell differs, so it was replaced
put_is : (k : ℕ) (before all : List (List ℕ)) → IsSameBut k (k + 1) before all → all ≡ set before k (get_or all k [])
put_is k before all same =
    let cell = get_or all k [] in
    let here : k < length all = omega (arith, same.within) in
    let next : suc k ≡ k + 1 = omega arith in
    sym (take-append-drop k all)
    ∙ ap₂ (λ (a b : List (List ℕ)). a ++ b) (sym same.front) (drop_more all k [] here ∙ ap (λ (l : List (List ℕ)). cell ∷ l) (sym same.back ∙ ap (λ (n : ℕ). drop n before) (sym next)))
    ∙ sym (set_split before k cell (omega (arith, here, same.count)))

-- the text of cells that differ in a range from these, with the same cell replaced
pub text_follows : (width first end k : ℕ) (before all texts : List (List ℕ)) (room new : RoomView) (has : HasTextBut width first end before texts room) → IsSameBut k (k + 1) before all
    → HasTextOf width (set has.before k (get_or all k [])) texts new → HasTextBut width first end all texts new
text_follows width first end k before all texts room new has same text = record {
  before = set has.before k (get_or all k []);
  text = text;
  same = subst (IsSameBut first end (set has.before k (get_or all k []))) (sym (put_is k before all same)) (both_put first end k (get_or all k []) has.before before has.same);
}
