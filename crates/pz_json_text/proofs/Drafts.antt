-- Texts of cells that are begun, that take over the front of another, and that are whole.
use Rattle.std.proofs.Common.{◌≡◌, ℕ, ◌+◌, ◌-◌, ◌*◌, ◌/◌, ◌%◌, ◌≤◌, ◌<◌, List, [], ◌∷◌, ◌++◌, Option, None, All, length, take, drop, get_or, map, replicate, refl, ap, ap₂, sym, ◌∙◌, subst, arith, inl, inr}
use Rattle.std.proofs.Math.Nat.{mod-lt, mod-eq_of_lt}
use Rattle.std.proofs.lemmas.List.{take-take, take_at, take-map, get_or-take, length-append, length-take-le, length-map, length-drop, take-append-drop, drop-drop, drop_at, get_or-drop, get_or-map, get_or_append_left, get_or-append_right}
use Rattle.std.proofs.lemmas.List.Elements.{All-head, All-nil, All-same, All-tail, All-take}
use Rattle.std.proofs.lemmas.Bool.{cases_lt}
use Rattle.json.specs.Print.{escape}
use Rattle.pz_base.specs.NameSet.{number_in}
use Rattle.pz_json_text.specs.declared.draft.Draft.{Draft}
use Rattle.pz_json_text.specs.declared.draft.TheConstants.{STEP}
use Rattle.pz_json_text.specs.declared.written.Written.{Written}
use Rattle.pz_json_text.specs.Labels.{AreDistinct, text_at}
use Rattle.pz_json_text.specs.CellTexts.{known_of, text_to, text_of_cells}
use Rattle.pz_json_text.specs.Quoted.{escaped_says}
use Rattle.pz_json_text.specs.Written.{AreWritten, IsBegun, IsWhole, IsSameBut, HasTextOf, room_of, written_to, with_shifted_end}
use Rattle.pz_json_text.proofs.Escaping.{escape-append}
use Rattle.pz_json_text.proofs.Keeping.{GoesOn, same_front, goes_on, few_known, distinct_known, first_known}
use Rattle.pz_json_text.proofs.LabelTexts.{none_numbered}
use Rattle.pz_json_text.proofs.Quoting.{room_says}

abbrev Known : List (List ℕ) → ℕ → Type 0
Known texts label = label < length texts

abbrev nothing : Written
nothing = record { end = 0; cells = 0; known = 0; column = 0 }

-- nothing is written
pub nothing_begun : (width : ℕ) (all texts : List (List ℕ)) (draft : Draft) (given : List (Option ℕ)) → 0 < width → draft.at ≡ nothing → draft.firsts.items ≡ [] → draft.marks.items ≡ []
    → given ≡ replicate (length texts) None → IsBegun width all texts draft given
nothing_begun width all texts draft given wide at firsts marks numbers =
    let cells : draft.at.cells ≡ 0 = ap (λ (w : Written). w.cells) at in
    record {
      written = subst (λ (w : Written). AreWritten width all texts w draft.json.items given) (sym at) (record {
        text = refl;
        within = omega arith;
        numbers = numbers ∙ none_numbered texts;
        known = refl;
        few = omega arith;
        column = sym (mod-eq_of_lt wide);
        line = wide;
        cells = omega arith;
      });
      firsts = record {
        known = ap (map (text_at texts)) firsts ∙ ap (λ (n : ℕ). known_of (take n all)) (sym cells);
        within = All-same (Known texts) draft.firsts.items [] firsts (All-nil (Known texts));
      };
      marks = record {
        at = λ k d h. absurd (omega (arith, h, ap length marks));
        past = omega (arith, ap length marks);
        full = omega (arith, cells);
      };
    }

-- how long a text is that goes on
pub goes_far : (width : ℕ) (all : List (List ℕ)) (from to : ℕ) (rest : List ℕ) → text_to width all to ≡ text_to width all from ++ rest → length (escape (text_to width all to)) ≡ length (escape (text_to width all from)) + length (escape rest)
goes_far width all from to rest e =
    ap (λ (l : List ℕ). length (escape l)) e ∙ ap length (escape-append (text_to width all from) rest) ∙ length-append (escape (text_to width all from)) (escape rest)

-- ---- a text that was whole before some cells changed
module _ (width : ℕ) (before all texts : List (List ℕ)) (last : Draft) (whole : IsWhole width before texts last) where
  -- how it stood after its first cells
  pub record StoodAt (n : ℕ) : Type 0 where
    pub text : take (length (escape (text_to width before n))) last.json.items ≡ escape (text_to width before n)
    pub within : length (escape (text_to width before n)) ≤ last.at.end
    pub known : map (text_at texts) (take (length (known_of (take n before))) last.firsts.items) ≡ known_of (take n before)
    pub fewer : length (known_of (take n before)) ≤ length last.firsts.items

  pub stood_at : (n : ℕ) → n ≤ length before → StoodAt n
  stood_at n h =
      let d = length before - n in
      let all_of : n + d ≡ length before = omega (arith, h) in
      let goes = goes_on width before before n refl refl refl d (omega (arith, all_of)) in
      let front = escape (text_to width before n) in
      let parts : take last.at.end last.json.items ≡ front ++ escape goes.rest =
      whole.text ∙ ap (λ (m : ℕ). escape (text_to width before m)) (sym all_of) ∙ ap escape goes.before ∙ escape-append (text_to width before n) goes.rest in
      let long : last.at.end ≡ length front + length (escape goes.rest) =
      sym (length-take-le last.at.end last.json.items whole.within) ∙ ap length parts ∙ length-append front (escape goes.rest) in
      let within : length front ≤ last.at.end = omega (arith, long) in
      let sets = first_known before n d (omega (arith, all_of)) in
      let known : map (text_at texts) last.firsts.items ≡ known_of (take (n + d) before) = whole.firsts.known ∙ ap (λ (m : ℕ). known_of (take m before)) (sym all_of) in
      let count = length (known_of (take n before)) in
      record {
        text = sym (take-take (length front) last.at.end last.json.items within) ∙ ap (take (length front)) parts ∙ take_at front (escape goes.rest) (length front) refl;
        within = within;
        known = sym (take-map (text_at texts) count last.firsts.items) ∙ ap (take count) known ∙ sets.first;
        fewer = omega (arith, sets.fewer, ap length known, length-map last.firsts.items (text_at texts));
      }

  -- a text that takes over the front of it
  module _ (first end : ℕ) (same : IsSameBut first end before all) (some : first < end) (mark : Written) (read : mark ≡ get_or last.marks.items (first / STEP) mark) where
    abbrev count : ℕ
    count = first / STEP

    abbrev n : ℕ
    n = count * STEP

    low : n ≤ first
    low = omega arith

    inside : n ≤ length all
    inside = omega (arith, low, some, same.within)

    pub few : count < length last.marks.items
    few = omega (arith, low, some, same.within, same.count, whole.marks.full)

    is : mark ≡ written_to width before n
    is = read ∙ whole.marks.at count mark few

    end_is : mark.end ≡ length (escape (text_to width before n))
    end_is = ap (λ (w : Written). w.end) is

    known_is : mark.known ≡ length (known_of (take n before))
    known_is = ap (λ (w : Written). w.known) is

    front : (m : ℕ) → m ≤ first → take m before ≡ take m all
    front m h = sym (take-take m first before h) ∙ ap (take m) same.front ∙ take-take m first all h

    alike : (m : ℕ) → m ≤ first → written_to width before m ≡ written_to width all m
    alike m h =
        let text = same_front width before all m (front m h) in
        λ i. record { end = length (escape (text i)); cells = m; known = length (known_of (front m h i)); column = m % width }

    stood : StoodAt n
    stood = stood_at n (omega (arith, inside, same.count))

    pub front_json : mark.end ≤ length last.json.items
    front_json = omega (arith, stood.within, whole.within, end_is)

    pub front_firsts : mark.known ≤ length last.firsts.items
    front_firsts = omega (arith, stood.fewer, known_is)

    front_known : (firsts : List ℕ) → firsts ≡ take mark.known last.firsts.items → map (text_at texts) firsts ≡ known_of (take n all)
    front_known firsts e =
        ap (map (text_at texts)) (e ∙ ap (λ (k : ℕ). take k last.firsts.items) known_is) ∙ stood.known ∙ ap known_of (front n low)

    pub front_distinct : (firsts : List ℕ) → firsts ≡ take mark.known last.firsts.items → AreDistinct (map (text_at texts) firsts)
    front_distinct firsts e = subst AreDistinct (sym (front_known firsts e)) (distinct_known all n inside)

    pub front_begun : (draft : Draft) (given : List (Option ℕ)) → 0 < width → draft.at ≡ mark → mark.end ≤ length draft.json.items → take mark.end draft.json.items ≡ take mark.end last.json.items
        → draft.firsts.items ≡ take mark.known last.firsts.items → draft.marks.items ≡ take count last.marks.items
        → given ≡ map (number_in (map (text_at texts) draft.firsts.items)) texts
        → IsBegun width all texts draft given
    front_begun draft given wide at room json firsts marks numbers =
        let at_mark : draft.at ≡ written_to width all n = at ∙ is ∙ alike n low in
        let text : text_to width before n ≡ text_to width all n = same_front width before all n (front n low) in
        let cells : draft.at.cells ≡ n = ap (λ (w : Written). w.cells) at_mark in
        let long : length draft.marks.items ≡ count = ap length marks ∙ length-take-le count last.marks.items (omega (arith, few)) in
        record {
          written = subst (λ (w : Written). AreWritten width all texts w draft.json.items given) (sym at_mark) (record {
            text = ap (λ (l : List ℕ). take (length (escape l)) draft.json.items) (sym text) ∙ ap (λ (e : ℕ). take e draft.json.items) (sym end_is) ∙ json ∙ ap (λ (e : ℕ). take e last.json.items) end_is ∙ stood.text ∙ ap escape text;
            within = omega (arith, room, end_is, ap (λ (l : List ℕ). length (escape l)) text);
            numbers = numbers ∙ ap (λ (l : List (List ℕ)). map (number_in l) texts) (front_known draft.firsts.items firsts);
            known = refl;
            few = few_known all n inside;
            column = refl;
            line = mod-lt n wide;
            cells = inside;
          });
          firsts = record {
            known = front_known draft.firsts.items firsts ∙ ap (λ (m : ℕ). known_of (take m all)) (sym cells);
            within = All-same (Known texts) draft.firsts.items (take mark.known last.firsts.items) firsts (All-take (Known texts) mark.known last.firsts.items whole.firsts.within);
          };
          marks = record {
            at = λ k d h.
                let here : k < count = omega (arith, h, long) in
                ap (λ (l : List Written). get_or l k d) marks ∙ get_or-take count last.marks.items k d here ∙ whole.marks.at k d (omega (arith, here, few)) ∙ alike (k * STEP) (omega (arith, here, low));
            past = omega (arith, long, cells);
            full = omega (arith, long, cells);
          };
        }

-- ---- a text that takes over the rest of another, behind a mark
module _ (width : ℕ) (before all texts : List (List ℕ)) (last : Draft) (whole : IsWhole width before texts last) (count : ℕ) (same : IsSameBut 0 (count * STEP) before all) (few : count < length last.marks.items) (mark : Written) (read : mark ≡ get_or last.marks.items count mark) where
  abbrev there : ℕ
  there = count * STEP

  pub mark_is : mark ≡ written_to width before there
  mark_is = read ∙ whole.marks.at count mark few

  mark_end : mark.end ≡ length (escape (text_to width before there))
  mark_end = ap (λ (w : Written). w.end) mark_is

  mark_known : mark.known ≡ length (known_of (take there before))
  mark_known = ap (λ (w : Written). w.known) mark_is

  pub mark_within : there < length before
  mark_within = omega (arith, few, whole.marks.past)

  mark_stood : StoodAt width before all texts last whole there
  mark_stood = stood_at width before all texts last whole there (omega (arith, mark_within))

  pub rest_json : mark.end ≤ last.at.end
  rest_json = omega (arith, mark_end, mark_stood.within)

  pub rest_firsts : mark.known ≤ length last.firsts.items
  rest_firsts = omega (arith, mark_known, mark_stood.fewer)

  pub rest_ends : All (λ next. (mark.end ≤ next.end) × (next.end ≤ last.at.end)) (drop count last.marks.items)
  rest_ends k d h =
      let in_marks : count + k < length last.marks.items = omega (arith, h, length-drop count last.marks.items) in
      let cells = (count + k) * STEP in
      let next : Written = get_or (drop count last.marks.items) k d in
      let is : next ≡ written_to width before cells = get_or-drop count last.marks.items k d ∙ whole.marks.at (count + k) d in_marks in
      let end : next.end ≡ length (escape (text_to width before cells)) = ap (λ (w : Written). w.end) is in
      let low : cells ≤ length before = omega (arith, in_marks, whole.marks.past) in
      let split : there + k * STEP ≡ cells = omega arith in
      let goes = subst (GoesOn width before before there) split (goes_on width before before there refl refl refl (k * STEP) (omega (arith, split, low))) in
      let long : length (escape (text_to width before cells)) ≡ length (escape (text_to width before there)) + length (escape goes.rest) = goes_far width before there cells goes.rest goes.before in
      (omega (arith, mark_end, end, long), omega (arith, end, (stood_at width before all texts last whole cells low).within))

  -- where the same texts have a number
  module _ (draft : Draft) (given : List (Option ℕ)) (begun : IsBegun width all texts draft given) (here : draft.at.cells ≡ there) (firsts : draft.firsts.items ≡ take mark.known last.firsts.items) where
    same_known : known_of (take there before) ≡ known_of (take there all)
    same_known =
        sym mark_stood.known
        ∙ ap (λ (k : ℕ). map (text_at texts) (take k last.firsts.items)) (sym mark_known)
        ∙ ap (map (text_at texts)) (sym firsts) ∙ begun.firsts.known ∙ ap (λ (m : ℕ). known_of (take m all)) here

    goes_to : (m : ℕ) → there ≤ m → m ≤ length before → GoesOn width before all there m
    goes_to m low high =
        let split : there + (m - there) ≡ m = omega (arith, low) in
        subst (GoesOn width before all there) split (goes_on width before all there same_known same.back same.count (m - there) (omega (arith, split, high)))

    text_here : take draft.at.end draft.json.items ≡ escape (text_to width all there)
    text_here = begun.written.text ∙ ap (λ (m : ℕ). escape (text_to width all m)) here

    end_here : draft.at.end ≡ length (escape (text_to width all there))
    end_here = sym (length-take-le draft.at.end draft.json.items begun.written.within) ∙ ap length text_here

    moved_is : (m : ℕ) → there ≤ m → m ≤ length before → with_shifted_end mark.end draft.at.end (written_to width before m) ≡ written_to width all m
    moved_is m low high =
        let goes = goes_to m low high in
        let old = goes_far width before there m goes.rest goes.before in
        let new = goes_far width all there m goes.rest goes.after in
        let end : length (escape (text_to width before m)) - mark.end + draft.at.end ≡ length (escape (text_to width all m)) = omega (arith, old, new, mark_end, end_here) in
        λ i. record { end = end i; cells = m; known = length (goes.known i); column = m % width }

    pub rest_whole : (new : Draft) → new.at.end ≤ length new.json.items
        → take new.at.end new.json.items ≡ take draft.at.end draft.json.items ++ drop mark.end (take last.at.end last.json.items)
        → new.firsts.items ≡ draft.firsts.items ++ drop mark.known last.firsts.items
        → new.marks.items ≡ draft.marks.items ++ map (with_shifted_end mark.end draft.at.end) (drop count last.marks.items)
        → IsWhole width all texts new
    rest_whole new within json labels marks =
        let goes = goes_to (length before) (omega (arith, mark_within)) (omega arith) in
        let front = escape (text_to width before there) in
        let parts : take last.at.end last.json.items ≡ front ++ escape goes.rest = whole.text ∙ ap escape goes.before ∙ escape-append (text_to width before there) goes.rest in
        let rest : drop mark.end (take last.at.end last.json.items) ≡ escape goes.rest = ap₂ (λ (n : ℕ) (l : List ℕ). drop n l) mark_end parts ∙ drop_at front (escape goes.rest) (length front) refl in
        let kept : new.firsts.items ≡ last.firsts.items = labels ∙ ap (λ (l : List ℕ). l ++ drop mark.known last.firsts.items) firsts ∙ take-append-drop mark.known last.firsts.items in
        let move = with_shifted_end mark.end draft.at.end in
        let behind = drop count last.marks.items in
        let long : length draft.marks.items ≡ count = omega (arith, begun.marks.past, begun.marks.full, here) in
        let as_many : length new.marks.items ≡ length last.marks.items =
        omega (arith, ap length marks, length-append draft.marks.items (map move behind), length-map behind move, length-drop count last.marks.items, long, few) in
        record {
          text = json ∙ ap₂ (λ (a b : List ℕ). a ++ b) text_here rest ∙ sym (escape-append (text_to width all there) goes.rest) ∙ ap escape (sym goes.after) ∙ ap (λ (m : ℕ). escape (text_to width all m)) same.count;
          within = within;
          firsts = record {
            known = ap (map (text_at texts)) kept ∙ whole.firsts.known ∙ goes.known ∙ ap (λ (m : ℕ). known_of (take m all)) same.count;
            within = All-same (Known texts) new.firsts.items last.firsts.items kept whole.firsts.within;
          };
          marks = record {
            at = λ k d h. ap (λ (l : List Written). get_or l k d) marks ∙ elim (cases_lt k count) [
              | inl low ↦ get_or_append_left draft.marks.items (map move behind) d k (omega (arith, low, long)) ∙ begun.marks.at k d (omega (arith, low, long))
              | inr high ↦ (let i = k - count in
                  let at : count + i ≡ k = omega (arith, high) in
                  let some : i < length behind = omega (arith, h, as_many, high, length-drop count last.marks.items) in
                  get_or-append_right draft.marks.items (map move behind) count k d long high
                  ∙ get_or-map move behind i d d some
                  ∙ ap move (get_or-drop count last.marks.items i d ∙ ap (λ (j : ℕ). get_or last.marks.items j d) at ∙ whole.marks.at k d (omega (arith, h, as_many)))
                  ∙ moved_is (k * STEP) (omega (arith, high)) (omega (arith, h, as_many, whole.marks.past)))
            ];
            past = omega (arith, as_many, whole.marks.past, same.count);
            full = omega (arith, as_many, whole.marks.full, same.count);
          };
        }

-- cells are the same behind those that have changed
pub same_behind : (first end n : ℕ) (before all : List (List ℕ)) → IsSameBut first end before all → end ≤ n → n ≤ length all → IsSameBut 0 n before all
same_behind first end n before all same past within =
    let d = n - end in
    let split : end + d ≡ n = omega (arith, past) in
    let rest : (l : List (List ℕ)) → drop n l ≡ drop d (drop end l) = λ l. ap (λ (m : ℕ). drop m l) (sym split) ∙ sym (drop-drop d end l) in
    record { front = refl; back = rest before ∙ ap (drop d) same.back ∙ sym (rest all); count = same.count; within = within }

-- ---- texts that are whole, and room for them
pub room_whole : (width : ℕ) (all texts : List (List ℕ)) (draft : Draft) → IsWhole width all texts draft → HasTextOf width all texts (room_of draft)
room_whole width all texts draft whole = record {
  text = (room_says (take draft.at.end draft.json.items) (text_of_cells width all) whole.text).1;
  firsts = whole.firsts;
  marks = whole.marks;
}

pub room_sound : (width : ℕ) (all texts : List (List ℕ)) (draft : Draft) → IsWhole width all texts draft
    → (draft.at.end ≤ length draft.json.items) × (take draft.at.end draft.json.items ≡ escape (escaped_says (take draft.at.end draft.json.items)))
room_sound width all texts draft whole = (whole.within, (room_says (take draft.at.end draft.json.items) (text_of_cells width all) whole.text).0)

pub whole_room : (width : ℕ) (all texts : List (List ℕ)) (draft : Draft) → draft.at.end ≤ length draft.json.items → take draft.at.end draft.json.items ≡ escape (escaped_says (take draft.at.end draft.json.items))
    → HasTextOf width all texts (room_of draft) → IsWhole width all texts draft
whole_room width all texts draft within sound has = record { text = sound ∙ ap escape has.text; within = within; firsts = has.firsts; marks = has.marks }

-- no cell has changed
pub all_same : (first end : ℕ) (before all : List (List ℕ)) → IsSameBut first end before all → end ≤ first → before ≡ all
all_same first end before all same none =
    let d = first - end in
    let split : end + d ≡ first = omega (arith, none) in
    let rest : (l : List (List ℕ)) → drop first l ≡ drop d (drop end l) = λ l. ap (λ (m : ℕ). drop m l) (sym split) ∙ sym (drop-drop d end l) in
    sym (take-append-drop first before)
    ∙ ap₂ (λ (a b : List (List ℕ)). a ++ b) same.front (rest before ∙ ap (drop d) same.back ∙ sym (rest all))
    ∙ take-append-drop first all

-- marks that end where they did
pub unmoved : (n : ℕ) (marks : List Written) → All (λ mark. n ≤ mark.end) marks → map (with_shifted_end n n) marks ≡ marks
unmoved n [] ends = refl
unmoved n (mark ∷ marks) ends =
    let P : Written → Type 0 = λ it. n ≤ it.end in
    let end : mark.end - n + n ≡ mark.end = omega (arith, All-head P mark marks ends) in
    ap₂ (λ it rest. it ∷ rest) (λ i. record { end = end i; cells = mark.cells; known = mark.known; column = mark.column }) (unmoved n marks (All-tail P mark marks ends))
