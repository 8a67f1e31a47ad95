-- Labels among more texts, and cells of which some have changed.
use Rattle.std.proofs.Common.{◌≡◌, ℕ, ◌+◌, ◌-◌, ◌<◌, ◌≤◌, List, [], ◌∷◌, length, take, drop, map, set, get_or, min, max, All, refl, ap, ap₂, sym, ◌∙◌, arith}
use Rattle.std.proofs.lemmas.List.{length-take, get_or-take, take-take, drop-drop, take-set-le, drop-set-lt, length-set}
use Rattle.std.proofs.lemmas.List.Elements.{All-head, All-tail}
use Rattle.pz_json_text.specs.Labels.{text_at}
use Rattle.pz_json_text.specs.Written.{HasTextOf, HasTextBut, IsSameBut, RoomView}

-- ---- labels among more texts
text_still : (texts more : List (List ℕ)) (label : ℕ) → take (length texts) more ≡ texts → label < length texts → (label < length more) × (text_at more label ≡ text_at texts label)
text_still texts more label e h =
    let at : get_or (take (length texts) more) label [] ≡ get_or more label [] = get_or-take (length texts) more label [] h in
    let long : length (take (length texts) more) ≡ length texts = ap length e in
    (omega (arith, h, long, length-take (length texts) more), sym at ∙ ap (λ (l : List (List ℕ)). get_or l label []) e)

abbrev Known : List (List ℕ) → ℕ → Type 0
Known texts label = label < length texts

pub labels_still : (texts more : List (List ℕ)) (labels : List ℕ) → All (Known texts) labels → take (length texts) more ≡ texts → map (text_at more) labels ≡ map (text_at texts) labels
labels_still texts more [] all e = refl
labels_still texts more (label ∷ labels) all e =
    ap₂ (λ x xs. x ∷ xs) (text_still texts more label e (All-head (Known texts) label labels all)).1 (labels_still texts more labels (All-tail (Known texts) label labels all) e)

pub known_still : (texts more : List (List ℕ)) (labels : List ℕ) → All (Known texts) labels → take (length texts) more ≡ texts → All (Known more) labels
known_still texts more labels all e = λ k other h. (text_still texts more (get_or labels k other) e (all k other h)).0

-- texts that are kept among more, and these among still more
pub still_kept : (texts more most : List (List ℕ)) → take (length texts) more ≡ texts → take (length more) most ≡ more → take (length texts) most ≡ texts
still_kept texts more most kept next =
    let fewer : length texts ≤ length more = omega (arith, ap length kept, length-take (length texts) more) in
    sym (take-take (length texts) (length more) most fewer) ∙ ap (take (length texts)) next ∙ kept

-- the room's text, among more texts
pub text_kept : (width : ℕ) (all texts more : List (List ℕ)) (room : RoomView) → take (length texts) more ≡ texts → HasTextOf width all texts room → HasTextOf width all more room
text_kept width all texts more room kept has = record {
  text = has.text;
  firsts = record {
    known = labels_still texts more room.firsts has.firsts.within kept ∙ has.firsts.known;
    within = known_still texts more room.firsts has.firsts.within kept;
  };
  marks = has.marks;
}

-- ---- cells that have changed
pub none_changed : (first : ℕ) (all : List (List ℕ)) → IsSameBut first 0 all all
none_changed first all = record { front = refl; back = refl; count = refl; within = omega arith }

pub one_changed : (cells : List (List ℕ)) (k : ℕ) (cell : List ℕ) → k < length cells → IsSameBut k (k + 1) cells (set cells k cell)
one_changed cells k cell h = record {
  front = sym (take-set-le k cells k cell (omega arith));
  back = sym (drop-set-lt (k + 1) cells k cell (omega arith));
  count = sym (length-set cells k cell);
  within = omega (arith, h, length-set cells k cell);
}

pub both_changed : (first end first' end' : ℕ) (before between all : List (List ℕ)) → IsSameBut first end before between → IsSameBut first' end' between all → IsSameBut (min first first') (max end end') before all
both_changed first end first' end' before between all a b =
    let low = min first first' in
    let high = max end end' in
    let front : (n : ℕ) (xs ys : List (List ℕ)) → low ≤ n → take n xs ≡ take n ys → take low xs ≡ take low ys = λ n xs ys h e. sym (take-take low n xs h) ∙ ap (take low) e ∙ take-take low n ys h in
    let down : (n : ℕ) (xs : List (List ℕ)) → n ≤ high → drop high xs ≡ drop (high - n) (drop n xs) =
    λ n xs h. let split : n + (high - n) ≡ high = omega (arith, h) in ap (λ (m : ℕ). drop m xs) (sym split) ∙ sym (drop-drop (high - n) n xs) in
    let back : (n : ℕ) (xs ys : List (List ℕ)) → n ≤ high → drop n xs ≡ drop n ys → drop high xs ≡ drop high ys = λ n xs ys h e. down n xs h ∙ ap (drop (high - n)) e ∙ sym (down n ys h) in
    record {
      front = front first before between (omega arith) a.front ∙ front first' between all (omega arith) b.front;
      back = back end before between (omega arith) a.back ∙ back end' between all (omega arith) b.back;
      count = a.count ∙ b.count;
      within = omega (arith, a.within, b.within, b.count);
    }

pub changed_again : (width first end first' end' : ℕ) (between all texts more : List (List ℕ)) (room : RoomView) → HasTextBut width first end between texts room → take (length texts) more ≡ texts → IsSameBut first' end' between all
    → HasTextBut width (min first first') (max end end') all more room
changed_again width first end first' end' between all texts more room has kept same = record {
  before = has.before;
  text = text_kept width has.before texts more room kept has.text;
  same = both_changed first end first' end' has.before between all has.same same;
}
