-- What a run of instances asks for.
use Rattle.std.proofs.Common.{◌≡◌, ◌/◌, ◌%◌, ◌<◌, ◌≤◌, ◌+◌, ◌-◌, ◌++◌, inl, inr, ℕ, List, [], ◌∷◌, ◌||◌, Option, Some, None, true, false, length, arith, ap, ap₂, sym, subst, ◌∙◌, nat_eq, get_or}
use Rattle.std.specs.Prelude.{IfSome, MatchOption, take, drop}
use Rattle.std.specs.List.{All, flat_map}
use Rattle.std.proofs.lemmas.Grind.{flat_map-append}
use Rattle.std.proofs.lemmas.List.{drop-take, take-take, take-append-drop, append-nil, take_more, length-drop, get_or-drop}
use Rattle.std.proofs.lemmas.List.Elements.{All-push, All-weaker}
use Rattle.std.proofs.lemmas.Bool.{cases_lt, or_right}
use Rattle.pz_sets.specs.Sets.{member, IsWithin}
use Rattle.pz_sets.specs.declared.set.TheConstants.{CAPACITY}
use Rattle.pz_program.specs.declared.instance.Instance.{Instance}
use Rattle.pz_game.specs.declared.pattern.Item.{Item}
use Rattle.pz_game.specs.Masks.{IsLow}
use Rattle.pz_game.specs.Pattern.{RuleRow, AreRequired, AsksAmong}
use Rattle.pz_program.specs.Segments.{AsksFor, IsLeftOut, instances_in}
use Rattle.pz_program.specs.declared.group.Segment.{Segment}
use Rattle.pz_game.proofs.FlagLemmas.{flag_of}

-- a number of what cells ask for is one of their directions
pub asks_for : (cells : List (List Item)) (required : List ℕ) (number : ℕ) → AreRequired cells required → member required number ≡ true → (set : List ℕ) → member set number ≡ true → AsksAmong set cells
asks_for cells required number r e set there = elim (cases_lt (number % 128) 125) [
  | inl low ↦ (let f = flag_of number low in
      record {
        layer = f.0;
        dir = f.1;
        among = ap (member set) f.2 ∙ there;
        asks = sym (r.asked f.0 f.1) ∙ (ap (member required) f.2 ∙ e);
      })
  | inr high ↦ (let none : false ≡ true = sym (r.proper number high) ∙ e in cc)
]

-- what is left out is left out with a wider set
pub left_out_wider : (set more : List ℕ) → IsWithin set more → (instance : Instance) → IsLeftOut set instance → IsLeftOut more instance
left_out_wider set more within instance (inl idle) = inl idle
left_out_wider set more within instance (inr moving) = inr (record {
  row = moving.row;
  rows = moving.rows;
  left = moving.left;
  asks = λ low. let a = moving.asks low in record { layer = a.layer; dir = a.dir; among = within _ a.among; asks = a.asks };
})

-- the set of a run with a number more
pub is_wider : (set more : List ℕ) (number : ℕ) → ((other : ℕ) → member more other ≡ (nat_eq other number || member set other)) → IsWithin set more
is_wider set more number added other there = added other ∙ or_right (nat_eq other number) (member set other) there

-- the first of what a row asks for, if there is any
pub asked_of : (None_holds : Type 0) (Beyond : ℕ → Type 0) (instance : Instance) (row : RuleRow) (rows : List RuleRow) (required words : List ℕ) (found : Option ℕ)
    → instance.left ≡ row ∷ rows → (All (All IsLow) row.cells → AreRequired row.cells required) → words ≡ required → length words ≡ 4
    → MatchOption found None_holds (λ number. (0 ≤ number) × (number / 128 < length words) × (member words number ≡ true) × Beyond number)
    → IfSome found (λ number. (number < CAPACITY) × AsksFor number instance)
asked_of N B instance row rows required words None left asks same four m = tt
asked_of N B instance row rows required words (Some number) left asks same four m = (
  omega (arith, m.1, four),
  λ set there. record {
    row = row;
    rows = rows;
    left = left;
    asks = λ low. asks_for row.cells required number (asks low) (ap (λ ws. member ws number) (sym same) ∙ m.2) set there;
  },
)

-- what stands before a part, and the part, is what stands before its end
pub before_end : {X : Type 0} (xs : List X) (i j : ℕ) → i ≤ j → take i xs ++ take (j - i) (drop i xs) ≡ take j xs
before_end xs i j ordered =
    let whole : i + (j - i) ≡ j = omega (arith, ordered) in
    ap₂ (λ (a b : List _). a ++ b) (sym (take-take i j xs ordered)) (sym (drop-take i (j - i) xs) ∙ ap (λ (n : ℕ). drop i (take n xs)) whole) ∙ take-append-drop i (take j xs)

-- a part that ends one later has one element more
pub one_more : {X : Type 0} (xs : List X) (i j : ℕ) (d : X) → i ≤ j → j < length xs → take (j + 1 - i) (drop i xs) ≡ take (j - i) (drop i xs) ++ get_or xs j d ∷ []
one_more xs i j d ordered within =
    let n : j + 1 - i ≡ j - i + 1 = omega (arith, ordered) in
    let m : i + (j - i) ≡ j = omega (arith, ordered) in
    ap (λ (k : ℕ). take k (drop i xs)) n ∙ take_more (drop i xs) (j - i) d (omega (arith, length-drop i xs, ordered, within))
    ∙ ap (λ (y : _). take (j - i) (drop i xs) ++ y ∷ []) (get_or-drop i xs (j - i) d ∙ ap (λ (k : ℕ). get_or xs k d) m)

-- a run with an instance more
pub more_left_out : (set more : List ℕ) (instances : List Instance) (start end : ℕ) (instance : Instance) → IsWithin set more → start ≤ end → end < length instances → instance ≡ get_or instances end instance
    → All (IsLeftOut set) (take (end - start) (drop start instances)) → IsLeftOut more instance → All (IsLeftOut more) (take (end + 1 - start) (drop start instances))
more_left_out set more instances start end instance wider ordered within is before this =
    subst (All (IsLeftOut more)) (sym (one_more instances start end instance ordered within))
    (All-push (IsLeftOut more) (take (end - start) (drop start instances)) (get_or instances end instance)
    (All-weaker (IsLeftOut set) (IsLeftOut more) (left_out_wider set more wider) (take (end - start) (drop start instances)) before)
    (subst (IsLeftOut more) is this))

-- a segment more
pub segment_more : (instances : List Instance) (segments : List Segment) (segment : Segment) → segment.start ≤ segment.end → flat_map (instances_in instances) segments ≡ take segment.start instances
    → flat_map (instances_in instances) (segments ++ segment ∷ []) ≡ take segment.end instances
segment_more instances segments segment ordered before =
    flat_map-append (instances_in instances) segments (segment ∷ [])
    ∙ ap₂ (λ (a b : List Instance). a ++ b) before (append-nil (instances_in instances segment))
    ∙ before_end instances segment.start segment.end ordered
