-- A search goes on, and what it shows.
use Rattle.std.proofs.Common.{◌≡◌, ℕ, zero, suc, ◌+◌, ◌<◌, ◌≤◌, ◌⊎◌, inl, inr, false, List, [], ◌∷◌, ◌++◌, length, Some, refl, ap, sym, ◌∙◌, subst, arith}
use Rattle.std.specs.Prelude.{slice_get}
use Rattle.std.proofs.lemmas.Option.{slice_get_within, same_Some}
use Rattle.pz_game.specs.declared.direction.Dir.{Dir}
use Rattle.pz_sheet.specs.Grid.{Grid}
use Rattle.pz_solve.specs.Moves.{Reached, Stands, Wins, DeadEnd}
unfoldable use Rattle.pz_solve.specs.Winning.{wins}
use Rattle.pz_solve.specs.Winning.{Moves, wins_behind, NoneWins, NoneWinsWithin}
use Rattle.pz_solve.specs.Found.{Found, IsLed, IsSearch, IsTried, start_of}
use Rattle.pz_solve.specs.Trying.{Grows}
use Rattle.pz_store.proofs.Listing.{still_there, there_before}

-- two that are there under one number are one
pub one : {X : Type 0} (xs : List X) (i : ℕ) (a b : X) → slice_get xs i ≡ Some a → slice_get xs i ≡ Some b → a ≡ b
one xs i a b first second = same_Some a b (sym first ∙ second)

pub grows_by : (found : List Found) (more : Found) → Grows found (found ++ more ∷ [])
grows_by found more index here is = still_there found more index here is

-- what was tried stays so
pub tried_still : (old new : List Found) (depth : ℕ) (reached : Reached) → Grows old new → IsTried old depth reached → IsTried new depth reached
tried_still old new depth (Stands next) grows tried = (tried.0, tried.1, grows tried.0 tried.1 tried.2, tried.3, tried.4)
tried_still old new depth Wins grows tried = tried
tried_still old new depth DeadEnd grows tried = tried

-- a level that a move leads to is added
module _ (moves : Moves) (start : Grid) (found : List Found) (index : ℕ) (here more : Found)
    (search : IsSearch moves start found index) (is_here : slice_get found index ≡ Some here)
    (parent : more.parent ≡ index) (depth : more.depth ≡ here.depth + 1) (leads : moves here.grid more.input ≡ Stands more.grid) where
  within : index < length found
  within = slice_get_within found index here is_here

  led_still : (i : ℕ) (f : Found) → 0 < i → slice_get (found ++ more ∷ []) i ≡ Some f → IsLed moves (found ++ more ∷ []) i f
  led_still i f some is = elim (there_before found more i f is) [
    | inl was ↦
        let led = search.led i f some was in
        record { before = led.before; earlier = led.earlier; is = still_there found more f.parent led.before led.is; deeper = led.deeper; led = led.led }
    | inr last ↦ record {
      before = here;
      earlier = subst (λ (g : Found). g.parent < i) last.1 (omega (arith, parent, within, last.0));
      is = subst (λ (g : Found). slice_get (found ++ more ∷ []) g.parent ≡ Some here) last.1 (subst (λ (n : ℕ). slice_get (found ++ more ∷ []) n ≡ Some here) (sym parent) (still_there found more index here is_here));
      deeper = subst (λ (g : Found). g.depth ≡ here.depth + 1) last.1 depth;
      led = subst (λ (g : Found). moves here.grid g.input ≡ Stands g.grid) last.1 leads;
    }
  ]

  near_still : (i : ℕ) (a b : Found) → slice_get (found ++ more ∷ []) index ≡ Some a → slice_get (found ++ more ∷ []) i ≡ Some b → b.depth ≤ a.depth + 1
  near_still i a b is_a is_b =
      let same : here ≡ a = one (found ++ more ∷ []) index here a (still_there found more index here is_here) is_a in
      let height : here.depth ≡ a.depth = ap (λ (g : Found). g.depth) same in
      elim (there_before found more i b is_b) [
        | inl was ↦ let low = search.near i here b is_here was in omega (arith, low, height)
        | inr last ↦ let deep : more.depth ≡ b.depth = ap (λ (g : Found). g.depth) last.1 in omega (arith, deep, depth, height)
      ]

  sorted_still : (i later : ℕ) (a b : Found) → i ≤ later → slice_get (found ++ more ∷ []) i ≡ Some a → slice_get (found ++ more ∷ []) later ≡ Some b → a.depth ≤ b.depth
  sorted_still i later a b order is_a is_b = elim (there_before found more later b is_b) [
    | inl was ↦
        let inside = slice_get_within found later b was in
        elim (there_before found more i a is_a) [
          | inl first ↦ search.sorted i later a b order first was
          | inr last ↦ absurd (omega (arith, inside, last.0, order))
        ]
    | inr last ↦
        let deep : more.depth ≡ b.depth = ap (λ (g : Found). g.depth) last.1 in
        elim (there_before found more i a is_a) [
          | inl first ↦ let low = search.near i here a is_here first in omega (arith, low, deep, depth)
          | inr it ↦ let same : more.depth ≡ a.depth = ap (λ (g : Found). g.depth) it.1 in omega (arith, deep, same)
        ]
  ]

  done_still : (i : ℕ) (f : Found) (input : Dir) → i < index → slice_get (found ++ more ∷ []) i ≡ Some f → IsTried (found ++ more ∷ []) f.depth (moves f.grid input)
  done_still i f input before is = elim (there_before found more i f is) [
    | inl was ↦ tried_still found (found ++ more ∷ []) f.depth (moves f.grid input) (grows_by found more) (search.done i f input before was)
    | inr last ↦ absurd (omega (arith, within, last.0, before))
  ]

  pub goes_on : IsSearch moves start (found ++ more ∷ []) index
  goes_on = record {
    first = still_there found more 0 (start_of start) search.first;
    led = led_still;
    sorted = sorted_still;
    near = near_still;
    done = done_still;
  }

-- once each press was tried from a level, the next one's turn comes
pub next_turn : (moves : Moves) (start : Grid) (found : List Found) (index : ℕ) (here : Found) → IsSearch moves start found index → slice_get found index ≡ Some here →
    ((input : Dir) → IsTried found here.depth (moves here.grid input)) → IsSearch moves start found (index + 1)
next_turn moves start found index here search is_here all = record {
  first = search.first;
  led = search.led;
  sorted = search.sorted;
  near = λ i a b is_a is_b.
      let low = search.near i here b is_here is_b in
      let order = search.sorted index (index + 1) here a (omega arith) is_here is_a in
      omega (arith, low, order);
  done = λ i f input before is. elim (by_cases i before) [
    | inl earlier ↦ search.done i f input earlier is
    | inr at ↦
        let same : here ≡ f = one found index here f is_here (subst (λ (n : ℕ). slice_get found n ≡ Some f) at is) in
        subst (λ (g : Found). IsTried found g.depth (moves g.grid input)) same (all input)
  ];
} where
  by_cases : (i : ℕ) → i < index + 1 → (i < index) ⊎ (i ≡ index)
  by_cases i before = grind (arith, before)

-- a search of one level
pub begun : (moves : Moves) (start : Grid) → IsSearch moves start (start_of start ∷ []) 0
begun moves start = record {
  first = refl;
  led = λ i f some is. absurd (past i f some is);
  sorted = λ i later a b order is_a is_b. omega (arith, height i a is_a);
  near = λ i a b is_a is_b. omega (arith, height i b is_b);
  done = λ i f input before is. absurd (omega (arith, before));
} where
  past : (i : ℕ) (f : Found) → 0 < i → slice_get (start_of start ∷ []) i ≡ Some f → ⊥
  past zero f some is = omega (arith, some)
  past (suc i) f some is = cc

  height : (i : ℕ) (f : Found) → slice_get (start_of start ∷ []) i ≡ Some f → f.depth ≡ 0
  height zero f is = sym (ap (λ (g : Found). g.depth) (same_Some (start_of start) f is))
  height (suc i) f is = absurd cc

-- no list of presses wins that ends before the depth of the level whose turn it is
module _ (moves : Moves) (start : Grid) (found : List Found) (index : ℕ) (here : Found)
    (search : IsSearch moves start found index) (is_here : slice_get found index ≡ Some here) where
  none_by : (inputs : List Dir) (i : ℕ) (f : Found) → slice_get found i ≡ Some f → f.depth + length inputs ≤ here.depth → wins moves inputs f.grid ≡ false
  unfolding wins
  none_by [] i f is short = refl
  none_by (input ∷ inputs) i f is short = behind (λ j g there low. none_by inputs j g there low) (moves f.grid input) (search.done i f input (earlier (late i f is)) is) where
    late : (i : ℕ) (f : Found) → slice_get found i ≡ Some f → index ≤ i → here.depth ≤ f.depth
    late i f is order = search.sorted index i here f order is_here is

    earlier : (index ≤ i → here.depth ≤ f.depth) → i < index
    earlier deep = grind (arith, deep, short)

    behind : ((j : ℕ) (g : Found) → slice_get found j ≡ Some g → g.depth + length inputs ≤ here.depth → wins moves inputs g.grid ≡ false) → (reached : Reached) → IsTried found f.depth reached → wins_behind (wins moves inputs) inputs reached ≡ false
    behind free (Stands next) tried =
        subst (λ (grid : Grid). wins moves inputs grid ≡ false) tried.3 (free tried.0 tried.1 tried.2 (omega (arith, tried.4, short)))
    behind free Wins tried = absurd tried
    behind free DeadEnd tried = refl

  pub none_within : NoneWinsWithin moves start here.depth
  none_within inputs short = none_by inputs 0 (start_of start) search.first (omega (arith, short))

-- if each level had its turn, no list of presses wins
module _ (moves : Moves) (start : Grid) (found : List Found) (index : ℕ) (search : IsSearch moves start found index) (all : length found ≤ index) where
  none_from : (inputs : List Dir) (i : ℕ) (f : Found) → slice_get found i ≡ Some f → wins moves inputs f.grid ≡ false
  unfolding wins
  none_from [] i f is = refl
  none_from (input ∷ inputs) i f is = behind (λ j g there. none_from inputs j g there) (moves f.grid input) (search.done i f input (omega (arith, all, slice_get_within found i f is)) is) where
    behind : ((j : ℕ) (g : Found) → slice_get found j ≡ Some g → wins moves inputs g.grid ≡ false) → (reached : Reached) → IsTried found f.depth reached → wins_behind (wins moves inputs) inputs reached ≡ false
    behind free (Stands next) tried = subst (λ (grid : Grid). wins moves inputs grid ≡ false) tried.3 (free tried.0 tried.1 tried.2)
    behind free Wins tried = absurd tried
    behind free DeadEnd tried = refl

  pub none_wins : NoneWins moves start
  none_wins inputs = none_from inputs 0 (start_of start) search.first
