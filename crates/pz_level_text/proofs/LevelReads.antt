-- The text of a level reads as the names of its cells.
use Rattle.pz_level_text.proofs.Common.{◌≡◌, ◌≢◌, ℕ, suc, ◌<◌, ◌^◌, ◌&&◌, not, List, [], ◌∷◌, length, map, All, Bool, true, false, Some, cond, refl, ap, ap₂, ◌∙◌, list_all, GameParts, Grid, stands, Order, set_of, cells_in, chosen_from, standing_names, sets_in, text_of_names, text_of_cells, HasNoComma, texts_in, all_of}
use Rattle.std.proofs.lemmas.List.Elements.{All-head, All-tail}
use Rattle.std.proofs.lemmas.Bool.{ne_eqb, and_parts}
use Rattle.pz_game.specs.Game.{IsGame}
use Rattle.pz_game.specs.Word.{IsWord}
use Rattle.pz_entries.specs.Names.{name_set, is_space}
use Rattle.pz_entries.specs.Reading.{reading, plain}
use Rattle.pz_entries.proofs.Joining.{AreGameNames, set_reads}
use Rattle.pz_entries.proofs.RoundTrip.{round_trip, all_append}

abbrev Solid : ℕ → Type 0
Solid c = c ≢ 32 × c ≢ 10 × c ≢ 13

no_spaces : (name : List ℕ) → All Solid name → list_all (λ b. not (is_space b)) name ≡ true
no_spaces [] a = refl
no_spaces (c ∷ name) a = rw (ne_eqb c 32 (All-head Solid c name a).0, no_spaces name (All-tail Solid c name a)) refl

plain_name : (name : List ℕ) → All Solid name → All (λ c. c ≢ 44) name → list_all plain name ≡ true
plain_name [] a n = refl
plain_name (c ∷ name) a n =
    let solid = All-head Solid c name a in
    rw (ne_eqb c 44 (All-head (λ b. b ≢ 44) c name n), ne_eqb c 10 solid.1, ne_eqb c 13 solid.2, plain_name name (All-tail Solid c name a) (All-tail (λ b. b ≢ 44) c name n)) refl

-- the names of a game's objects
game_names : (names : List (List ℕ)) → All IsWord names → AreGameNames names
game_names [] a = tt
game_names (name ∷ names) a =
    let word = All-head IsWord name names a in
    (record { some = word.some; one_word = no_spaces name word.solid; is_folded = word.lower }, game_names names (All-tail IsWord name names a))

plain_names : (names : List (List ℕ)) → All IsWord names → All (All (λ c. c ≢ 44)) names → list_all (list_all plain) names ≡ true
plain_names [] a n = refl
plain_names (name ∷ names) a n =
    let P : List ℕ → Type 0 = All (λ c. c ≢ 44) in
    rw (plain_name name (All-head IsWord name names a).solid (All-head P name names n), plain_names names (All-tail IsWord name names a) (All-tail P name names n)) refl

-- names that are chosen among them
chosen_game : (test : ℕ → Bool) (k : ℕ) (names : List (List ℕ)) → AreGameNames names → AreGameNames (chosen_from test k names)
chosen_game test k [] g = tt
chosen_game test k (name ∷ names) g = by (test k) (chosen_game test (suc k) names g.1)
  where
    by : (b : Bool) → AreGameNames (chosen_from test (suc k) names) → AreGameNames (cond b (name ∷ chosen_from test (suc k) names) (chosen_from test (suc k) names))
    by true rest = (g.0, rest)
    by false rest = rest

chosen_all : (p : List ℕ → Bool) (test : ℕ → Bool) (k : ℕ) (names : List (List ℕ)) → list_all p names ≡ true → list_all p (chosen_from test k names) ≡ true
chosen_all p test k [] h = refl
chosen_all p test k (name ∷ names) h =
    let parts = and_parts (p name) (list_all p names) h in
    by (test k) parts.0 (chosen_all p test (suc k) names parts.1)
  where
    by : (b : Bool) → p name ≡ true → list_all p (chosen_from test (suc k) names) ≡ true → list_all p (cond b (name ∷ chosen_from test (suc k) names) (chosen_from test (suc k) names)) ≡ true
    by true here rest = rw (here, rest) refl
    by false here rest = rest

standing_game : (objects : List (List ℕ)) (grid : Grid) (position : ℕ × ℕ) → AreGameNames objects → AreGameNames (standing_names objects grid position)
unfolding standing_names
standing_game objects grid position g = chosen_game (stands grid position.0 position.1) 0 objects g

standing_plain : (objects : List (List ℕ)) (grid : Grid) (position : ℕ × ℕ) → list_all (list_all plain) objects ≡ true → list_all (list_all plain) (standing_names objects grid position) ≡ true
unfolding standing_names
standing_plain objects grid position h = chosen_all (list_all plain) (stands grid position.0 position.1) 0 objects h

joined_plain : (names : List (List ℕ)) → list_all (list_all plain) names ≡ true → list_all plain (text_of_names names) ≡ true
joined_plain [] h = refl
joined_plain (name ∷ []) h = (and_parts (list_all plain name) true h).0
joined_plain (name ∷ next ∷ names) h =
    let parts = and_parts (list_all plain name) (list_all (list_all plain) (next ∷ names)) h in
    all_append plain name (32 ∷ text_of_names (next ∷ names)) parts.0 (joined_plain (next ∷ names) parts.1)

texts_plain : (objects : List (List ℕ)) (grid : Grid) (positions : List (ℕ × ℕ)) → list_all (list_all plain) objects ≡ true
    → list_all (list_all plain) (map text_of_names (map (λ position. set_of (standing_names objects grid position)) positions)) ≡ true
texts_plain objects grid [] h = refl
texts_plain objects grid (position ∷ positions) h =
    let names = standing_names objects grid position in
    let set : list_all (list_all plain) (set_of names) ≡ true = all_of (list_all plain) [] names ∙ ap (λ b. b && true) (standing_plain objects grid position h) in
    rw (joined_plain (set_of names) set, texts_plain objects grid positions h) refl

sets_read : (objects : List (List ℕ)) (grid : Grid) (positions : List (ℕ × ℕ)) → AreGameNames objects
    → map name_set (map text_of_names (map (λ position. set_of (standing_names objects grid position)) positions)) ≡ map (λ position. set_of (standing_names objects grid position)) positions
sets_read objects grid [] g = refl
sets_read objects grid (position ∷ positions) g =
    ap₂ (λ x xs. x ∷ xs) (set_reads (standing_names objects grid position) (standing_game objects grid position g)) (sets_read objects grid positions g)

pub level_reads : (game : GameParts) (order : Order) (grid : Grid) (width : ℕ) → IsGame game → HasNoComma game → length (texts_in game order grid) < 2 ^ 64
    → reading (text_of_cells width (texts_in game order grid)) ≡ Some (sets_in game order grid)
level_reads game order grid width lawful no_comma small =
    round_trip width (texts_in game order grid) small (texts_plain game.objects grid (cells_in order grid) (plain_names game.objects lawful.worded no_comma))
    ∙ ap Some (sets_read game.objects grid (cells_in order grid) (game_names game.objects lawful.worded))
