-- What words show, and how one layer of a cell changes.
use Rattle.pz_cells.proofs.Common.{length-set, map, ◌≡◌, ◌≢◌, ℕ, ◌<◌, List, Option, Some, None, Bool, true, false, not, ◌&&◌, ◌||◌, length, get_or, set, arith, ap, sym, ◌∙◌, refl, nat_eq, eq-eqb, zero, suc, ◌+◌, ◌≤◌, cond, cases_eq, eqb-true, ext_get_or, get_or-map-range_with_len, length-map-range_with_len, common_steps, member, Piece, Dir, same_dir, is_toward, IsProper, heads, heading_in, first_of, IsOnLayer, IsSetOf, place_of, cell_of, Shows, AreLawful, Changes, stands_on, find, range_with_len, Up, Down, Left, Right, Action}

-- the first direction that a test picks, of tests that pick one or none
pub first_toward : (test : Dir → Bool) (heading : Option Dir) → ((dir : Dir) → test dir ≡ is_toward heading dir) → first_of test ≡ heading
first_toward test heading h = grind (arith, h Up, h Down, h Left, h Right, h Action)

-- the only number that passes is found
pub find_only : (p : ℕ → Bool) (a n k : ℕ) → a ≤ k → k < a + n → p k ≡ true → ((j : ℕ) → j < a + n → p j ≡ true → j ≡ k) → find p (range_with_len a n) ≡ Some k
find_only p a zero k low high e only = absurd (omega arith)
find_only p a (suc n) k low high e only = grind (arith, only a, find_only p (a + 1) n k, λ (j : ℕ) (h : j < a + 1 + n). only j (omega arith), e)

-- a number that doesn't pass isn't found
pub find_none : (p : ℕ → Bool) (a n : ℕ) → ((j : ℕ) → p j ≡ true → ⊥) → find p (range_with_len a n) ≡ None
find_none p a zero none = refl
find_none p a (suc n) none = grind (arith, none a, find_none p (a + 1) n none)

-- what masks show of a layer is what their view says of it
pub place_shown : (layers objects movement : List ℕ) (layer : ℕ) (place : Option Piece) → ((object : ℕ) → member objects object ≡ true → object < length layers) → Shows layers (member objects) (heads movement layer) layer place → place_of layers objects movement layer ≡ place
place_shown layers objects movement layer None of_game h = grind (arith, find_none (stands_on layers objects layer) 0 (length layers) (λ j e. grind (arith, h.0 j, e)))
place_shown layers objects movement layer (Some piece) of_game h =
    let found = find_only (stands_on layers objects layer) 0 (length layers) piece.object (omega arith) (omega (arith, of_game piece.object h.0)) (grind (arith, h.0, h.1)) (λ j low e. grind (arith, h.2 j, e)) in
    grind (arith, found, first_toward (heads movement layer) piece.heading h.3)

-- masks that show a place on each layer are lawful
pub lawful_from_shows : (layers objects movement : List ℕ) (place : ℕ → Option Piece) → ((object : ℕ) → member objects object ≡ true → object < length layers) → ((layer : ℕ) → Shows layers (member objects) (heads movement layer) layer (place layer)) → IsProper movement → AreLawful layers objects movement
lawful_from_shows layers objects movement place of_game shows proper = record { proper = proper; of_game = of_game; shows = λ layer. rw (place_shown layers objects movement layer (place layer) of_game (shows layer)) (shows layer) }

-- and their view is those places
pub cell_shown : (depth : ℕ) (layers objects movement : List ℕ) (place : ℕ → Option Piece) → ((object : ℕ) → member objects object ≡ true → object < length layers) → ((layer : ℕ) → Shows layers (member objects) (heads movement layer) layer (place layer)) → cell_of depth layers objects movement ≡ map place (range_with_len 0 depth)
cell_shown depth layers objects movement place of_game shows = λ i. map (λ layer. place_shown layers objects movement layer (place layer) of_game (shows layer) i) (range_with_len 0 depth)

-- a layer with one
pub place_some : (layers objects movement : List ℕ) (layer object : ℕ) → AreLawful layers objects movement → member objects object ≡ true → get_or layers object 0 ≡ layer → Some (record { object = object; heading = heading_in movement layer }) ≡ place_of layers objects movement layer
place_some layers objects movement layer object lawful here on = grind (arith, lawful.shows layer, first_toward (heads movement layer))

pub shows_changed : (layers objects movement objects_new movement_new : List ℕ) (layer : ℕ) (place : Option Piece) → Changes layers objects movement objects_new movement_new layer place → (other : ℕ) → other ≢ layer → (there : Option Piece) → Shows layers (member objects) (heads movement other) other there → Shows layers (member objects_new) (heads movement_new other) other there
shows_changed layers objects movement objects_new movement_new layer place c other apart there shown = grind (arith, shown, λ (object : ℕ) (on : get_or layers object 0 ≡ other). c.same_objects object (λ e. apart (sym on ∙ e)), λ (dir : Dir). c.same_movement other dir apart)

-- each layer after one of them changed
shows_after : (layers objects movement objects_new movement_new : List ℕ) (layer : ℕ) (place : Option Piece) → AreLawful layers objects movement → Changes layers objects movement objects_new movement_new layer place → (other : ℕ) → Shows layers (member objects_new) (heads movement_new other) other (cond (nat_eq other layer) place (place_of layers objects movement other))
shows_after layers objects movement objects_new movement_new layer place lawful c other = grind (arith, cases_eq other layer, c.here, shows_changed layers objects movement objects_new movement_new layer place c other, lawful.shows other)

pub lawful_changed : (layers objects movement objects_new movement_new : List ℕ) (layer : ℕ) (place : Option Piece) → AreLawful layers objects movement → Changes layers objects movement objects_new movement_new layer place → AreLawful layers objects_new movement_new
lawful_changed layers objects movement objects_new movement_new layer place lawful c =
    lawful_from_shows layers objects_new movement_new (λ other. cond (nat_eq other layer) place (place_of layers objects movement other)) c.of_game (shows_after layers objects movement objects_new movement_new layer place lawful c) c.proper

-- a place of a table is written
set_table : (p : ℕ → Option Piece) (depth layer : ℕ) (place : Option Piece) → map (λ k. cond (nat_eq k layer) place (p k)) (range_with_len 0 depth) ≡ set (map p (range_with_len 0 depth)) layer place
set_table p depth layer place =
    let new = λ (k : ℕ). cond (nat_eq k layer) place (p k) in
    ext_get_or None (map new (range_with_len 0 depth)) (set (map p (range_with_len 0 depth)) layer place) (grind (arith, length-map-range_with_len new 0 depth, length-set (map p (range_with_len 0 depth)) layer place, length-map-range_with_len p 0 depth))
    (λ k within. grind (arith, common_steps, within, length-map-range_with_len new 0 depth, length-map-range_with_len p 0 depth, get_or-map-range_with_len new 0 depth k k None, get_or-map-range_with_len p 0 depth k k None))

pub cell_changed : (depth : ℕ) (layers objects movement objects_new movement_new : List ℕ) (layer : ℕ) (place : Option Piece) → AreLawful layers objects movement → Changes layers objects movement objects_new movement_new layer place → cell_of depth layers objects_new movement_new ≡ set (cell_of depth layers objects movement) layer place
cell_changed depth layers objects movement objects_new movement_new layer place lawful c =
    cell_shown depth layers objects_new movement_new (λ other. cond (nat_eq other layer) place (place_of layers objects movement other)) c.of_game (shows_after layers objects movement objects_new movement_new layer place lawful c) ∙ set_table (place_of layers objects movement) depth layer place

-- an object is taken from its layer
pub changes_lifted : (layers objects movement objects_new movement_new : List ℕ) (layer object : ℕ) → AreLawful layers objects movement → member objects object ≡ true → get_or layers object 0 ≡ layer → ((other : ℕ) → member objects_new other ≡ (not (nat_eq other object) && member objects other)) → ((other : ℕ) (dir : Dir) → heads movement_new other dir ≡ (not (nat_eq other layer) && heads movement other dir)) → IsProper movement_new → Changes layers objects movement objects_new movement_new layer None
changes_lifted layers objects movement objects_new movement_new layer object lawful here on objects_are movement_is proper = record {
  proper = proper;
  of_game = λ other new. lawful.of_game other (grind (arith, objects_are other, new));
  here = (λ other new at. grind (arith, objects_are other, new, lawful.shows layer, at, here, on), λ dir. grind (arith, movement_is layer dir));
  same_objects = λ other apart. grind (arith, objects_are other, apart, on);
  same_movement = λ other dir apart. grind (arith, movement_is other dir, apart);
}

-- a piece is put on its layer, from which everything was taken
pub changes_landed : (layers objects movement objects_mid movement_mid objects_new movement_new : List ℕ) (layer : ℕ) (piece : Piece) → Changes layers objects movement objects_mid movement_mid layer None → IsOnLayer layers layer (Some piece) → ((other : ℕ) → member objects_new other ≡ (nat_eq other piece.object || member objects_mid other)) → ((other : ℕ) (dir : Dir) → heads movement_new other dir ≡ ((nat_eq other layer && is_toward piece.heading dir) || heads movement_mid other dir)) → IsProper movement_new → Changes layers objects movement objects_new movement_new layer (Some piece)
changes_landed layers objects movement objects_mid movement_mid objects_new movement_new layer piece c on objects_are movement_is proper = record {
  of_game = λ other new. grind (arith, objects_are other, new, c.of_game other, on.0);
  here = (grind (arith, objects_are piece.object), on.1, λ other new at. grind (arith, objects_are other, new, eqb-true other piece.object, c.here.0 other, at), λ dir. grind (arith, movement_is layer dir, eq-eqb layer layer refl, c.here.1 dir));
  same_objects = λ other apart. grind (arith, objects_are other, apart, on.1, c.same_objects other apart);
  proper = proper;
  same_movement = λ other dir apart. grind (arith, movement_is other dir, apart, c.same_movement other dir apart);
}

-- what a cell is after one layer changed
pub put_seen : (depth : ℕ) (layers objects movement objects_new movement_new : List ℕ) (layer : ℕ) (place put : Option Piece) → AreLawful layers objects movement → put ≡ place → Changes layers objects movement objects_new movement_new layer place → AreLawful layers objects_new movement_new × (cell_of depth layers objects_new movement_new ≡ set (cell_of depth layers objects movement) layer put)
put_seen depth layers objects movement objects_new movement_new layer place put lawful is c = (
  lawful_changed layers objects movement objects_new movement_new layer place lawful c,
  cell_changed depth layers objects movement objects_new movement_new layer place lawful c ∙ ap (set (cell_of depth layers objects movement) layer) (sym is),
)

-- a layer that nothing stands on stays as it is
pub changes_nothing : (layers objects movement : List ℕ) (layer : ℕ) → AreLawful layers objects movement → place_of layers objects movement layer ≡ None → Changes layers objects movement objects movement layer None
changes_nothing layers objects movement layer lawful free = grind (arith, lawful.shows layer, free)

-- a number that a set of a layer's objects has in common with a cell is an object that stands there
pub found_on : (layers objects movement set : List ℕ) (layer first : ℕ) → AreLawful layers objects movement → IsSetOf layers set layer → (member objects first && member set first) ≡ true → (member objects first ≡ true) × (get_or layers first 0 ≡ layer)
found_on layers objects movement set layer first lawful table both = (grind (arith, both), grind (arith, both, lawful.of_game first, table first))

-- where there is none, nothing stands
pub found_none : (layers objects movement set : List ℕ) (layer : ℕ) → AreLawful layers objects movement → IsSetOf layers set layer → ((object : ℕ) → (member objects object && member set object) ≡ false) → place_of layers objects movement layer ≡ None
found_none layers objects movement set layer lawful table none = grind (arith, lawful.shows layer, lawful.of_game, table, none)

-- a piece that was put where the layer had been cleared
pub piece_put : (depth : ℕ) (layers objects movement objects_mid movement_mid objects_new movement_new : List ℕ) (layer : ℕ) (place : Option Piece) (piece : Piece) (heading : Option Dir) → AreLawful layers objects movement → Changes layers objects movement objects_mid movement_mid layer None → IsOnLayer layers layer place → place ≡ Some piece → piece.heading ≡ heading → ((other : ℕ) → member objects_new other ≡ (nat_eq other piece.object || member objects_mid other)) → ((other : ℕ) (dir : Dir) → heads movement_new other dir ≡ ((nat_eq other layer && is_toward heading dir) || heads movement_mid other dir)) → IsProper movement_new → AreLawful layers objects_new movement_new × (cell_of depth layers objects_new movement_new ≡ set (cell_of depth layers objects movement) layer place)
piece_put depth layers objects movement objects_mid movement_mid objects_new movement_new layer place piece heading lawful c on is heads_so objects_are movement_is proper =
    put_seen depth layers objects movement objects_new movement_new layer (Some piece) place lawful is (changes_landed layers objects movement objects_mid movement_mid objects_new movement_new layer piece c (rw is at on) objects_are (λ other dir. rw heads_so (movement_is other dir)) proper)

-- an object that stands on a layer is in the cell's set, and of the game
pub object_there : (layers objects movement : List ℕ) (layer : ℕ) (piece : Piece) → AreLawful layers objects movement → place_of layers objects movement layer ≡ Some piece → (member objects piece.object ≡ true) × (get_or layers piece.object 0 ≡ layer) × (piece.object < length layers)
object_there layers objects movement layer piece lawful e = grind (arith, lawful.shows layer, lawful.of_game)

-- an object that stands in the cell is given a direction
pub changes_turned : (layers objects movement movement_new : List ℕ) (object : ℕ) (dir : Dir) → AreLawful layers objects movement → member objects object ≡ true → ((other : ℕ) (way : Dir) → heads movement_new other way ≡ ((nat_eq other (get_or layers object 0) && same_dir dir way) || (not (nat_eq other (get_or layers object 0)) && heads movement other way))) → IsProper movement_new → Changes layers objects movement objects movement_new (get_or layers object 0) (Some (record { object = object; heading = Some dir }))
changes_turned layers objects movement movement_new object dir lawful here movement_is proper = record {
  of_game = lawful.of_game;
  here = (here, refl, λ other there at. grind (arith, lawful.shows (get_or layers object 0), there, at, here), λ way. grind (arith, movement_is (get_or layers object 0) way));
  same_objects = λ other apart. refl;
  proper = proper;
  same_movement = λ other way apart. grind (arith, movement_is other way, apart);
}
