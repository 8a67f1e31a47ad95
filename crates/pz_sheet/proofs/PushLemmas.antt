-- Objects that get a direction.
use Rattle.pz_sheet.proofs.Common.{◌≡◌, ◌≢◌, IfSome, inl, inr, ℕ, zero, suc, ◌+◌, ◌*◌, ◌<◌, ◌≤◌, List, [], ◌∷◌, ◌++◌, Option, Some, None, true, false, map, take, drop, length, get_or, nat_eq, arith, sym, refl, subst, length-append, length-drop, length-take, cases_Bool, cases_eq, drop_more, drop_all, get_or_default, length-map, set-get_or, member, Dir, heads, Piece, place_of, Shows, AreLawful, Changes, Grid, cell_at, AreMissing, list_any_none, map_fixed, pushed_place, pushed_at, cell_mapped}
use Rattle.std.proofs.Math.Nat.{suc-mul, mul-le-mul_right}
use Rattle.std.proofs.lemmas.List.Edits.{map_over_more}
use Rattle.pz_cells.specs.Shown.{cell_of}
use Rattle.pz_cells.proofs.PlaceLemmas.{lawful_changed, shows_changed, place_some}

pub all_pushed_none : (dir : Dir) (cell : List (Option Piece)) → map (pushed_place [] dir) cell ≡ cell
all_pushed_none dir cell = map_fixed (pushed_place [] dir) cell (λ k d within. pushed_none (get_or cell k d)) where
  pushed_none : (place : Option Piece) → pushed_place [] dir place ≡ place
  pushed_none place = grind arith

-- an object and others are pushed one after the other
pub pushed_more : (object : ℕ) (others : List ℕ) (dir : Dir) (place : Option Piece) → pushed_place others dir (pushed_place (object ∷ []) dir place) ≡ pushed_place (object ∷ others) dir place
pushed_more object others dir place = grind arith

pub all_pushed_more : (object : ℕ) (others : List ℕ) (dir : Dir) (cell : List (Option Piece)) → map (pushed_place others dir) (map (pushed_place (object ∷ []) dir) cell) ≡ map (pushed_place (object ∷ others) dir) cell
all_pushed_more object others dir [] = refl
all_pushed_more object others dir (place ∷ cell) = grind (arith, pushed_more object others dir place, all_pushed_more object others dir cell)

-- the next of some players is pushed, before the rest
pub rest_pushed : (players : List ℕ) (index d : ℕ) (dir : Dir) (now next whole : List (Option Piece)) → index < length players → next ≡ map (pushed_place (get_or players index d ∷ []) dir) now → map (pushed_place (drop index players) dir) now ≡ whole → map (pushed_place (drop (index + 1) players) dir) next ≡ whole
rest_pushed players index d dir now next whole within e rest = grind (arith, e, rest, all_pushed_more (get_or players index d) (drop (index + 1) players) dir now, drop_more players index d within)

-- nobody is left
pub none_pushed : (players : List ℕ) (index : ℕ) (dir : Dir) (now whole : List (Option Piece)) → length players ≤ index → map (pushed_place (drop index players) dir) now ≡ whole → now ≡ whole
none_pushed players index dir now whole past rest = grind (arith, rest, all_pushed_none dir now, drop_all index players past)

pushed_other : (object : ℕ) (dir : Dir) (place : Option Piece) → IfSome place (λ p. p.object ≢ object) → pushed_place (object ∷ []) dir place ≡ place
pushed_other object dir place h = grind arith

-- words in which one object was turned, if it stands there
pub record AreTurned (layers objects movement objects_new movement_new : List ℕ) (object : ℕ) (dir : Dir) : Type 0 where
  pub lawful : AreLawful layers objects movement
  pub turned : member objects object ≡ true → Changes layers objects movement objects_new movement_new (get_or layers object 0) (Some (record { object = object; heading = Some dir }))
  pub same_objects : member objects object ≡ false → objects_new ≡ objects
  pub same_movement : member objects object ≡ false → movement_new ≡ movement

pub lawful_turned : (layers objects movement objects_new movement_new : List ℕ) (object : ℕ) (dir : Dir) → AreTurned layers objects movement objects_new movement_new object dir → AreLawful layers objects_new movement_new
lawful_turned layers objects movement objects_new movement_new object dir t = elim (cases_Bool (member objects object)) [
  | inl here ↦ lawful_changed layers objects movement objects_new movement_new (get_or layers object 0) (Some (record { object = object; heading = Some dir })) t.lawful (t.turned here)
  | inr absent ↦ rw (t.same_objects absent, t.same_movement absent) t.lawful
]

turned_shows : (layers objects movement objects_new movement_new : List ℕ) (object : ℕ) (dir : Dir) → AreTurned layers objects movement objects_new movement_new object dir → (layer : ℕ) → Shows layers (member objects_new) (heads movement_new layer) layer (pushed_place (object ∷ []) dir (place_of layers objects movement layer))
turned_shows layers objects movement objects_new movement_new object dir t layer = elim (cases_Bool (member objects object)) [
  | inl here ↦ elim (cases_eq layer (get_or layers object 0)) [
    | inl same ↦ grind (arith, same, (t.turned here).here, place_some layers objects movement layer object t.lawful here (sym same))
    | inr apart ↦ grind (arith, apart, t.lawful.shows layer, shows_changed layers objects movement objects_new movement_new (get_or layers object 0) (Some (record { object = object; heading = Some dir })) (t.turned here) layer apart (place_of layers objects movement layer) (t.lawful.shows layer))
  ]
  | inr absent ↦ rw (t.same_objects absent, t.same_movement absent, pushed_other object dir (place_of layers objects movement layer) (grind (arith, absent, t.lawful.shows layer))) (t.lawful.shows layer)
]

pub cell_turned : (depth : ℕ) (layers objects movement objects_new movement_new : List ℕ) (object : ℕ) (dir : Dir) → AreTurned layers objects movement objects_new movement_new object dir → cell_of depth layers objects_new movement_new ≡ map (pushed_place (object ∷ []) dir) (cell_of depth layers objects movement)
cell_turned depth layers objects movement objects_new movement_new object dir t =
    cell_mapped depth layers objects movement objects_new movement_new (pushed_place (object ∷ []) dir) (lawful_turned layers objects movement objects_new movement_new object dir t).of_game (turned_shows layers objects movement objects_new movement_new object dir t)

-- nobody of some players stands there
pub absent_pushed : (players : List ℕ) (dir : Dir) (cell : List (Option Piece)) → AreMissing players cell → map (pushed_place players dir) cell ≡ cell
absent_pushed players dir [] none = refl
absent_pushed players dir (None ∷ places) none = grind (arith, absent_pushed players dir places none)
absent_pushed players dir (Some piece ∷ places) none = grind (arith, absent_pushed players dir places (λ k d within. grind (arith, none k d within)), list_any_none (λ other. nat_eq other piece.object) players (λ k d within. grind (arith, none k d within)))

-- a cell that a push leaves as it is
pub unpushed_at : (players : List ℕ) (dir : Dir) (index : ℕ) (grid : Grid) → map (pushed_place players dir) (get_or grid.cells index []) ≡ get_or grid.cells index [] → grid ≡ pushed_at players dir index grid
unpushed_at players dir index grid same = grind (arith, set-get_or grid.cells index [])

pushed_length : (f : List (Option Piece) → List (Option Piece)) (count : ℕ) (cells : List (List (Option Piece))) → length (map f (take count cells) ++ drop count cells) ≡ length cells
pushed_length f count cells =
    omega (arith, length-append (map f (take count cells)) (drop count cells), length-map (take count cells) f, length-take count cells, length-drop count cells)

-- the cells before a number are pushed, and no others
abbrev pub ArePushedTo : List ℕ → Dir → ℕ → Grid → Grid → Type 0
ArePushedTo players dir count old now = now ≡ record old { cells = map (map (pushed_place players dir)) (take count old.cells) ++ drop count old.cells }

pub pushed_as : (players : List ℕ) (dir : Dir) (count other : ℕ) (old now : Grid) → count ≡ other → ArePushedTo players dir count old now → ArePushedTo players dir other old now
pushed_as players dir count other old now same is = subst (λ (n : ℕ). ArePushedTo players dir n old now) same is

-- one more cell is pushed
pub pushed_on : (players : List ℕ) (dir : Dir) (index : ℕ) (old now next : Grid) → index < length now.cells → ArePushedTo players dir index old now → next ≡ pushed_at players dir index now → ArePushedTo players dir (index + 1) old next
pushed_on players dir index old now next inside is e =
    let f = map (pushed_place players dir) in
    let cells = map f (take index old.cells) ++ drop index old.cells in
    let within : index < length cells = grind (arith, inside, is) in
    grind (arith, e, is, map_over_more f old.cells cells index (get_or cells index []) (omega (arith, within, pushed_length f index old.cells)) refl (get_or_default cells index [] (get_or cells index []) within))

-- some cells, in which none of the players stands, need no push
pub pushed_past : (players : List ℕ) (dir : Dir) (from count : ℕ) (old now : Grid) → from + count ≤ length now.cells → ((k : ℕ) → k < count → AreMissing players (get_or now.cells (from + k) [])) → ArePushedTo players dir from old now
    → ArePushedTo players dir (from + count) old now
pushed_past players dir from zero old now within missing is = pushed_as players dir from (from + 0) old now (omega arith) is
pushed_past players dir from (suc count) old now within missing is =
    let before = pushed_past players dir from count old now (omega (arith, within)) (λ k h. missing k (omega (arith, h))) is in
    let at = from + count in
    pushed_as players dir (at + 1) (from + suc count) old now (omega arith)
    (pushed_on players dir at old now now (omega (arith, within)) before (unpushed_at players dir at now (absent_pushed players dir (get_or now.cells at []) (missing count (omega arith)))))

-- one more row is pushed
pub pushed_row : (players : List ℕ) (dir : Dir) (y at : ℕ) (old now : Grid) → at ≡ old.width → ArePushedTo players dir (y * old.width + at) old now → ArePushedTo players dir ((y + 1) * old.width) old now
pushed_row players dir y at old now end is = pushed_as players dir (y * old.width + at) ((y + 1) * old.width) old now (omega (arith, end, suc-mul y old.width)) is

-- a row in which none of the players stands needs no push
pub passed_row : (players : List ℕ) (dir : Dir) (y : ℕ) (old now : Grid) → length old.cells ≡ old.width * old.height → y < old.height → ((x : ℕ) → x < now.width → AreMissing players (cell_at now x y)) → ArePushedTo players dir (y * old.width) old now
    → ArePushedTo players dir ((y + 1) * old.width) old now
passed_row players dir y old now covers y_in missing is =
    let within : y * old.width + now.width ≤ length now.cells = grind (arith, is, pushed_length (map (pushed_place players dir)) (y * old.width) old.cells, mul-le-mul_right old.width y_in) in
    pushed_row players dir y now.width old now (grind (arith, is)) (pushed_past players dir (y * old.width) now.width old now within (λ k h. grind (arith, missing k h, is)) is)
