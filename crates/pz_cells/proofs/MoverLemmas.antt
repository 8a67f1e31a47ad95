-- The first piece of a cell that heads somewhere, and such a piece that is taken away.
use Rattle.pz_cells.proofs.Common.{◌≡◌, ◌≢◌, inl, inr, ℕ, ◌+◌, ◌*◌, ◌/◌, ◌%◌, ◌<◌, List, Option, Some, None, true, false, not, ◌&&◌, length, get_or, set, arith, ap, sym, ◌∙◌, refl, nat_eq, All, cases_eq, cases_lt, member, Piece, Dir, is_toward, flag, heads, heading_in, place_of, cell_of, AreLawful, heading_of, still_place, dir_bit-low}
use Rattle.pz_cells.specs.Cell.{IsStillOn, moving_piece}
use Rattle.pz_cells.specs.declared.piece.Mover.{Mover}
use Rattle.pz_cells.proofs.SameLemmas.{same_dir_is}
use Rattle.pz_cells.proofs.HoldLemmas.{heads_toward, none_toward, on_its_layer, place_seen}
use Rattle.pz_cells.proofs.PlaceLemmas.{place_some, changes_lifted, object_there, put_seen}
use Rattle.pz_cells.proofs.RewriteLemmas.{heads_seen}

toward_is : (heading : Option Dir) (dir : Dir) → is_toward heading dir ≡ true → heading ≡ Some dir
toward_is heading dir e = grind (arith, same_dir_is)

still_place_is : (place : Option Piece) → ((dir : Dir) → is_toward (heading_of place) dir ≡ false) → place ≡ still_place place
still_place_is None none = refl
still_place_is (Some piece) none = ap (λ (heading : Option Dir). Some (record { object = piece.object; heading = heading })) (none_toward piece.heading none)

module _ (depth : ℕ) (layers objects movement : List ℕ) (low : All (λ l. l < depth) layers) (lawful : AreLawful layers objects movement) where
  abbrev cell : List (Option Piece)
  cell = cell_of depth layers objects movement

  -- a layer without a direction is still
  pub still_on : (layer : ℕ) → ((dir : Dir) → heads movement layer dir ≡ false) → IsStillOn cell layer
  still_on layer none = still_place_is (get_or cell layer None) (λ dir. sym (heads_seen depth layers objects movement layer dir low lawful) ∙ none dir)

  -- a number of the words is a direction of a layer, on which something stands that heads there
  module _ (number layer : ℕ) (dir : Dir) (here : member movement number ≡ true) (is : number % 128 < 125 → flag layer dir ≡ number) where
    pub flag_is : flag layer dir ≡ number
    flag_is = grind (arith, here, is, lawful.proper number)

    headed : heads movement layer dir ≡ true
    headed = ap (member movement) flag_is ∙ here

    pub headed_some : place_of layers objects movement layer ≢ None
    headed_some none = grind (arith, headed, none, lawful.shows layer)

    pub headed_low : layer < depth
    headed_low = grind (arith, headed, lawful.shows layer, lawful.of_game, low)

    pub headed_piece : (object : ℕ) → member objects object ≡ true → get_or layers object 0 ≡ layer → get_or cell layer None ≡ Some (record { object = object; heading = Some dir })
    headed_piece object there its = grind (arith, place_seen depth layers objects movement layer headed_low, place_some layers objects movement layer object lawful there its, toward_is (heading_in movement layer) dir, heads_toward layers objects movement layer dir lawful, headed)

  -- a piece is taken away, and its direction
  module _ (mover : Mover) (there : get_or cell mover.layer None ≡ Some (moving_piece mover)) where
    pub mover_low : mover.layer < depth
    mover_low = grind (arith, there, on_its_layer depth layers objects movement lawful mover.layer, low mover.object 0)

    its : (member objects mover.object ≡ true) × (get_or layers mover.object 0 ≡ mover.layer) × (mover.object < length layers)
    its = object_there layers objects movement mover.layer (moving_piece mover) lawful (sym (place_seen depth layers objects movement mover.layer mover_low) ∙ there)

    pub mover_stands : member objects mover.object ≡ true
    mover_stands = its.0

    headed_new : (movement_new : List ℕ) → ((number : ℕ) → member movement_new number ≡ (not (nat_eq number (flag mover.layer mover.dir)) && member movement number)) → (layer : ℕ) (dir : Dir) → heads movement_new layer dir ≡ (not (nat_eq layer mover.layer) && heads movement layer dir)
    headed_new movement_new is layer dir = elim (cases_eq layer mover.layer) [
      | inl same ↦ grind (arith, same, is (flag layer dir), heads_seen depth layers objects movement layer dir low lawful, there, same_dir_is)
      | inr apart ↦
          let other : flag layer dir ≢ flag mover.layer mover.dir = λ e. apart (omega (arith, e, dir_bit-low dir, dir_bit-low mover.dir)) in
          grind (arith, apart, is (flag layer dir), other)
    ]

    pub taken : (objects_new movement_new : List ℕ) → ((other : ℕ) → member objects_new other ≡ (not (nat_eq other mover.object) && member objects other)) → ((number : ℕ) → member movement_new number ≡ (not (nat_eq number (flag mover.layer mover.dir)) && member movement number))
        → AreLawful layers objects_new movement_new × (cell_of depth layers objects_new movement_new ≡ set cell mover.layer None)
    taken objects_new movement_new objects_are movement_is =
        put_seen depth layers objects movement objects_new movement_new mover.layer None None lawful refl
        (changes_lifted layers objects movement objects_new movement_new mover.layer mover.object lawful its.0 its.1 objects_are (headed_new movement_new movement_is) (λ number high. grind (arith, movement_is number, lawful.proper number high)))
