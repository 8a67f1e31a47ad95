use Rattle.pz_cells.proofs.Common.{◌≡◌, Option, None, arith, sym, refl, subst, flag, dir_bit-low, still_place, get_or_past, length-map-range_with_len, place_of, Piece}
use Rattle.pz_cells.proofs.MoverLemmas.{still_on, flag_is, headed_low, headed_some, headed_piece}
use Rattle.pz_cells.proofs.PlaceLemmas.{found_on, found_none}
use Rattle.pz_cells.proofs.cell.Cell.next_mover.Goals as goal

pub returns-then-from-depth : goal.returns-then-from-depth
returns-then-from-depth g c layer late =
    subst (λ (place : Option Piece). place ≡ still_place place)
    (sym (get_or_past _ layer None (omega (arith, late, c.if-from-depth.true, c.depth.ensures.depth, length-map-range_with_len (place_of c.args.layers.now.layers c.args.self.now.objects c.args.self.now.movement) 0 c.args.layers.now.depth)))) refl

pub returns-in-None : goal.returns-in-None
returns-in-None g c layer late = still_on _ _ _ _ c.depth.ensures.law.layered c.requires.sound layer (λ dir. c.in-None.ensures (flag layer dir) (omega (arith, late, c.flag.ensures.number)))

pub objects_of-requires : goal.objects_of-requires
objects_of-requires g c = (omega arith, headed_low _ _ _ _ c.depth.ensures.law.layered c.requires.sound c.in-Some.found _ c.flagged-layer.result.1 c.in-Some.ensures.2 c.flagged-layer.ensures)

pub returns-in-None-first_common : goal.returns-in-None-first_common
returns-in-None-first_common g c =
    absurd (headed_some _ _ _ _ c.depth.ensures.law.layered c.requires.sound c.in-Some.found _ c.flagged-layer.result.1 c.in-Some.ensures.2 c.flagged-layer.ensures (found_none _ _ _ _ _ c.requires.sound c.objects_of.ensures.set c.in-None-first_common.ensures))

pub returns-in-Some-first_common : goal.returns-in-Some-first_common
returns-in-Some-first_common g c =
    let there = found_on _ _ _ _ _ c.in-Some-first_common.object c.requires.sound c.objects_of.ensures.set c.in-Some-first_common.ensures.1 in
    let is = flag_is _ _ _ _ c.depth.ensures.law.layered c.requires.sound c.in-Some.found _ c.flagged-layer.result.1 c.in-Some.ensures.2 c.flagged-layer.ensures in (
      omega (arith, c.in-Some.ensures.0, c.flag.ensures.number, dir_bit-low c.flagged-layer.result.1, is),
      headed_piece _ _ _ _ c.depth.ensures.law.layered c.requires.sound c.in-Some.found _ c.flagged-layer.result.1 c.in-Some.ensures.2 c.flagged-layer.ensures c.in-Some-first_common.object there.0 there.1,
      λ layer late early. still_on _ _ _ _ c.depth.ensures.law.layered c.requires.sound layer (λ dir. c.in-Some.ensures.3 (flag layer dir) (omega (arith, late, c.flag.ensures.number)) (omega (arith, early, dir_bit-low dir, is))),
    )
