use Rattle.std.proofs.Common.{◌≡◌, ◌≢◌, ℕ, ◌<◌, ◌⊎◌, inl, inr, Bool, false, length, map, Some, ap, sym, ◌∙◌, subst, refl, arith}
use Rattle.std.specs.Prelude.{slice_get, option_map, IsTrue}
use Rattle.std.proofs.lemmas.List.{length-map}
use Rattle.std.proofs.lemmas.List.Elements.{All-get_or}
use Rattle.std.proofs.lemmas.Option.{same_Some, slice_get-map, slice_get_read, slice_get_within}
use Rattle.pz_sheet.specs.Presence.{cell_of}
use Rattle.pz_store.specs.declared.book.Place.{Place}
use Rattle.pz_store.specs.Book.{BookState, IsPlaceIn, cell_from, cell_in}
use Rattle.pz_store.proofs.book.Book.find.Goals as goal

is_not : {b : Bool} → b ≡ false → IsTrue b → ⊥
is_not is holds = grind (arith, is, holds)

pub loop-number-preserved : goal.loop-number-preserved
loop-number-preserved c = λ number low is.
    let frame = c.self.inside.frame.grid in
    let levels = c.self.inside.levels.items in
    let places = c.self.inside.places.items in
    let at = c.loop-number.number in
    let place = c.index-place.result.now in
    let sample = c.index.result.now in
    let cell = cell_of c.args.level.now.grid c.args.index in
    let within : at < length places = omega (arith, c.loop-number-test.true, c.len-number-end.ensures ∙ c.self.inside.places.ok.0) in
    let placed : IsPlaceIn frame levels c.self.inside.objects place = subst (λ (p : Place). IsPlaceIn frame levels c.self.inside.objects p) (sym c.index-place.ensures) (All-get_or (IsPlaceIn frame levels c.self.inside.objects) places at place within c.self.invariant.placed) in
    let there : slice_get (map (cell_in levels) places) at ≡ Some (cell_in levels place) =
    slice_get-map (cell_in levels) places at ∙ ap (option_map (cell_in levels)) (slice_get_read places (length places) at place refl within c.index-place.ensures) in
    let stands : cell_in levels place ≡ cell_of sample.grid place.index =
    ap (λ o. cell_from o place.index) (slice_get_read levels (length levels) place.level sample refl placed.level c.index.ensures) in
    let which : (number ≡ at) ⊎ (number ≢ at) = grind arith in
    elim which [
      | inl here ↦
          let now = ap (λ (b : BookState). slice_get b.cells at) c.self.view_is in
          let found : slice_get c.args.self.now.cells at ≡ Some cell = subst (λ (n : ℕ). slice_get c.args.self.now.cells n ≡ Some cell) here is in
          let same : cell_in levels place ≡ cell = same_Some (cell_in levels place) cell (sym there ∙ now ∙ found) in
          is_not c.if-has_cell_of.false (c.has_cell_of.ensures.1 (sym same ∙ stands))
      | inr other ↦ c.loop-number.invariant number (omega (arith, low, other)) is
    ]

pub returns : goal.returns
returns c = λ number is.
    let levels = c.self.inside.levels.items in
    let places = c.self.inside.places.items in
    let cell = cell_of c.args.level.now.grid c.args.index in
    let there : slice_get (map (cell_in levels) places) number ≡ Some cell = ap (λ (b : BookState). slice_get b.cells number) c.self.view_is ∙ is in
    let within : number < length places = omega (arith, slice_get_within (map (cell_in levels) places) number cell there, length-map places (cell_in levels)) in
    c.loop-number.invariant number (omega (arith, within, c.loop-number-test.false, c.len-number-end.ensures ∙ c.self.inside.places.ok.0)) is
