use Rattle.std.proofs.Common.{◌≡◌, ℕ, ◌<◌, ◌≤◌, Bool, true, false, not, Some, None, Option, length, ap, sym, ◌∙◌, subst, arith, List}
use Rattle.std.specs.Prelude.{IsTrue, slice_get}
use Rattle.std.proofs.lemmas.Option.{slice_get_within}
use Rattle.pz_bare.specs.Differing.{DifferWithin}
use Rattle.pz_bare.proofs.DifferingLemmas.{same_without}
use Rattle.pz_grid.proofs.MovementLemmas.{same_size_on}
use Rattle.pz_sheet.specs.Grid.{Grid}
use Rattle.pz_sheet.proofs.NewerLemmas.{size_back}
use Rattle.pz_solve.specs.Noted.{digests_of, is_among}
use Rattle.pz_solve.proofs.Knowing.{IsUpTo, as_many, none_among, place_of, there_among, up_to}
use Rattle.pz_solve.proofs.search.is_new.Goals as goal

-- a level that is there has a digest at its place
within : (objects : ℕ) (grids : List Grid) (digests : List ℕ) (place : ℕ) (grid : Grid) → digests ≡ digests_of objects grids → slice_get grids place ≡ Some grid → place < length digests
within objects grids digests place grid indexed is = omega (arith, slice_get_within grids place grid is, as_many objects grids digests indexed)

pub places-init : goal.places-init
places-init c =
    let levels = c.args.levels.now in
    let index = c.args.index.now in
    let digest = c.args.digest in
    record {
      placed = place_of (length levels.grids) index (length index) digest c.newest-at.result (as_many levels.objects levels.grids index c.requires.indexed) c.newest-at.ensures;
      left = λ grid size are is_digest place is.
          up_to levels.objects levels.grids index digest (length index) grid c.newest-at.result c.requires.indexed is_digest c.newest-at.ensures
          place (within levels.objects levels.grids index place grid c.requires.indexed is) is;
    }

is_true : {b : Bool} → b ≡ true → IsTrue b
is_true is = grind (arith, is)

is_not : {b : Bool} → b ≡ false → IsTrue b → ⊥
is_not is holds = grind (arith, is, holds)

pub has_at-requires-clause-within : goal.has_at-requires-clause-within
has_at-requires-clause-within c = (c.places.invariant.placed c.in-Some.place c.in-Some.is).0

pub returns-then-has_at : goal.returns-then-has_at
returns-then-has_at c = λ grid size are is_digest rest.
    let levels = c.args.levels.now in
    let there = (c.has_at.ensures grid size are).0 (is_true c.if-has_at.true) in
    ap not (sym (there_among levels.grids c.in-Some.place grid there))

-- a level is behind no other place, if it isn't the one there
others : (grids : List Grid) (grid : Grid) (at : Option ℕ) (place : ℕ) → at ≡ Some place → (slice_get grids place ≡ Some grid → ⊥) → (i : ℕ) → slice_get grids i ≡ Some grid → IsUpTo at i → i < place
others grids grid at place at_place differs i is up =
    let low : i ≤ place = subst (λ (o : Option ℕ). IsUpTo o i) at_place up in
    let other : (i ≡ place → ⊥) = λ here. differs (subst (λ (n : ℕ). slice_get grids n ≡ Some grid) here is) in
    grind (arith, low, other)

pub places-preserved : goal.places-preserved
places-preserved c =
    let levels = c.args.levels.now in
    let index = c.args.index.now in
    let place = c.in-Some.place in
    let digest = c.args.digest in
    record {
      placed = place_of (length levels.grids) index place digest c.older-at.result (as_many levels.objects levels.grids index c.requires.indexed) c.older-at.ensures;
      left = λ grid size are is_digest i is.
          let low = others levels.grids grid c.places.at place c.in-Some.is (λ here. is_not c.if-has_at.false ((c.has_at.ensures grid size are).1 here)) i is (c.places.invariant.left grid size are is_digest i is) in
          up_to levels.objects levels.grids index digest place grid c.older-at.result c.requires.indexed is_digest c.older-at.ensures i low is;
    }

pub returns : goal.returns
returns c = λ grid size are is_digest rest.
    let levels = c.args.levels.now in
    let none : c.places.at ≡ None = c.in_default.is in
    let fresh : is_among levels.grids grid ≡ false = none_among levels.grids grid (λ place is. subst (λ (o : Option ℕ). IsUpTo o place) none (c.places.invariant.left grid size are is_digest place is)) in
    ap not (sym fresh)

pub returns-then-has_no_change : goal.returns-then-has_no_change
returns-then-has_no_change c = λ grid size are is_digest rest.
    let levels = c.args.levels.now in
    let origin = c.args.origin.now in
    let at = c.requires.at in
    let long : length grid.cells ≡ length origin.grid.cells = omega (arith, are.long, c.requires.row.long, at.row.long, at.numbers.long) in
    let same = same_without grid origin.grid (same_size_on grid levels.frame origin.grid (size_back levels.frame grid size) at.size) long (subst (λ (l : List ℕ). DifferWithin l grid origin.grid) (c.has_no_change.ensures.0 c.if-has_no_change.true) rest) in
    ap not (sym (there_among levels.grids origin.place grid (at.there ∙ ap (λ (g : Grid). Some g) (sym same))))
