-- A past with one more level, and with one less.
use Rattle.std.proofs.Common.{◌≡◌, List, [], ◌∷◌, ◌++◌, Option, Some, None, map, reverse, refl, ap, sym, ◌∙◌, subst}
use Rattle.std.specs.Bool.{⊤}
use Rattle.std.proofs.lemmas.List.{map-append, reverse-append}
use Rattle.pz_sheet.specs.Changes.{changes_seen, with_cells_back}
use Rattle.pz_sheet.specs.Grid.{Grid, BareState, SameSize}
use Rattle.pz_bare.specs.declared.older.Older.{Older}
use Rattle.pz_bare.specs.declared.older.Older.TheVariants.{Small, Middle, Large, Whole}
use Rattle.pz_bare.specs.Past.{Kept, given_back, kept_in, grids_before, grids_of, AreChangesTo, IsFor, Leads, AreWays, IsPast}

-- what was added last comes first
newest_first : (before now : List Older) (way : Older) → now ≡ before ++ way ∷ [] → reverse now ≡ way ∷ reverse before
newest_first before now way e = ap reverse e ∙ reverse-append before (way ∷ [])

pub ways_fewer : (before now : List Older) (way : Older) (last : BareState) (newest : Option BareState) → before ≡ now ++ way ∷ [] → newest ≡ Some last → IsPast newest (reverse before) → Leads way last.grid (given_back way last.grid) × AreWays (reverse now) (given_back way last.grid)
ways_fewer before now way last newest e is ways =
    subst (λ (all : List Older). AreWays all last.grid) (newest_first now before way e) (subst (λ (n : Option BareState). IsPast n (reverse before)) is ways)

-- what a way leads back to follows from what it keeps
abbrev given_by : Kept → Grid → Grid
given_by (Some changes, rest) grid = with_cells_back (changes_seen grid changes) grid
given_by (None, (Some changes, rest)) grid = with_cells_back (changes_seen grid changes) grid
given_by (None, (None, (Some changes, rest))) grid = with_cells_back (changes_seen grid changes) grid
given_by (None, (None, (None, Some level))) grid = level
given_by (None, (None, (None, None))) grid = grid

given_is : (way : Older) (grid : Grid) → given_back way grid ≡ given_by (kept_in way) grid
given_is (Small changes) grid = refl
given_is (Middle changes) grid = refl
given_is (Large changes) grid = refl
given_is (Whole level) grid = refl

abbrev led_by : Kept → Grid → Grid → Type 0
led_by (Some changes, rest) grid older = IsFor 128 25 grid × AreChangesTo 1 grid older changes
led_by (None, (Some changes, rest)) grid older = (IsFor 128 25 grid → ⊥) × IsFor 256 50 grid × AreChangesTo 2 grid older changes
led_by (None, (None, (Some changes, rest))) grid older = (IsFor 256 50 grid → ⊥) × AreChangesTo 4 grid older changes
led_by (None, (None, (None, Some level))) grid older = (level ≡ older) × (SameSize grid older → ⊥)
led_by (None, (None, (None, None))) grid older = ⊥

leads_by : (way : Older) (grid older : Grid) → Leads way grid older → led_by (kept_in way) grid older
leads_by (Small changes) grid older leads = leads
leads_by (Middle changes) grid older leads = leads
leads_by (Large changes) grid older leads = leads
leads_by (Whole level) grid older leads = leads

by_leads : (way : Older) (grid older : Grid) → led_by (kept_in way) grid older → Leads way grid older
by_leads (Small changes) grid older leads = leads
by_leads (Middle changes) grid older leads = leads
by_leads (Large changes) grid older leads = leads
by_leads (Whole level) grid older leads = leads

-- the levels before one follow from what the ways keep
abbrev grids_by : List Kept → Grid → List Grid
grids_by [] grid = []
grids_by (way ∷ ways) grid = given_by way grid ∷ grids_by ways (given_by way grid)

grids_are : (ways : List Older) (grid : Grid) → grids_before ways grid ≡ grids_by (map kept_in ways) grid
grids_are [] grid = refl
grids_are (way ∷ ways) grid =
    (λ i. given_is way grid i ∷ grids_before ways (given_is way grid i)) ∙ ap (λ (gs : List Grid). given_by (kept_in way) grid ∷ gs) (grids_are ways (given_by (kept_in way) grid))

abbrev are_by : List Kept → Grid → Type 0
are_by [] grid = ⊤
are_by (way ∷ ways) grid = led_by way grid (given_by way grid) × are_by ways (given_by way grid)

are_to : (ways : List Older) (grid : Grid) → AreWays ways grid → are_by (map kept_in ways) grid
are_to [] grid are = are
are_to (way ∷ ways) grid are =
    let e = given_is way grid in
    (subst (λ (older : Grid). led_by (kept_in way) grid older) e (leads_by way grid (given_back way grid) are.0), subst (λ (older : Grid). are_by (map kept_in ways) older) e (are_to ways (given_back way grid) are.1))

are_from : (ways : List Older) (grid : Grid) → are_by (map kept_in ways) grid → AreWays ways grid
are_from [] grid are = are
are_from (way ∷ ways) grid are =
    let e = sym (given_is way grid) in
    (by_leads way grid (given_back way grid) (subst (λ (older : Grid). led_by (kept_in way) grid older) e are.0), are_from ways (given_back way grid) (subst (λ (older : Grid). are_by (map kept_in ways) older) e are.1))

map_reversed : {A B : Type 0} (f : A → B) (xs : List A) → map f (reverse xs) ≡ reverse (map f xs)
map_reversed f [] = refl
map_reversed {B = B} f (x ∷ xs) =
    ap (map f) (reverse-append (x ∷ []) xs) ∙ map-append f (reverse xs) (x ∷ []) ∙ ap (λ (ys : List B). ys ++ f x ∷ []) (map_reversed f xs) ∙ sym (reverse-append (f x ∷ []) (map f xs))

reversed_alike : (copies ways : List Older) → map kept_in copies ≡ map kept_in ways → map kept_in (reverse copies) ≡ map kept_in (reverse ways)
reversed_alike copies ways e = map_reversed kept_in copies ∙ ap reverse e ∙ sym (map_reversed kept_in ways)

-- a past of copies
pub copied_grids : (copies ways : List Older) (newest copy : BareState) → map kept_in copies ≡ map kept_in ways → copy.grid ≡ newest.grid
    → grids_of (Some copy) (reverse copies) ≡ grids_of (Some newest) (reverse ways)
copied_grids copies ways newest copy e same =
    let before : grids_before (reverse copies) newest.grid ≡ grids_before (reverse ways) newest.grid =
    grids_are (reverse copies) newest.grid ∙ ap (λ (kept : List Kept). grids_by kept newest.grid) (reversed_alike copies ways e) ∙ sym (grids_are (reverse ways) newest.grid) in
    (λ i. same i ∷ grids_before (reverse copies) (same i)) ∙ ap (λ (gs : List Grid). newest.grid ∷ gs) before

pub copied_is : (copies ways : List Older) (newest copy : BareState) → map kept_in copies ≡ map kept_in ways → copy.grid ≡ newest.grid
    → IsPast (Some newest) (reverse ways) → IsPast (Some copy) (reverse copies)
copied_is copies ways newest copy e same is =
    are_from (reverse copies) copy.grid (subst (λ (grid : Grid). are_by (map kept_in (reverse copies)) grid) (sym same)
    (subst (λ (kept : List Kept). are_by kept newest.grid) (sym (reversed_alike copies ways e)) (are_to (reverse ways) newest.grid is)))

unmapped : {A B : Type 0} (f : A → B) (xs : List A) → map f xs ≡ [] → xs ≡ []
unmapped f [] e = refl
unmapped f (x ∷ xs) e = absurd (cc)

-- an empty past's copy is empty
pub copied_empty : (copies ways : List Older) → map kept_in copies ≡ map kept_in ways → IsPast None (reverse ways) → reverse copies ≡ []
copied_empty copies ways e is = unmapped kept_in (reverse copies) (reversed_alike copies ways e ∙ ap (map kept_in) is)
