-- The places of rows, taken one row after another. Rows are left out at once if one has no place and those before it are within the limit.
use Rattle.pz_turn.proofs.Common.{◌≡◌, List, [], ◌∷◌, length, refl, ap, ◌∙◌, arith, None, Ok, Dir, Instance, RuleRow, Place, Grid, IsLawful, places, combinations, nothing_run, found_or_stop, after_row, places_of_rows, applied_to, applied_with, application_of, ℕ, ◌+◌, ◌<◌, ◌++◌, get_or, drop, eqb, false, append_assoc, sym, Result, Err, at_drop_more, StepFault, places_or_limit, searched-within, searched-gapless}

-- the places of some rows are taken without a stop, and have no combination
pub record IsNoneTaken (grid : Grid) (dir : Dir) (rows : List RuleRow) : Type 0 where
  pub lists : List (List Place)
  pub takes : places_of_rows grid dir rows ≡ Ok lists
  pub none : combinations lists ≡ []

-- a row without a place
pub none_first : (grid : Grid) (dir : Dir) (row : RuleRow) (rows : List RuleRow) → places grid row dir ≡ [] → IsNoneTaken grid dir (row ∷ rows)
none_first grid dir row rows none = record { lists = [] ∷ []; takes = ap (λ r. after_row (found_or_stop r) (places_of_rows grid dir rows)) (searched-within grid row dir (omega (arith, ap length none)) ∙ ap Ok none); none = refl }

-- a row without a gap before such rows
pub none_after : (grid : Grid) (dir : Dir) (row : RuleRow) (rows : List RuleRow) → IsLawful grid → row.gap_at ≡ None → IsNoneTaken grid dir rows → IsNoneTaken grid dir (row ∷ rows)
none_after grid dir row rows lawful gapless rest = by (places grid row dir) refl where
  by : (found : List Place) → places grid row dir ≡ found → IsNoneTaken grid dir (row ∷ rows)
  by [] e = none_first grid dir row rows e
  by (place ∷ found) e = record { lists = (place ∷ found) ∷ rest.lists; takes = grind (arith, searched-gapless grid row dir lawful gapless, e, rest.takes); none = grind (arith, rest.none) }

-- an instance of such rows does nothing
pub applied_none : (instance : Instance) (grid : Grid) → IsNoneTaken grid instance.scan instance.left → application_of instance grid ≡ Ok (nothing_run grid)
unfolding application_of
applied_none instance grid rows =
    ap (applied_with instance grid) rows.takes ∙ ap (applied_to instance grid) rows.none

-- ---- one row after another
-- lists found before others
abbrev pub following : List (List Place) → Result (List (List Place)) StepFault → Result (List (List Place)) StepFault
following found (Err fault) = Err fault
following found (Ok lists) = Ok (found ++ lists)

-- what is taken from a row on
pub taken_from : (grid : Grid) (dir : Dir) (rows : List RuleRow) (i : ℕ) (row : RuleRow) (found : Result (List Place) StepFault) → i < length rows → row ≡ get_or rows i row → found_or_stop (places_or_limit grid row dir) ≡ found → places_of_rows grid dir (drop i rows) ≡ after_row found (places_of_rows grid dir (drop (i + 1) rows))
taken_from grid dir rows i row found within at is =
    let rest = places_of_rows grid dir (drop (i + 1) rows) in
    at_drop_more (places_of_rows grid dir) rows i row within ∙ ap (λ (r : RuleRow). after_row (found_or_stop (places_or_limit grid r dir)) rest) (sym at) ∙ ap (λ (r : Result (List Place) StepFault). after_row r rest) is

-- one more row with places
pub following_one : (lists : List (List Place)) (found : List Place) (rest : Result (List (List Place)) StepFault) → eqb (length found) 0 ≡ false → following (lists ++ found ∷ []) rest ≡ following lists (after_row (Ok found) rest)
following_one lists [] rest some = cc
following_one lists (place ∷ found) (Err fault) some = refl
following_one lists (place ∷ found) (Ok more) some = rw append_assoc
