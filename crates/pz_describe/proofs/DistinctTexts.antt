-- Texts of which none stands twice, one after another.
use Rattle.std.proofs.Common.{◌≡◌, ℕ, ◌<◌, ◌||◌, Bool, true, false, List, [], ◌∷◌, ◌++◌, length, get_or, slice_set, Option, Some, None, refl, ap, sym, ◌∙◌, ⊎_elim}
use Rattle.std.proofs.lemmas.Bool.{cases_eq, true≢false}
use Rattle.std.proofs.lemmas.List.{get_or-set_other, get_or-set_same}
use Rattle.std.proofs.Math.Bool.{or-true}
use Rattle.std.proofs.lemmas.List.Folds.{list_any-append, list_any_at}
use Rattle.std.proofs.lemmas.List.Quantifiers.{position-Some}
use Rattle.std.proofs.lemmas.Slice.Eq.{bytes_eq-Decides}
use Rattle.std.specs.List.{list_any}
use Rattle.std.specs.Str.{bytes_eq}
use Rattle.pz_base.specs.NameSet.{number_in, is_name_of}
use Rattle.pz_json_text.specs.CellTexts.{or_added, with_cell}
use Rattle.pz_json_text.proofs.KnownCells.{is_new}
use Rattle.pz_describe.specs.Recordings.{AreKnown}

-- a text that is among others adds nothing
pub nothing_added : (texts : List (List ℕ)) (text : List ℕ) → is_name_of texts text ≡ true → with_cell texts text ≡ texts
unfolding with_cell
nothing_added texts text e = by (number_in texts text) refl
  where
    by : (place : Option ℕ) → number_in texts text ≡ place → or_added texts text (number_in texts text) ≡ texts
    by None h = absurd (true≢false (sym e ∙ is_new texts text h))
    by (Some place) h = rw h refl

any_more : (texts : List (List ℕ)) (text other : List ℕ) → is_name_of texts other ≡ true → is_name_of (texts ++ text ∷ []) other ≡ true
any_more texts text other e = list_any-append (bytes_eq other) texts (text ∷ []) ∙ ap (λ b. b || is_name_of (text ∷ []) other) e

-- what is among the texts stays there
pub still_there : (texts : List (List ℕ)) (text other : List ℕ) → is_name_of texts other ≡ true → is_name_of (with_cell texts text) other ≡ true
unfolding with_cell
still_there texts text other e = by (number_in texts text)
  where
    by : (place : Option ℕ) → is_name_of (or_added texts text place) other ≡ true
    by None = any_more texts text other e
    by (Some place) = e

-- an added text is there
pub is_there : (texts : List (List ℕ)) (text : List ℕ) → is_name_of (with_cell texts text) text ≡ true
unfolding with_cell
is_there texts text = by (number_in texts text) refl
  where
    itself : bytes_eq text text ≡ true
    itself = (bytes_eq-Decides text text).1 refl

    by : (place : Option ℕ) → number_in texts text ≡ place → is_name_of (or_added texts text place) text ≡ true
    by None h = list_any-append (bytes_eq text) texts (text ∷ []) ∙ rw itself (or-true (list_any (bytes_eq text) texts))
    by (Some place) h = let at = position-Some (bytes_eq text) texts place [] h in list_any_at (bytes_eq text) texts place [] at.0 at.1

-- one more text is added, and noted
pub one_noted : (noted : List Bool) (known texts : List (List ℕ)) (place : ℕ) → place < length noted → AreKnown noted known texts
    → AreKnown (slice_set noted place true) (with_cell known (get_or texts place [])) texts
one_noted noted known texts place h are other e = ⊎_elim here there (cases_eq other place)
  where
    here : other ≡ place → is_name_of (with_cell known (get_or texts place [])) (get_or texts other []) ≡ true
    here same = ap (λ k. is_name_of (with_cell known (get_or texts place [])) (get_or texts k [])) same ∙ is_there known (get_or texts place [])

    there : (other ≡ place → ⊥) → is_name_of (with_cell known (get_or texts place [])) (get_or texts other []) ≡ true
    there differs = still_there known (get_or texts place []) (get_or texts other []) (are other (sym (get_or-set_other noted place other true false differs) ∙ e))
