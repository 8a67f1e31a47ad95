-- How a loop over the things that a check reads meets `first_fault`, and how checks are joined.
use Rattle.std.proofs.Common.{◌≡◌, ℕ, ◌<◌, ◌+◌, List, [], ◌∷◌, ◌++◌, length, get_or, take, drop, suc, refl, ap, sym, ◌∙◌, arith, add-one, drop-cons}
use Rattle.std.specs.Prelude.{Option, Some, None, Result, Ok, Err}
use Rattle.std.proofs.lemmas.List.{take_more}
use Rattle.pz_base.specs.Fault.{first_fault, or_else, unless, and_then}
use Rattle.pz_base.specs.declared.fault.Code.{Code}
use Rattle.pz_base.specs.declared.fault.SourceFault.{SourceFault}

module _ {A : Type 0} (at : A → ℕ) (names : List A → A → Option Code) where
  -- where the check names the line of the thing at i, that is its fault
  pub first_fault-hit : (xs : List A) (i : ℕ) (x : A) (code : Code) → i < length xs → x ≡ get_or xs i x → names (take i xs) x ≡ Some code
      → first_fault at names (take i xs) (drop i xs) ≡ Some (record { code = code; line = at x })
  first_fault-hit xs i x code lt is named =
      let parts : drop i xs ≡ x ∷ drop (suc i) xs = drop-cons xs i x lt ∙ ap (λ y. y ∷ drop (suc i) xs) (sym is) in
      rw parts (rw named refl)

  -- where the check doesn't name the line of the thing at i, its fault is that of what follows
  pub first_fault-pass : (xs : List A) (i : ℕ) (x : A) → i < length xs → x ≡ get_or xs i x → names (take i xs) x ≡ None
      → first_fault at names (take (i + 1) xs) (drop (i + 1) xs) ≡ first_fault at names (take i xs) (drop i xs)
  first_fault-pass xs i x lt is passed =
      let parts : drop i xs ≡ x ∷ drop (i + 1) xs = drop-cons xs i x lt ∙ (ap (λ y. y ∷ drop (suc i) xs) (sym is) ∙ ap (λ j. x ∷ drop j xs) (sym (add-one i))) in
      let more : take (i + 1) xs ≡ take i xs ++ x ∷ [] = grind (arith, take_more) in
      rw (parts, passed, more) refl

-- the fault of two checks
pub or_else-first : (first later : Option SourceFault) (fault : SourceFault) → first ≡ Some fault → or_else first later ≡ Some fault
or_else-first first later fault e = rw e refl

pub or_else-later : (first later : Option SourceFault) → first ≡ None → or_else first later ≡ later
or_else-later first later e = rw e refl

-- what is read unless a check names a line
pub unless-hit : {A : Type 0} (check : Option SourceFault) (later : Result A SourceFault) (fault : SourceFault) → check ≡ Some fault → unless check later ≡ Err fault
unless-hit check later fault e = rw e refl

pub unless-pass : {A : Type 0} (check : Option SourceFault) (later : Result A SourceFault) → check ≡ None → unless check later ≡ later
unless-pass check later e = rw e refl

-- what is read after something else
pub and_then-ok : {A B : Type 0} (next : A → Result B SourceFault) (r : Result A SourceFault) (x : A) → r ≡ Ok x → and_then next r ≡ next x
and_then-ok next r x e = rw e refl
