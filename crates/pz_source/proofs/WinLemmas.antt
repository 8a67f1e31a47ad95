-- A loop over the lines of WINCONDITIONS.
use Rattle.std.proofs.Common.{◌≡◌, ℕ, ◌<◌, ◌≤◌, ◌+◌, true, false, not, List, [], ◌∷◌, ◌++◌, length, get_or, drop, filter, Result, Ok, Err, refl, ap}
use Rattle.std.proofs.lemmas.List.{drop_all}
use Rattle.pz_base.proofs.EachLemmas.{behind, one}
use Rattle.pz_base.proofs.ListLemmas.{drop-next}
use Rattle.pz_base.specs.declared.fault.SourceFault.{SourceFault}
use Rattle.pz_text.specs.declared.line.Line.{Line}
use Rattle.pz_names.specs.Objects.{is_blank}

-- what is read of the lines from i on, behind what was read before
abbrev pub from_line : {B : Type 0} → (Line → Result B SourceFault) → List B → List Line → Result (List B) SourceFault
from_line f done lines = behind one f done (filter (λ line. not (is_blank line)) lines)

module _ {B : Type 0} (f : Line → Result B SourceFault) (done : List B) (lines : List Line) (i : ℕ) where
  pub from_line-blank : (x : Line) → i < length lines → x ≡ get_or lines i x → is_blank x ≡ true → from_line f done (drop (i + 1) lines) ≡ from_line f done (drop i lines)
  from_line-blank x lt is blank = rw (drop-next lines i x lt is, blank) refl

  pub from_line-read : (x : Line) (y : B) → i < length lines → x ≡ get_or lines i x → is_blank x ≡ false → f x ≡ Ok y
      → from_line f (done ++ y ∷ []) (drop (i + 1) lines) ≡ from_line f done (drop i lines)
  from_line-read x y lt is full read = rw (drop-next lines i x lt is, full, read) refl

  pub from_line-refused : (x : Line) (fault : SourceFault) → i < length lines → x ≡ get_or lines i x → is_blank x ≡ false → f x ≡ Err fault
      → from_line f done (drop i lines) ≡ Err fault
  from_line-refused x fault lt is full refused = rw (drop-next lines i x lt is, full, refused) refl

  pub from_line-end : length lines ≤ i → from_line f done (drop i lines) ≡ Ok done
  from_line-end le = ap (from_line f done) (drop_all i lines le)
