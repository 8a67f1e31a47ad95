-- What the bytes of a file hold, case by case.
use Rattle.std.proofs.Common.{◌≡◌, ◌≤◌, ℕ, List, length, false, Err, IsUtf8, refl, arith, inl, inr}
use Rattle.std.proofs.lemmas.Bool.{lt-ltb, le-ltb, cases_Bool}
use Rattle.std.proofs.lemmas.Str.{IsUtf8-from_is_utf8, is_utf8-from_IsUtf8}
use Rattle.std.specs.Str.{is_utf8}
use Rattle.pz_entries.specs.declared.fault.FileFault.TheVariants.{TooMany, NotJson}
use Rattle.pz_entries.specs.File.{entries_of}
use Rattle.pz_engine.specs.Sessions.{sessions_in}

pub too_long : (bytes : List ℕ) → 16777217 ≤ length bytes → sessions_in bytes ≡ Err TooMany
unfolding sessions_in
too_long bytes h = rw (lt-ltb 16777216 (length bytes) (omega arith)) refl

pub not_text : (bytes : List ℕ) → length bytes ≤ 16777216 → (IsUtf8 bytes → ⊥) → sessions_in bytes ≡ Err NotJson
unfolding sessions_in
not_text bytes h bad =
    let plain : is_utf8 bytes ≡ false = elim (cases_Bool (is_utf8 bytes)) [ inl e ↦ absurd (bad (IsUtf8-from_is_utf8 bytes e)) | inr e ↦ e ] in
    rw (le-ltb 16777216 (length bytes) h, plain) refl

pub text_in : (bytes : List ℕ) → length bytes ≤ 16777216 → IsUtf8 bytes → sessions_in bytes ≡ entries_of bytes
unfolding sessions_in
text_in bytes h good = rw (le-ltb 16777216 (length bytes) h, is_utf8-from_IsUtf8 bytes good) refl
