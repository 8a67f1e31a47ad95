-- The number of threads that a text spells.
use Rattle.std.proofs.Common.{◌≡◌, ℕ, Bool, true, false, List, Some, None, refl}
use Rattle.std.specs.Str.Parse.{digits_value, without_leading_plus}
use Rattle.clap.specs.ValueTests.{is_unsigned_in}
use Rattle.clap.specs.Values.{IsUnsignedIn}
use Rattle.clap.specs.declared.builder.value_parser.ValueParser.TheVariants as parser
use Rattle.clap.proofs.ValueTestLemmas.{accepts-Accepts, Accepts-accepts}
use Rattle.pz_console.specs.declared.options.TheConstants.{MOST_WORKERS}
use Rattle.pz_console.specs.Options.{workers_of}

pub spelled : (text : List ℕ) → IsUnsignedIn 1 MOST_WORKERS text → Some (digits_value 10 (without_leading_plus text)) ≡ workers_of (Some text)
spelled text h = rw (Accepts-accepts false (parser.Unsigned 1 MOST_WORKERS) text h) refl

unspelled_by : (text : List ℕ) (b : Bool) → is_unsigned_in 1 MOST_WORKERS text ≡ b → (IsUnsignedIn 1 MOST_WORKERS text → ⊥) → None ≡ workers_of (Some text)
unspelled_by text true e h = absurd (h (accepts-Accepts false (parser.Unsigned 1 MOST_WORKERS) text e))
unspelled_by text false e h = rw e refl

pub unspelled : (text : List ℕ) → (IsUnsignedIn 1 MOST_WORKERS text → ⊥) → None ≡ workers_of (Some text)
unspelled text h = unspelled_by text (is_unsigned_in 1 MOST_WORKERS text) refl h
