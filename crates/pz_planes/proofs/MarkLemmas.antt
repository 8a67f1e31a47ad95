-- The objects of a line, by whether their words are 0.
use Rattle.std.proofs.Common.{◌≡◌, ℕ, ◌+◌, ◌*◌, ◌^◌, ◌<◌, Bool, false, not, ◌&&◌, nat_eq, get_or, arith}
use Rattle.std.specs.Prelude.{nat_lt, ◌↔◌}
use Rattle.std.proofs.lemmas.Nat.{div-mul-add, mod-mul-add}
use Rattle.std.proofs.lemmas.Grind.{common_steps}
use Rattle.pz_sets.proofs.WordLemmas.{in_word-zero, same_below}
use Rattle.pz_planes.specs.Planes.{LineSets, IsMissingIn}

-- the word of an object and a line
abbrev pub word_of : LineSets → ℕ → ℕ → ℕ
word_of sets line object = get_or sets.words (object * sets.count + line) 0

missing_from_zero : (sets : LineSets) (line object : ℕ) → word_of sets line object ≡ 0 → IsMissingIn sets line object
missing_from_zero sets line object zero at known low = grind (arith, div-mul-add (object * sets.count + line) 128 at low, mod-mul-add (object * sets.count + line) 128 at low, in_word-zero at)

zero_from_missing : (sets : LineSets) (line object : ℕ) → object < sets.objects → word_of sets line object < 2 ^ 128 → IsMissingIn sets line object → word_of sets line object ≡ 0
zero_from_missing sets line object known fits missing = same_below (word_of sets line object) 0 fits (omega arith) (λ at low. grind (arith, missing at known low, div-mul-add (object * sets.count + line) 128 at low, mod-mul-add (object * sets.count + line) 128 at low, in_word-zero at))

-- an object is in a line's set if the planes have it and its word isn't 0: that is, if it isn't missing
pub exact : (sets : LineSets) (line object : ℕ) (marked : Bool) → marked ≡ (nat_lt object sets.objects && not (nat_eq (word_of sets line object) 0)) → word_of sets line object < 2 ^ 128 → (marked ≡ false) ↔ IsMissingIn sets line object
exact sets line object marked is fits = grind (arith, common_steps, missing_from_zero sets line object, zero_from_missing sets line object)
