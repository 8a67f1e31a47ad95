-- Notes of objects that are toggled one after another.
use Rattle.std.proofs.Common.{◌≡◌, ℕ, ◌+◌, ◌*◌, ◌/◌, ◌%◌, ◌<◌, ◌≤◌, List, Bool, true, false, not, ◌&&◌, nat_eq, length, set, get_or, arith}
use Rattle.std.specs.Prelude.{nat_lt, ◌↔◌}
use Rattle.std.proofs.lemmas.Bool.{cases_eq}
use Rattle.std.proofs.lemmas.Grind.{common_steps}
use Rattle.std.proofs.lemmas.Nat.{div-mul-add, mod-mul-add}
use Rattle.pz_sets.specs.Sets.{in_word, member}
use Rattle.pz_sets.proofs.SetLemmas.{member_set_same, member_set_other}
use Rattle.pz_sets.proofs.WordLemmas.{in_word-zero}
use Rattle.pz_sets.proofs.WordsLemmas.{member_missing}
use Rattle.pz_planes.specs.Planes.{PlaneSets, AreChanged, IsKnown, toggled_note}

-- ---- the objects of one word of a set
-- those that were toggled, when `rest` is left of the word
abbrev pub done : ℕ → ℕ → ℕ → ℕ → Bool
done index word rest object = nat_eq (object / 128) index && (in_word word (object % 128) && not (in_word rest (object % 128)))

-- all of them
pub done_all : (index word rest object : ℕ) (was : Bool) → rest ≡ 0 → toggled_note (done index word rest object) was ≡ toggled_note (nat_eq (object / 128) index && in_word word (object % 128)) was
done_all index word rest object was none = grind (arith, in_word-zero)

-- one object more
pub done_more : (index word rest next bit : ℕ) → bit < 128 → in_word word bit ≡ true → in_word rest bit ≡ true → ((b : ℕ) → b < 128 → in_word next b ≡ (not (nat_eq b bit) && in_word rest b)) → (object : ℕ) (was : Bool) → toggled_note (nat_eq object (index * 128 + bit)) (toggled_note (done index word rest object) was) ≡ toggled_note (done index word next object) was
done_more index word rest next bit low in_it in_rest without object was = grind (arith, common_steps, without (object % 128), cases_eq (object % 128) bit, cases_eq (object / 128) index)

-- ---- the objects of the words of two sets, one word after another
-- an object that is in one of the sets alone
abbrev pub differ : List ℕ → List ℕ → ℕ → Bool
differ before after object = toggled_note (member before object) (member after object)

-- the objects below a number that pass a test
abbrev pub below : ℕ → (ℕ → Bool) → ℕ → Bool
below from test object = nat_lt object from && test object

-- one word more
pub below_more : (index word : ℕ) (test : ℕ → Bool) → ((bit : ℕ) → bit < 128 → in_word word bit ≡ test (index * 128 + bit)) → (object : ℕ) (was : Bool) → toggled_note (nat_eq (object / 128) index && in_word word (object % 128)) (toggled_note (below (index * 128) test object) was) ≡ toggled_note (below ((index + 1) * 128) test object) was
below_more index word test is object was = grind (arith, common_steps, is (object % 128), cases_eq (object / 128) index)

-- the same of the words of one number: where the sets differ in it
pub differ_at : (before after : List ℕ) (index word : ℕ) → length before ≡ length after → index < length after → ((at : ℕ) → (in_word word at ≡ false) ↔ (in_word (get_or before index 0) at ≡ in_word (get_or after index 0) at)) → (bit : ℕ) → bit < 128 → in_word word bit ≡ differ before after (index * 128 + bit)
differ_at before after index word long within tells bit low = grind (arith, tells bit, div-mul-add index 128 bit, mod-mul-add index 128 bit)

-- all of them: where those of a cell were noted, those of the next one are
pub differ_all : (before after : List ℕ) (end object : ℕ) → length before ≡ length after → length after ≤ end → toggled_note (below (end * 128) (differ before after) object) (member before object) ≡ member after object
differ_all before after end object long past = grind (arith, common_steps, member_missing before object, member_missing after object)

-- the planes still have an object that is in one of the sets
pub known_still : {start now : PlaneSets} {x y : ℕ} {noted : ℕ → Bool → Bool} (object : ℕ) (mine other : Bool) → AreChanged start now x y noted → toggled_note mine other ≡ true → (mine ≡ true → IsKnown start object) → (other ≡ true → IsKnown start object) → IsKnown now object
known_still object mine other changed is first second = grind arith

-- ---- one bit of one word toggled
pub member_toggled : (words : List ℕ) (k at word other : ℕ) → k < length words → at < 128 → ((bit : ℕ) → in_word word bit ≡ toggled_note (nat_eq bit at) (in_word (get_or words k 0) bit)) → member (set words k word) other ≡ toggled_note (nat_eq other (k * 128 + at)) (member words other)
member_toggled words k at word other within low is = grind (arith, common_steps, cases_eq (other / 128) k, cases_eq (other % 128) at, member_set_same words k word other, member_set_other words k word other, is (other % 128))
