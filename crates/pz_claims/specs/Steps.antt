-- What each step on a claim table makes of the views.
use Rattle.std.specs.Prelude.{◌≡◌, ℕ, suc, ◌<◌, ltb, [], ◌∷◌, ◌++◌, All, MatchBool}
use Rattle.atomic_table.specs.Table.{Me, Step}
use Rattle.pz_claims.specs.Rule.{NoneTwice}
use Rattle.pz_claims.specs.View.{total_of, numbers_of, made_of, joined_of}
use Rattle.pz_claims.specs.declared.view.View.{View}
use Rattle.pz_claims.specs.declared.view.View.TheVariants.{Making, Claiming, Ended}

-- a holder: its view, and no slots
abbrev pub Holder : Type 0
Holder = Me (Unit {0}) View

-- A seat found this word. Below the total the word is its new last number, greater than all that it had; else the seat has ended, and knows the word
abbrev pub Finds : View → ℕ → View → Type 0
Finds (Claiming total numbers) word new = MatchBool (ltb word total) ((new ≡ Claiming total (numbers ++ word ∷ [])) × All (λ x. x < word) numbers) (new ≡ Ended total numbers word)
Finds view word new = Unit {0}

-- what adding one to the word tells the holder: what it found, and no slot is taken
abbrev pub ClaimTells : Step (Unit {0}) → Holder → ℕ → Holder → Type 0
ClaimTells step old word new = (new.1 ≡ old.1) × Finds old.0 word new.0

-- what adding nothing to the word tells the holder: it stays as it was, and none of its numbers stands twice
abbrev pub LookTells : Step (Unit {0}) → Holder → ℕ → Holder → Type 0
LookTells step old word new = (new ≡ old) × NoneTwice (numbers_of old.0)

-- the maker with one seat more
abbrev pub one_more : View → View
one_more maker = Making (total_of maker) (numbers_of maker) (suc (made_of maker)) (joined_of maker)

-- that seat, which has no number yet
abbrev pub new_seat : View → View
new_seat maker = Claiming (total_of maker) []

-- the maker with the numbers of an ended seat after its own
abbrev pub with_ended : View → View → View
with_ended maker ended = Making (total_of maker) (numbers_of maker ++ numbers_of ended) (made_of maker) (suc (joined_of maker))
