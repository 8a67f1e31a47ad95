-- What is noted of the objects of a level when a cell changes.
use Rattle.std.proofs.Common.{◌≡◌, ◌≢◌, ℕ, ◌+◌, ◌*◌, ◌/◌, ◌%◌, ◌<◌, List, Bool, true, false, nat_eq, length, arith, sym, mod-lt, div-add-mod'}
use Rattle.std.proofs.lemmas.Bool.{cases_eq}
use Rattle.std.proofs.lemmas.Grind.{common_steps}
use Rattle.std.proofs.lemmas.Nat.{div_below, same_from_place}
use Rattle.pz_sets.specs.Sets.{member}
use Rattle.pz_planes.specs.Planes.{LineSets, PlaneSets, IsChanged, AreChanged, AreThere, HaveSameLines, AreKnown, IsFor, toggled_note}

pub changed_on : {a b c : PlaneSets} {x y : ℕ} {f g h : ℕ → Bool → Bool} → AreChanged a b x y f → AreChanged b c x y g → ((object : ℕ) (was : Bool) → g object (f object was) ≡ h object was) → AreChanged a c x y h
changed_on first second both = grind arith

-- the same change in other words
pub changed_as : {old new : PlaneSets} {x y : ℕ} {f g : ℕ → Bool → Bool} → AreChanged old new x y f → ((object : ℕ) (was : Bool) → f object was ≡ g object was) → AreChanged old new x y g
changed_as changed same = grind arith

-- what a change comes to, where it is known what was there
pub changed_from : {old new : PlaneSets} {x y : ℕ} {was now : ℕ → Bool} {f : ℕ → Bool → Bool} → AreThere old x y was → AreChanged old new x y f → ((object : ℕ) → f object (was object) ≡ now object) → AreChanged old new x y (λ object before. now object)
changed_from there changed is = grind arith

-- what is there stays there, if it isn't at the position that changes
pub still_there : (old new : PlaneSets) (x y p q : ℕ) (noted : ℕ → Bool → Bool) (test : ℕ → Bool) → AreChanged old new x y noted → p < old.columns.count → q < old.rows.count → (p ≡ x → q ≢ y) → AreThere old p q test → AreThere new p q test
still_there old new x y p q noted test changed p_in q_in apart there = grind arith

pub number_of : (at width : ℕ) → at ≡ at / width * width + at % width
number_of at width = sym (div-add-mod' at width)

-- a position by the number of its cell, counted row by row
pub column_in : (k width height : ℕ) → k < width * height → k % width < width
column_in k width height within = mod-lt k (grind arith)

pub row_in : (k width height : ℕ) → k < width * height → k / width < height
row_in k width height within = div_below k width height (grind arith) (omega (arith, within))

-- which objects are noted at the position of a cell, counted row by row
abbrev pub AreThereAt : PlaneSets → PlaneSets → ℕ → (ℕ → Bool) → Type 0
AreThereAt start planes k test = AreThere planes (k % start.columns.count) (k / start.columns.count) test

-- another cell stands elsewhere
pub still_there_at : (start old new : PlaneSets) (index k : ℕ) (noted : ℕ → Bool → Bool) (test : ℕ → Bool) → HaveSameLines start old → k < start.columns.count * start.rows.count → k ≢ index → AreChanged old new (index % old.columns.count) (index / old.columns.count) noted → AreThereAt start old k test → AreThereAt start new k test
still_there_at start old new index k noted test size inside other changed there =
    grind (arith, still_there old new (index % old.columns.count) (index / old.columns.count) (k % start.columns.count) (k / start.columns.count) noted test changed, column_in k start.columns.count start.rows.count inside, row_in k start.columns.count start.rows.count inside, number_of k start.columns.count, number_of index start.columns.count)

pub same_lines : (start old new : PlaneSets) (x y : ℕ) (noted : ℕ → Bool → Bool) → HaveSameLines start old → AreChanged old new x y noted → HaveSameLines start new
same_lines start old new x y noted size changed = omega arith

pub known_of : (layers : List ℕ) (width height : ℕ) (planes : PlaneSets) (objects : List ℕ) → IsFor (length layers) width height planes → ((object : ℕ) → member objects object ≡ true → object < length layers) → AreKnown planes objects
known_of layers width height planes objects fits of_game object e = omega (arith, of_game object e)

pub covers_all : (objects width height count : ℕ) (planes : PlaneSets) → IsFor objects width height planes → count ≡ width * height → count ≡ planes.columns.count * planes.rows.count
covers_all objects width height count planes fits covers = grind arith

-- ---- one number more, and one less
pub number_here : (count o object line at : ℕ) → line < count → nat_eq ((o * count + line) * 128 + at) ((object * count + line) * 128 + at) ≡ nat_eq o object
number_here count o object line at within = grind (arith, common_steps, cases_eq o object, same_from_place o line object line count within within)

pub number_apart : (count o q p object y x : ℕ) → q < count → y < count → p < 128 → x < 128 → (q ≡ y → p ≢ x) → nat_eq ((o * count + q) * 128 + p) ((object * count + y) * 128 + x) ≡ false
number_apart count o q p object y x q_in y_in p_in x_in apart = grind (arith, common_steps, same_from_place (o * count + q) p (object * count + y) x 128 p_in x_in, same_from_place o q object y count q_in y_in)

-- a word of an object and a line in which one position was toggled
pub toggled_word : (old new : LineSets) (object line at : ℕ) → new.objects ≡ old.objects → new.count ≡ old.count → line < old.count → at < 128 → ((number : ℕ) → member new.words number ≡ toggled_note (nat_eq number ((object * old.count + line) * 128 + at)) (member old.words number)) → IsChanged old new line at (λ other was. toggled_note (nat_eq other object) was)
toggled_word old new object line at objects count line_in at_in is = grind (arith, is, number_here old.count, number_apart old.count)
