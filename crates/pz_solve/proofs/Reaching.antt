-- Presses that lead to levels that were found.
use Rattle.std.proofs.Common.{◌≡◌, ℕ, zero, suc, ◌+◌, ◌<◌, true, List, [], ◌∷◌, ◌++◌, length, length-append, Some, refl, ap, sym, ◌∙◌, subst, arith}
use Rattle.std.specs.Prelude.{slice_get}
use Rattle.std.proofs.lemmas.Option.{same_Some}
use Rattle.pz_game.specs.declared.direction.Dir.{Dir}
use Rattle.pz_sheet.specs.Grid.{Grid}
use Rattle.pz_solve.specs.Moves.{Reached, Stands, Wins, DeadEnd}
unfoldable use Rattle.pz_solve.specs.Winning.{stands_after, wins}
use Rattle.pz_solve.specs.Winning.{Moves, stands_behind, wins_behind}
use Rattle.pz_solve.specs.Found.{Found, IsSearch, start_of}

-- one press that wins
pub one_wins : (moves : Moves) (level : Grid) (input : Dir) → moves level input ≡ Wins → wins moves (input ∷ []) level ≡ true
unfolding wins
one_wins moves level input is = ap (λ (reached : Reached). wins_behind (wins moves []) [] reached) is

-- a press before those that win
pub before_wins : (moves : Moves) (level next : Grid) (input : Dir) (inputs : List Dir) → moves level input ≡ Stands next → wins moves inputs next ≡ true → wins moves (input ∷ inputs) level ≡ true
unfolding wins
before_wins moves level next input inputs is win = ap (λ (reached : Reached). wins_behind (wins moves inputs) inputs reached) is ∙ win

-- one press more
pub stands_more : (moves : Moves) (inputs : List Dir) (start level next : Grid) (input : Dir) → stands_after moves inputs start ≡ Some level → moves level input ≡ Stands next →
    stands_after moves (inputs ++ input ∷ []) start ≡ Some next
unfolding stands_after
stands_more moves [] start level next input stands leads =
    let same : start ≡ level = same_Some start level stands in
    ap (λ (reached : Reached). stands_behind (stands_after moves []) reached) (ap (λ (grid : Grid). moves grid input) same ∙ leads)
stands_more moves (first ∷ inputs) start level next input stands leads = behind (λ middle from. stands_more moves inputs middle level next input from leads) (moves start first) stands where
  behind : ((middle : Grid) → stands_after moves inputs middle ≡ Some level → stands_after moves (inputs ++ input ∷ []) middle ≡ Some next) →
      (reached : Reached) → stands_behind (stands_after moves inputs) reached ≡ Some level → stands_behind (stands_after moves (inputs ++ input ∷ [])) reached ≡ Some next
  behind more (Stands middle) from = more middle from
  behind more Wins from = absurd cc
  behind more DeadEnd from = absurd cc

-- the presses to a level that was found, as many as its depth
abbrev pub IsAtDepth : Moves → Grid → Found → Type 0
IsAtDepth moves start here = (inputs : List Dir) × (length inputs ≡ here.depth) × (stands_after moves inputs start ≡ Some here.grid)

module _ (moves : Moves) (start : Grid) (found : List Found) (tried : ℕ) (search : IsSearch moves start found tried) where
  at_start : (here : Found) → slice_get found 0 ≡ Some here → IsAtDepth moves start here
  unfolding stands_after
  at_start here is =
      let same : start_of start ≡ here = same_Some (start_of start) here (sym search.first ∙ is) in
      subst (λ (f : Found). IsAtDepth moves start f) same ([], refl, refl)

  by_number : (most index : ℕ) (here : Found) → index < most → slice_get found index ≡ Some here → IsAtDepth moves start here
  by_number zero index here low is = absurd (omega (arith, low))
  by_number (suc most) zero here low is = at_start here is
  by_number (suc most) (suc index) here low is =
      let led = search.led (suc index) here (omega arith) is in
      let path = by_number most here.parent led.before (omega (arith, led.earlier, low)) led.is in
      (path.0 ++ here.input ∷ [], longer path.0 here.input path.1 led.deeper, stands_more moves path.0 start led.before.grid here.grid here.input path.2 led.led) where
        longer : (inputs : List Dir) (input : Dir) {depth below : ℕ} → length inputs ≡ below → depth ≡ below + 1 → length (inputs ++ input ∷ []) ≡ depth
        longer inputs input long deeper = simp length-append (omega (arith, long, deeper))

  pub at_depth : (index : ℕ) (here : Found) → slice_get found index ≡ Some here → IsAtDepth moves start here
  at_depth index here is = by_number (index + 1) index here (omega arith) is
