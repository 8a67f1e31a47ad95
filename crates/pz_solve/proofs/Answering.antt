-- What a search shows at its end.
use Rattle.std.proofs.Common.{◌≡◌, ℕ, ◌+◌, ◌<◌, ◌≤◌, ◌⊎◌, inl, inr, List, [], ◌∷◌, ◌++◌, length, length-append, Some, sym, subst, arith}
use Rattle.std.specs.Prelude.{slice_get, slice_index_or}
use Rattle.std.specs.List.{All}
use Rattle.std.proofs.lemmas.List.{length-map}
use Rattle.std.proofs.lemmas.List.Elements.{All-map, All-push}
use Rattle.std.proofs.lemmas.Map.Keys.{IsDistinct-push}
use Rattle.std.proofs.lemmas.Option.{slice_get-get_or}
use Rattle.pz_game.specs.declared.direction.Dir.{Dir}
use Rattle.pz_sheet.specs.Grid.{Grid}
use Rattle.pz_solve.specs.declared.answer.Bounds.{Bounds}
use Rattle.pz_solve.specs.Moves.{Stands}
use Rattle.pz_solve.specs.Winning.{Moves, IsReached, IsShortest, NoneWinsWithin}
use Rattle.pz_solve.specs.Found.{Found, IsSearch, IsWinOf}
use Rattle.pz_solve.specs.Noted.{IsKept, grids_of}
use Rattle.pz_solve.specs.Answers.{AreMore, IsOutOfBounds, most_kept}
use Rattle.pz_solve.specs.Trying.{HasNoRoom}
use Rattle.pz_solve.proofs.Keeping.{same_grid_equivalence}
use Rattle.pz_solve.proofs.Reaching.{at_depth, stands_more}
use Rattle.pz_solve.proofs.Searching.{none_within}

-- presses are shortest that are one more than those of which none wins
pub shortest : (moves : Moves) (start : Grid) (depth : ℕ) (inputs : List Dir) → IsWinOf moves start depth inputs → NoneWinsWithin moves start depth → IsShortest moves start inputs
shortest moves start depth inputs it none = record {
  win = it.win;
  least = λ others win. elim (order others) [
    | inl short ↦ let fails = none others short in absurd cc
    | inr long ↦ omega (arith, it.long, long)
  ];
} where
  order : (others : List Dir) → (length others ≤ depth) ⊎ (depth < length others)
  order others = grind arith

module _ (moves : Moves) (start : Grid) (found : List Found) (index : ℕ) (here : Found) (search : IsSearch moves start found index) (is_here : slice_get found index ≡ Some here) where
  each_reached : All (λ (f : Found). IsReached moves start (here.depth + 1) f.grid) found
  each_reached k d within =
      let f = slice_index_or found k d in
      let is = slice_get-get_or found k d within in
      let path = at_depth moves start found index search k f is in
      (path.0, omega (arith, path.1, search.near k here f is_here is), path.2)

  next_reached : (next : Grid) (input : Dir) → moves here.grid input ≡ Stands next → IsReached moves start (here.depth + 1) next
  next_reached next input leads =
      let path = at_depth moves start found index search index here is_here in
      (path.0 ++ input ∷ [], longer path.0 input path.1, stands_more moves path.0 start here.grid next input path.2 leads) where
        longer : (inputs : List Dir) (input : Dir) → length inputs ≡ here.depth → length (inputs ++ input ∷ []) ≤ here.depth + 1
        longer inputs input long = simp length-append (omega (arith, long))

  pub more_than : IsKept found → (input : Dir) (most : ℕ) → HasNoRoom found most (moves here.grid input) → AreMore moves start (here.depth + 1) (length found)
  more_than kept input most none = record {
    found = grids_of found ++ none.0 ∷ [];
    distinct = IsDistinct-push same_grid_equivalence (grids_of found) none.0 kept.distinct none.2;
    reached = All-push (IsReached moves start (here.depth + 1)) (grids_of found) none.0
        (All-map (IsReached moves start (here.depth + 1)) (λ (f : Found). f.grid) found each_reached) (next_reached none.0 input none.1);
    more = omega (arith, length-append (grids_of found) (none.0 ∷ []), length-map found (λ (f : Found). f.grid));
  }

  pub out_of_bounds : (bounds : Bounds) (most : ℕ) → most ≡ most_kept bounds start → (levels inputs : ℕ) → IsKept found → (input : Dir) → HasNoRoom found most (moves here.grid input) → levels ≡ length found → inputs ≡ here.depth →
      IsOutOfBounds moves start bounds levels inputs
  out_of_bounds bounds most is_most levels inputs kept input none count depth = record {
    none = subst (λ (n : ℕ). NoneWinsWithin moves start n) (sym depth) (none_within moves start found index here search is_here);
    allowed = subst (λ (n : ℕ). n ≤ levels) is_most (omega (arith, none.3, count));
    more = subst (λ (n : ℕ). AreMore moves start (n + 1) levels) (sym depth) (subst (λ (n : ℕ). AreMore moves start (here.depth + 1) n) (sym count) (more_than kept input most none));
  }
