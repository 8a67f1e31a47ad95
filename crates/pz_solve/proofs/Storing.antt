-- What is stored of levels, at first and with one more.
use Rattle.std.proofs.Common.{◌≡◌, ℕ, ◌-◌, ◌<◌, ◌≤◌, take, take_at, false, List, [], ◌∷◌, ◌++◌, length, length-append, refl, ap, sym, ◌∙◌, subst, arith}
use Rattle.std.proofs.lemmas.List.{map-append}
use Rattle.pz_sheet.specs.Grid.{Grid}
use Rattle.pz_store.specs.Digest.{digest_of}
use Rattle.pz_store.specs.Levels.{LevelsState}
use Rattle.pz_solve.specs.declared.search.Link.{Link}
use Rattle.pz_solve.specs.Found.{Found, start_of}
use Rattle.pz_solve.specs.Origin.{OriginState, IsAt}
use Rattle.pz_solve.specs.Noted.{IsKept, IsStored, digests_of, entry_of, found_in, is_among}
use Rattle.pz_solve.proofs.Finding.{among, found_more, length_found}
use Rattle.pz_solve.proofs.Keeping.{kept_more, kept_one}

-- one level is stored
pub stored_one : (levels : LevelsState) (links : List Link) (digests numbers : List ℕ) (origin : OriginState) (grid : Grid) (link : Link) → levels.grids ≡ grid ∷ [] → links ≡ link ∷ [] → entry_of grid link ≡ start_of grid →
    digests ≡ digest_of levels.objects grid ∷ [] → length numbers ≡ length levels.frame.cells → IsAt levels origin → IsStored levels links digests numbers origin
stored_one levels links digests numbers origin grid link grids are_links first are_digests long at = record {
  linked = ap (λ (all : List Link). length all) are_links ∙ ap (λ (all : List Grid). length all) (sym grids);
  kept = subst IsKept (sym (ap (λ (all : List Grid). found_in all links) grids ∙ ap (λ (all : List Link). found_in (grid ∷ []) all) are_links ∙ ap (λ (f : Found). f ∷ []) first)) (kept_one grid);
  indexed = are_digests ∙ ap (digests_of levels.objects) (sym grids);
  long = long;
  at = at;
}

-- one level more is stored
pub stored_more : (old new : LevelsState) (links news : List Link) (digests more numbers next : List ℕ) (origin after : OriginState) (grid : Grid) (link : Link) (digest : ℕ) → IsStored old links digests numbers origin → is_among old.grids grid ≡ false →
    link.depth ≤ length links → link.parent < length links → digest ≡ digest_of old.objects grid → new.frame ≡ old.frame → new.objects ≡ old.objects → new.grids ≡ old.grids ++ grid ∷ [] → news ≡ links ++ link ∷ [] →
    more ≡ digests ++ digest ∷ [] → length next ≡ length numbers → IsAt new after → IsStored new news more next after
stored_more old new links news digests more numbers next origin after grid link digest stored is_new low behind is_digest frame objects grids are_links are_digests long at = record {
  linked = ap (λ (all : List Link). length all) are_links ∙ omega (arith, length-append links (link ∷ []), length-append old.grids (grid ∷ []), stored.linked) ∙ ap (λ (all : List Grid). length all) (sym grids);
  kept = subst IsKept (sym (ap (λ (all : List Grid). found_in all news) grids ∙ ap (λ (all : List Link). found_in (old.grids ++ grid ∷ []) all) are_links ∙ found_more old.grids links grid link stored.linked))
      (kept_more (found_in old.grids links) (entry_of grid link) stored.kept (among old.grids links (found_in old.grids links) grid false stored.linked refl is_new) (omega (arith, low, many)) (omega (arith, behind, many)));
  indexed = are_digests ∙ ap (λ (all : List ℕ). all ++ digest ∷ []) stored.indexed ∙ ap (λ (d : ℕ). digests_of old.objects old.grids ++ d ∷ []) is_digest ∙ sym (map-append (digest_of old.objects) old.grids (grid ∷ []))
      ∙ ap (λ (n : ℕ). digests_of n (old.grids ++ grid ∷ [])) (sym objects) ∙ ap (digests_of new.objects) (sym grids);
  long = long ∙ stored.long ∙ ap (λ (g : Grid). length g.cells) (sym frame);
  at = at;
} where
  many : length (found_in old.grids links) ≡ length links
  many = length_found old.grids links stored.linked ∙ sym stored.linked

-- nothing is stored but what was
pub stored_still : (old new : LevelsState) (links : List Link) (digests numbers next : List ℕ) (origin after : OriginState) → IsStored old links digests numbers origin → new.frame ≡ old.frame → new.objects ≡ old.objects → new.grids ≡ old.grids →
    length next ≡ length numbers → IsAt new after → IsStored new links digests next after
stored_still old new links digests numbers next origin after stored frame objects grids long at = record {
  linked = stored.linked ∙ ap (λ (all : List Grid). length all) (sym grids);
  kept = subst IsKept (ap (λ (all : List Grid). found_in all links) (sym grids)) stored.kept;
  indexed = stored.indexed ∙ ap (λ (n : ℕ). digests_of n old.grids) (sym objects) ∙ ap (digests_of new.objects) (sym grids);
  long = long ∙ stored.long ∙ ap (λ (g : Grid). length g.cells) (sym frame);
  at = at;
}

-- without the last one
pub dropped : {X : Type 0} (xs all : List X) (x : X) (n : ℕ) → all ≡ xs ++ x ∷ [] → n ≡ length all → take (n - 1) all ≡ xs
dropped {X = X} xs all x n is many = rw is (take_at xs (x ∷ []) (n - 1) (omega (arith, many, ap (λ (l : List X). length l) is, length-append xs (x ∷ []))))
