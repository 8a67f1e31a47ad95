use Rattle.std.proofs.Common.{◌≡◌, ℕ, List, [], ◌∷◌, ◌++◌, length, refl, ap, sym, ◌∙◌, subst, arith}
use Rattle.std.specs.Prelude.{slice_get}
use Rattle.pz_game.specs.declared.direction.Dir.TheVariants.{Action}
use Rattle.pz_sheet.specs.Grid.{Grid, SameSize}
use Rattle.pz_store.specs.Book.{AreNumbers}
use Rattle.pz_store.specs.Digest.{digest_of}
use Rattle.pz_solve.specs.Origin.{IsAt}
use Rattle.pz_solve.proofs.Sizes.{same_size}
use Rattle.pz_solve.proofs.Storing.{stored_one}
use Rattle.pz_solve.proofs.search.Search.new.Goals as goal

pub invariant_of-result : goal.invariant_of-result
invariant_of-result c =
    let grid = c.bare-level.result.now.grid in
    let levels = c.number_all.new.self in
    let frame : levels.frame ≡ grid = c.number_all.ensures.frame ∙ c.in_ok-levels.ensures.frame in
    let size : SameSize levels.frame grid = subst (λ (g : Grid). SameSize g grid) (sym frame) (same_size grid) in
    let are : AreNumbers levels.cells c.deref-2.result.now grid = subst (λ (l : List ℕ). AreNumbers levels.cells l grid) (sym c.deref-2.ensures.value) c.in_ok-numbers.ensures.numbers in
    let are_digested : AreNumbers levels.cells c.deref.result.now grid = subst (λ (l : List ℕ). AreNumbers levels.cells l grid) (sym c.deref.ensures.value) c.in_ok-numbers.ensures.numbers in
    let grids : c.push-2.new.self.grids ≡ grid ∷ [] = c.in_ok-push-2.ensures.pushed grid size are ∙ ap (λ (all : List Grid). all ++ grid ∷ []) (c.number_all.ensures.grids ∙ c.in_ok-levels.ensures.grids) in
    let links : c.push-3.new.self.items ≡ (record { depth = 0; parent = 0; input = Action }) ∷ [] = grind (arith, c.in_ok-push-3.ensures.items, c.new-links.ensures.items) in
    let digests : c.push.new.self ≡ digest_of levels.objects grid ∷ [] = c.in_ok-push.ensures.ok ∙ ap (λ (all : List ℕ). all ++ c.digest-digest.result ∷ []) c.new-index.ensures ∙ ap (λ (d : ℕ). d ∷ []) (c.digest-digest.ensures grid are_digested) in
    let pushed = c.in_ok-push-2.ensures in
    let at : IsAt c.push-2.new.self c.in_ok-origin.origin = rw c.in_ok-origin.ensures (rw c.in_ok-copy.ensures.copied (record {
      there = ap (λ (all : List Grid). slice_get all 0) grids;
      size = rw pushed.frame size;
      numbers = rw pushed.cells c.in_ok-numbers.ensures.numbers;
      row = rw (pushed.frame, pushed.cells) c.in_ok-numbers.ensures.row;
      digest = c.digest-digest.ensures grid are_digested ∙ ap (λ (n : ℕ). digest_of n grid) (sym pushed.objects);
    })) in
    let long = ap (λ (l : List ℕ). length l) (c.in_ok-room.ensures.items ∙ c.deref-3.ensures.value) ∙ c.in_ok-numbers.ensures.row.long ∙ ap (λ (g : Grid). length g.cells) (sym pushed.frame) in
    stored_one c.push-2.new.self c.push-3.new.self.items c.push.new.self c.in_ok-room.room.items c.in_ok-origin.origin grid (record { depth = 0; parent = 0; input = Action }) grids links refl
    (digests ∙ ap (λ (n : ℕ). digest_of n grid ∷ []) (sym pushed.objects)) long at
