use Rattle.std.proofs.Common.{◌≡◌, ℕ, ◌<◌, ◌≤◌, true, false, not, List, [], ◌∷◌, ◌++◌, length, length-append, Vec, Global, Result, Ok, Err, Some, subst, sym, ap, ◌∙◌, arith, refl}
use Rattle.std.specs.Prelude.{slice_get, OnErr, OnOk, is_err, is_ok, if◌then◌else◌}
use Rattle.std.specs.Vec.{with_items}
use Rattle.std.proofs.lemmas.List.{with_items_is}
use Rattle.pz_bare.specs.Differing.{DifferWithin}
use Rattle.pz_sheet.specs.Grid.{Grid, SameSize}
use Rattle.pz_store.specs.Book.{AreNumbers}
use Rattle.pz_store.specs.Digest.{digest_of}
use Rattle.pz_solve.specs.declared.search.Link.{Link}
use Rattle.pz_solve.specs.Found.{Found}
use Rattle.pz_solve.specs.Noted.{entry_of, found_in, is_among}
use Rattle.pz_solve.proofs.Finding.{among, found_more, grid_of, length_links}
use Rattle.pz_store.proofs.Listing.{there}
use Rattle.pz_solve.proofs.Turning.{at_more, at_same}
use Rattle.pz_solve.proofs.Storing.{dropped, stored_more, stored_still}
use Rattle.pz_solve.proofs.search.Search.note.Goals as goal
use Rattle.pz_solve.proofs.search.Search.note.Goals.{After-keep}

-- what holds on `Ok` of what is no error
so : {T E : Type 0} (result : Result T E) (P : Type 0) → is_err result ≡ false → OnOk result P → P
so (Ok value) P fine holds = holds
so (Err fault) P fine holds = absurd cc

pushed_links : {T E : Type 0} (result : Result T E) (items more old : List Link) → is_err result ≡ false → items ≡ (if is_ok result then more else old) → items ≡ more
pushed_links (Ok value) items more old fine is = is
pushed_links (Err fault) items more old fine is = absurd cc

pub go_to-requires-clause-within : goal.go_to-requires-clause-within
go_to-requires-clause-within c = omega (arith, c.requires.within, c.self.invariant.linked, length_links c.self.inside.levels.grids c.self.inside.links.items c.args.self.now c.self.invariant.linked c.self.view_is)

pub number-requires-clause-size : goal.number-requires-clause-size
number-requires-clause-size c =
    let levels = c.self.inside.levels in
    let found = c.args.self.now in
    let parent = c.args.link.parent in
    let h = there found parent c.requires.within in
    let at : slice_get levels.grids parent ≡ Some c.go_to.new.origin.grid = ap (λ (n : ℕ). slice_get levels.grids n) (sym c.in_ok-go_to.ensures.place) ∙ c.go_to.ensures.at.there in
    let is = grid_of levels.grids c.self.inside.links.items found parent c.go_to.new.origin.grid h.0 c.self.invariant.linked c.self.view_is at h.1 in
    rw c.bare.ensures (subst (λ (g : Grid). SameSize g c.args.level.grid) is (c.requires.size h.0 h.1))

-- the room for numbers, once the level that leads there was gone to
abbrev room : After-keep → Vec ℕ Global
room c = with_items c.self.inside.numbers c.go_to.new.numbers

room_is : (c : After-keep) → (room c).items ≡ c.go_to.new.numbers
room_is c = with_items_is c.self.inside.numbers c.go_to.new.numbers (c.go_to.ensures.long ∙ ap (λ (l : List ℕ). length l) c.deref_mut.ensures.value ∙ sym c.self.inside.numbers.ok.0)

-- the numbers are those of the level
items : (c : After-keep) → (with_items (room c) c.number.new.numbers).items ≡ c.number.new.numbers
items c = with_items_is (room c) c.number.new.numbers (c.number.ensures.long ∙ ap (λ (l : List ℕ). length l) c.deref_mut-2.ensures.value ∙ sym (room c).ok.0)

long : (c : After-keep) → length (with_items (room c) c.number.new.numbers).items ≡ length c.self.inside.numbers.items
long c = ap (λ (l : List ℕ). length l) (items c) ∙ c.number.ensures.long ∙ ap (λ (l : List ℕ). length l) (c.deref_mut-2.ensures.value ∙ room_is c) ∙ c.go_to.ensures.long ∙ ap (λ (l : List ℕ). length l) c.deref_mut.ensures.value

are : (c : After-keep) (numbers : List ℕ) → numbers ≡ (with_items (room c) c.number.new.numbers).items → AreNumbers c.number.new.levels.cells numbers c.args.level.grid
are c numbers is = subst (λ (l : List ℕ). AreNumbers c.number.new.levels.cells l c.args.level.grid) (sym (is ∙ items c)) (subst (λ (g : Grid). AreNumbers c.number.new.levels.cells c.number.new.numbers g) c.bare.ensures c.in_ok-digest.ensures.numbers)

sized : (c : After-keep) → SameSize c.number.new.levels.frame c.args.level.grid
sized c = subst (λ (g : Grid). SameSize c.number.new.levels.frame g) c.bare.ensures c.in_ok-digest.ensures.size

is_digest : (c : After-keep) → c.in_ok-digest.digest ≡ digest_of c.number.new.levels.objects c.args.level.grid
is_digest c = c.in_ok-digest.ensures.digest ∙ ap (λ (g : Grid). digest_of c.number.new.levels.objects g) c.bare.ensures

-- whether the level is not among those that were there
told : (c : After-keep) → c.is_new-is_new.result ≡ not (is_among c.self.inside.levels.grids c.args.level.grid)
told c =
    let grid = c.args.level.grid in
    c.is_new-is_new.ensures grid (sized c) (are c c.deref.result.now c.deref.ensures.value) (is_digest c) (subst (λ (g : Grid). DifferWithin c.number.new.self.changed g c.number.new.self.grid) c.bare.ensures c.in_ok-digest.ensures.rest) ∙ ap (λ (all : List Grid). not (is_among all grid)) c.number.ensures.grids

-- it is not, if that is true
fresh : (c : After-keep) → c.is_new-is_new.result ≡ true → is_among c.self.inside.levels.grids c.args.level.grid ≡ false
fresh c is = grind (arith, sym is ∙ told c)

still : (c : After-keep) → found_in c.number.new.levels.grids c.self.inside.links.items ≡ c.args.self.now
still c = ap (λ (all : List Grid). found_in all c.self.inside.links.items) c.number.ensures.grids ∙ c.self.view_is

pub returns-then-not-is_new-clause-noted : goal.returns-then-not-is_new-clause-noted
returns-then-not-is_new-clause-noted c =
    let before = (goal.at.returns-then-not-is_new-clause-noted c).After-keep in
    let levels = c.self.inside.levels in
    let is_there : is_among levels.grids c.args.level.grid ≡ true = grind (arith, c.if-not-is_new.true, told before) in
    (among levels.grids c.self.inside.links.items c.args.self.now c.args.level.grid true c.self.invariant.linked c.self.view_is is_there, still before)

pub returns-then-len-most-clause-noted : goal.returns-then-len-most-clause-noted
returns-then-len-most-clause-noted c =
    let before = (goal.at.returns-then-len-most-clause-noted c).After-keep in
    let levels = c.self.inside.levels in
    let new = fresh before c.if-not-is_new.false in (
      among levels.grids c.self.inside.links.items c.args.self.now c.args.level.grid false c.self.invariant.linked c.self.view_is new,
      still before,
      omega (arith, c.if-len-most.true, c.len.ensures, c.self.inside.links.ok.0, length_links levels.grids c.self.inside.links.items c.args.self.now c.self.invariant.linked c.self.view_is),
    )

pub invariant_of-self-else-is_err-2 : goal.invariant_of-self-else-is_err-2
invariant_of-self-else-is_err-2 c =
    let before = (goal.at.invariant_of-self-else-is_err-2 c).After-keep in
    let levels = c.self.inside.levels in
    let links = c.self.inside.links.items in
    let grid = c.args.level.grid in
    let link = c.args.link in
    let grids : c.push.new.self.grids ≡ levels.grids ++ grid ∷ [] =
    c.in_ok-push.ensures.pushed grid (sized before) (are before c.deref-2.result.now c.deref-2.ensures.value) ∙ ap (λ (all : List Grid). all ++ grid ∷ []) c.number.ensures.grids in
    let are_links = pushed_links c.push-2.result c.push-2.new.self.items (links ++ link ∷ []) links (sym c.is_err.ensures.value ∙ c.if-is_err.false) c.push-2.ensures.items in
    let digests = so c.push-3.result _ (sym c.is_err-2.ensures.value ∙ c.if-is_err-2.false) c.push-3.ensures.ok in
    let new = fresh before c.if-not-is_new.false in
    let many = length_links levels.grids links c.args.self.now c.self.invariant.linked c.self.view_is in
    let low : link.depth ≤ length links = omega (arith, c.requires.low, many) in
    let behind : link.parent < length links = omega (arith, c.requires.within, many) in
    stored_more levels c.push.new.self links c.push-2.new.self.items c.self.inside.index c.push-3.new.self c.self.inside.numbers.items _ c.self.inside.origin c.keep.new.self grid link c.in_ok-digest.digest c.self.invariant new low behind (is_digest before ∙ ap (λ (n : ℕ). digest_of n grid) c.number.ensures.objects)
    (c.in_ok-push.ensures.frame ∙ c.number.ensures.frame) (c.in_ok-push.ensures.objects ∙ c.number.ensures.objects) grids are_links digests (long before)
    (at_more c.number.new.levels c.push.new.self c.number.new.self c.keep.new.self grid c.in_ok-push.ensures.frame c.in_ok-push.ensures.objects c.in_ok-push.ensures.cells (c.in_ok-push.ensures.pushed grid (sized before) (are before c.deref-2.result.now c.deref-2.ensures.value)) c.keep.ensures c.number.ensures.at)

pub returns-clause-noted : goal.returns-clause-noted
returns-clause-noted c =
    let before = (goal.at.returns-clause-noted c).After-keep in
    let levels = c.self.inside.levels in
    let links = c.self.inside.links.items in
    let grid = c.args.level.grid in
    let link = c.args.link in
    let grids : c.push.new.self.grids ≡ levels.grids ++ grid ∷ [] =
    c.in_ok-push.ensures.pushed grid (sized before) (are before c.deref-2.result.now c.deref-2.ensures.value) ∙ ap (λ (all : List Grid). all ++ grid ∷ []) c.number.ensures.grids in
    let are_links = pushed_links c.push-2.result c.push-2.new.self.items (links ++ link ∷ []) links (sym c.is_err.ensures.value ∙ c.if-is_err.false) c.push-2.ensures.items in
    let new = fresh before c.if-not-is_new.false in (
      among levels.grids links c.args.self.now grid false c.self.invariant.linked c.self.view_is new,
      ap (λ (all : List Grid). found_in all c.push-2.new.self.items) grids ∙ ap (λ (all : List Link). found_in (levels.grids ++ grid ∷ []) all) are_links ∙ found_more levels.grids links grid link c.self.invariant.linked
          ∙ ap (λ (all : List Found). all ++ entry_of grid link ∷ []) c.self.view_is,
      omega (arith, c.if-len-most.false, c.len.ensures, c.self.inside.links.ok.0, length_links levels.grids links c.args.self.now c.self.invariant.linked c.self.view_is),
    )

refused : {T E : Type 0} (result : Result T E) (items more old : List Link) → is_err result ≡ true → items ≡ (if is_ok result then more else old) → items ≡ old
refused (Ok value) items more old fails is = absurd cc
refused (Err fault) items more old fails is = is

not_so : {T E : Type 0} (result : Result T E) (P : Type 0) → is_err result ≡ true → OnErr result P → P
not_so (Ok value) P fails holds = absurd cc
not_so (Err fault) P fails holds = holds

pub pop-requires : goal.pop-requires
pop-requires c =
    let before = (goal.at.pop-requires c).After-keep in
    let grid = c.args.level.grid in
    let pushed = c.in_ok-push.ensures.pushed grid (sized before) (are before c.deref-2.result.now c.deref-2.ensures.value) in
    omega (arith, ap (λ (all : List Grid). length all) pushed, length-append c.number.new.levels.grids (grid ∷ []))

pub invariant_of-self-then-is_err : goal.invariant_of-self-then-is_err
invariant_of-self-then-is_err c =
    let before = (goal.at.invariant_of-self-then-is_err c).After-keep in
    let grid = c.args.level.grid in
    let levels = c.number.new.levels in
    let links = c.self.inside.links.items in
    let pushed = c.in_ok-push.ensures.pushed grid (sized before) (are before c.deref-2.result.now c.deref-2.ensures.value) in
    let grids : c.pop.new.self.grids ≡ levels.grids = c.pop.ensures.popped ∙ dropped levels.grids c.push.new.self.grids grid (length c.push.new.self.grids) pushed refl in
    let same = refused c.push-2.result c.push-2.new.self.items (links ++ c.args.link ∷ []) links (sym c.is_err.ensures.value ∙ c.if-is_err.true) c.push-2.ensures.items in
    let frame = c.pop.ensures.frame ∙ c.in_ok-push.ensures.frame in
    let objects = c.pop.ensures.objects ∙ c.in_ok-push.ensures.objects in
    rw same (stored_still c.self.inside.levels c.pop.new.self links c.self.inside.index c.self.inside.numbers.items _ c.self.inside.origin c.keep.new.self c.self.invariant (frame ∙ c.number.ensures.frame) (objects ∙ c.number.ensures.objects) (grids ∙ c.number.ensures.grids) (long before)
    (at_same levels c.pop.new.self c.number.new.self c.keep.new.self frame objects (c.pop.ensures.cells ∙ c.in_ok-push.ensures.cells) grids c.keep.ensures c.number.ensures.at))

pub returns-then-is_err-clause-err : goal.returns-then-is_err-clause-err
returns-then-is_err-clause-err c =
    let before = (goal.at.returns-then-is_err-clause-err c).After-keep in
    let grid = c.args.level.grid in
    let levels = c.number.new.levels in
    let links = c.self.inside.links.items in
    let pushed = c.in_ok-push.ensures.pushed grid (sized before) (are before c.deref-2.result.now c.deref-2.ensures.value) in
    let grids : c.pop.new.self.grids ≡ levels.grids = c.pop.ensures.popped ∙ dropped levels.grids c.push.new.self.grids grid (length c.push.new.self.grids) pushed refl in
    let same = refused c.push-2.result c.push-2.new.self.items (links ++ c.args.link ∷ []) links (sym c.is_err.ensures.value ∙ c.if-is_err.true) c.push-2.ensures.items in
    ap (λ (all : List Link). found_in c.pop.new.self.grids all) same ∙ ap (λ (all : List Grid). found_in all links) (grids ∙ c.number.ensures.grids) ∙ c.self.view_is

pub invariant_of-self-then-is_err-2 : goal.invariant_of-self-then-is_err-2
invariant_of-self-then-is_err-2 c =
    let before = (goal.at.invariant_of-self-then-is_err-2 c).After-keep in
    let grid = c.args.level.grid in
    let levels = c.number.new.levels in
    let links = c.self.inside.links.items in
    let popped = c.pop-then-is_err-2.ensures in
    let pushed = c.in_ok-push.ensures.pushed grid (sized before) (are before c.deref-2.result.now c.deref-2.ensures.value) in
    let grids : c.pop-then-is_err-2.new.self.grids ≡ levels.grids = popped.popped ∙ dropped levels.grids c.push.new.self.grids grid (length c.push.new.self.grids) pushed refl in
    let more = pushed_links c.push-2.result c.push-2.new.self.items (links ++ c.args.link ∷ []) links (sym c.is_err.ensures.value ∙ c.if-is_err.false) c.push-2.ensures.items in
    let same : c.pop-then-is_err-2-2.new.self.items ≡ links = c.pop-then-is_err-2-2.ensures.rest ∙ dropped links c.push-2.new.self.items c.args.link c.push-2.new.self.len more c.push-2.new.self.ok.0 in
    let digests = not_so c.push-3.result _ (sym c.is_err-2.ensures.value ∙ c.if-is_err-2.true) c.push-3.ensures.err in
    let frame = popped.frame ∙ c.in_ok-push.ensures.frame in
    let objects = popped.objects ∙ c.in_ok-push.ensures.objects in
    rw same (rw digests (stored_still c.self.inside.levels c.pop-then-is_err-2.new.self links c.self.inside.index c.self.inside.numbers.items _ c.self.inside.origin c.keep.new.self c.self.invariant (frame ∙ c.number.ensures.frame) (objects ∙ c.number.ensures.objects) (grids ∙ c.number.ensures.grids) (long before)
    (at_same levels c.pop-then-is_err-2.new.self c.number.new.self c.keep.new.self frame objects (popped.cells ∙ c.in_ok-push.ensures.cells) grids c.keep.ensures c.number.ensures.at)))

pub returns-then-is_err-2-clause-err : goal.returns-then-is_err-2-clause-err
returns-then-is_err-2-clause-err c =
    let before = (goal.at.returns-then-is_err-2-clause-err c).After-keep in
    let grid = c.args.level.grid in
    let levels = c.number.new.levels in
    let links = c.self.inside.links.items in
    let pushed = c.in_ok-push.ensures.pushed grid (sized before) (are before c.deref-2.result.now c.deref-2.ensures.value) in
    let grids : c.pop-then-is_err-2.new.self.grids ≡ levels.grids = c.pop-then-is_err-2.ensures.popped ∙ dropped levels.grids c.push.new.self.grids grid (length c.push.new.self.grids) pushed refl in
    let more = pushed_links c.push-2.result c.push-2.new.self.items (links ++ c.args.link ∷ []) links (sym c.is_err.ensures.value ∙ c.if-is_err.false) c.push-2.ensures.items in
    let same : c.pop-then-is_err-2-2.new.self.items ≡ links = c.pop-then-is_err-2-2.ensures.rest ∙ dropped links c.push-2.new.self.items c.args.link c.push-2.new.self.len more c.push-2.new.self.ok.0 in
    ap (λ (all : List Link). found_in c.pop-then-is_err-2.new.self.grids all) same ∙ ap (λ (all : List Grid). found_in all links) (grids ∙ c.number.ensures.grids) ∙ c.self.view_is
