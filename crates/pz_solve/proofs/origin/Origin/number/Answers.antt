use Rattle.std.proofs.Common.{◌≡◌, ◌++◌, ℕ, List, Result, Ok, Err, ap, sym, ◌∙◌, subst}
use Rattle.std.specs.Prelude.{OnOk}
use Rattle.pz_bare.specs.Differing.{DifferWithin}
use Rattle.pz_sheet.specs.Grid.{Grid, SameSize}
use Rattle.pz_store.specs.Levels.{changed_places}
use Rattle.pz_store.proofs.Books.{as_many}
use Rattle.pz_solve.proofs.Turning.{at_still, within_changed}
use Rattle.pz_solve.proofs.origin.Origin.number.Goals as goal

pub returns-clause-at : goal.returns-clause-at
returns-clause-at c =
    let is = c.self.view_is in
    at_still c.args.levels.now c.number.new.self c.args.self.now _ c.number.ensures.frame c.number.ensures.objects c.number.ensures.grids c.number.ensures.extends
    (ap (λ h. h.place) is) (ap (λ h. h.grid) is) (ap (λ h. h.numbers) is) (ap (λ h. h.digest) is) c.requires.at

-- what holds on `Ok` holds in other words
so : {T E : Type 0} (result : Result T E) (P Q : Type 0) → (P → Q) → OnOk result P → OnOk result Q
so (Ok value) P Q follows holds = follows holds
so (Err fault) P Q follows holds = tt

pub returns-clause-rest : goal.returns-clause-rest
returns-clause-rest c =
    let level = c.args.level.now.grid in
    let origin = c.self.inside.bare.grid in
    let changed = c.number.new.changed.items in
    let cleared = c.clear.new.self.items in
    let size : SameSize origin level = subst (λ (g : Grid). SameSize g level) (sym (c.self.invariant.same ∙ ap (λ h. h.grid) c.self.view_is)) c.requires.size in
    so c.number.result (changed ≡ cleared ++ changed_places level origin) (DifferWithin changed level c.self.inside.level.grid)
    (λ is. subst (λ (g : Grid). DifferWithin changed level g) c.self.invariant.same
    (subst (λ (l : List ℕ). DifferWithin l level origin) (sym (is ∙ ap (λ (l : List ℕ). l ++ changed_places level origin) c.clear.ensures.items)) (within_changed level origin (as_many origin level c.width.ensures.lawful c.width-2.ensures.lawful size))))
    c.number.ensures.changed
