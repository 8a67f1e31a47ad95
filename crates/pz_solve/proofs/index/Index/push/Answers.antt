use Rattle.std.proofs.Common.{◌≡◌, ℕ, false, List, [], ◌∷◌, ◌++◌, length, Option, Some, Result, Ok, Err, sym, ◌∙◌, subst, nat_eq, arith}
use Rattle.std.specs.Prelude.{OnOk, is_err, is_ok, if◌then◌else◌}
use Rattle.std.specs.HashMap.{get}
use Rattle.pz_solve.specs.Indexed.{IsIndexed}
use Rattle.pz_solve.proofs.Indexing.{one_more_indexed}
use Rattle.pz_solve.proofs.index.Index.push.Goals as goal

-- what holds on `Ok` of what is no error
so : {T E : Type 0} (result : Result T E) (P : Type 0) → is_err result ≡ false → OnOk result P → P
so (Ok value) P fine holds = holds
so (Err fault) P fine holds = absurd cc

pushed : {T E : Type 0} (result : Result T E) (items more old : List (Option ℕ)) → is_err result ≡ false → items ≡ (if is_ok result then more else old) → items ≡ more
pushed (Ok value) items more old fine is = is
pushed (Err fault) items more old fine is = absurd cc

pub invariant_of-self-else-is_err-2 : goal.invariant_of-self-else-is_err-2
invariant_of-self-else-is_err-2 c =
    let digests = c.self.inside.digests.items in
    let olders = c.self.inside.olders.items in
    let older = c.copied-older.result in
    let first = c.in_ok-push.ensures.items in
    let second = pushed c.push-2.result c.push-2.new.self.items (olders ++ older ∷ []) olders (sym c.is_err.ensures.value ∙ c.if-is_err.false) c.push-2.ensures.items in
    let updates = so c.insert.result _ (sym c.is_err-2.ensures.value ∙ c.if-is_err-2.false) c.insert.ensures.updates in
    let was : older ≡ get nat_eq c.self.inside.newest c.args.digest = grind (arith, c.copied-older.ensures, c.get.ensures.value) in
    let own : get nat_eq c.insert.new.self c.args.digest ≡ Some (length digests) = grind (arith, updates.0 c.args.digest, c.len-place.ensures) in
    let others : (digest : ℕ) → (digest ≡ c.args.digest → ⊥) → get nat_eq c.insert.new.self digest ≡ get nat_eq c.self.inside.newest digest = λ digest other. grind (arith, updates.0 digest, other) in
    subst (λ (all : List ℕ). IsIndexed all c.push-2.new.self.items (get nat_eq c.insert.new.self)) (sym first)
    (subst (λ (all : List (Option ℕ)). IsIndexed (digests ++ c.args.digest ∷ []) all (get nat_eq c.insert.new.self)) (sym second)
    (one_more_indexed digests olders (get nat_eq c.self.inside.newest) (get nat_eq c.insert.new.self) c.args.digest older c.self.invariant was own others))
