-- `of` keeps a reference as its address.
use Rattle.std.proofs.Common.{true}
use Rattle.std.specs.Prelude.{Some}
use Rattle.pz_export.proofs.Steps.{‵, ftrue, List, [], ◌∷◌, refl, proved, ◌⊛◌, ◌$◌, ◌∵◌, !, qed, move, keep, split, group, suffices, fjoin, feq_i, enter, of_opd, addr, stop, no_more, and_then, returns, alloc_all, pass_all, free_all, look_at, get, through, sets, RawPtr, bool, MutRef, mut_vals, mut_Tells, plain, nothing, Stays, walk_of, says, ends_at, stay_dropped, join, done, Val, block_ptr}
use types.Kit.{fpack}
use types.Run.{true_lit}
use types.Part.{agg}
use mir.Syntax.{static}
use mir.Val.{vptr, vbool, vstruct, vcons, vnil}
use denote.Exit.{no}
use denote.Builtin.{RefMutOf}
use denote.RattleType.{Valss}
use denote.Struct.Struct.{within}
use denote.Struct.Owning.{shape}
use Rattle.std.proofs.alloc.Calls.{Goes-blank}
use Rattle.pz_open.specs.contracts.sessions.OpenSessions.{the_row as R}
use Rattle.pz_export.specs.contracts.held.Held.{the_type}
use Rattle.pz_export.specs.contracts.held.Held.of as f
use Rattle.pz_export.proofs.held.Held.of.Statement.{statement}
use Rattle.pz_export.proofs.held.Held.of.Code as code

abbrev stayed : Stays f.ended.signature.params f.ended.kept
stayed = (stay_dropped _ no, tt)

pub of_spec : {M : Type 1} → statement M
of_spec 𝓤 𝓛 𝓜 𝓡 wired =
    let c = f.clauses 𝓛 𝓜.mem 𝓡.returns in let W = walk_of 𝓛 f.ended stayed c in
    proved 𝓛 f.ended stayed c 𝓜 𝓡 (Goes-blank 𝓛 0 (RefMutOf [] tt (plain (λ κs. R)) (λ κs. tt)) no (λ κs x g. tt), tt)
    f.Key.name code.function (code.unfolded 𝓤 𝓛.H 𝓜 𝓡 wired)
    (λ κs. (mut_vals, tt)) (λ κs. (mut_Tells static [] R, tt)) (λ κs qs bounds a n are.
    let r = a.0 in let b = r.ref_ptr.0 in let o = r.ref_ptr.1 in let vs = mut_vals r in
    let v : Val = vstruct (vcons (vptr b o) (vcons (vbool true) vnil)) in
    let y : W.Ghost = ((κs, qs, bounds, a, (vs, tt)), n) in
    qed 𝓛 ((‵ ftrue ⊛ ‵ ((MutRef static [] R).own_val r vs) ⊛ ‵ ftrue) ∷ ‵ ftrue ∷ []) ∵
    split ! $ move ! (1 ∷ []) $ split ! $ keep ! (0 ∷ []) $
    enter ! _ _ _ _ _ $ alloc_all ! (λ l. pass_all ! refl ((tt, tt), tt) $
    sets ! (addr ! (through ! refl (stop !))) refl (tt, tt) $
    sets ! (of_opd ! (get ! refl)) refl (tt, tt) $
    sets ! (agg ! (and_then ! (get ! refl) (and_then ! (true_lit !) (no_more !)))) refl (tt, (tt, (tt, tt))) $
    returns ! (look_at ! 0 refl) $ free_all ! refl $
    suffices ! _ (ends_at 𝓛 f.ended stayed c y v (record { at = block_ptr b o; is_held = true; value = Some r }) (tt, tt) (tt, tt)) $ says ! refl $
    nothing ! $ feq_i ! (List Val) (vbool true ∷ []) (vbool true ∷ []) refl $ fjoin ! $ feq_i ! (List Val) (vptr b o ∷ []) (vptr b o ∷ []) refl $ fjoin ! $
    feq_i ! (List Val) (v ∷ []) (v ∷ []) refl $ fjoin ! $
    fpack ! (Valss (RawPtr ∷ bool ∷ [])) (within (shape the_type) (block_ptr b o, (true, tt)) (v ∷ [])) (vptr b o ∷ [], (vbool true ∷ [], tt)) $ fjoin ! $
    nothing ! $ nothing ! $ join ! $ nothing ! $ group ! 3 $ done !))
