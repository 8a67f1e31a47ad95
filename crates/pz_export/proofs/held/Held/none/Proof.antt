-- `none` makes a struct of constants.
use Rattle.std.proofs.Common.{false}
use Rattle.std.specs.Prelude.{None}
use Rattle.pz_export.proofs.Steps.{‵, ftrue, List, [], ◌∷◌, refl, lit<, proved, raw, ◌$◌, ◌∵◌, !, qed, drop, group, suffices, fjoin, feq_i, enter, lit, no_more, and_then, returns, alloc_all, pass_all, free_all, look_at, sets, RawPtr, bool, nothing, on_entry, Stays, walk_of, says, ends_at, done, Val}
use types.Kit.{fpack}
use types.Run.{false_lit}
use types.Part.{agg}
use mir.Val.{vbool, vstruct, vcons, vnil, vnull}
use denote.RawPtr.{null_ptr}
use denote.RattleType.{Valss}
use denote.Struct.Struct.{within}
use denote.Struct.Owning.{shape}
use Rattle.pz_export.specs.contracts.held.Held.{the_type}
use Rattle.pz_export.specs.contracts.held.Held.none as f
use Rattle.pz_export.proofs.held.Held.none.Statement.{statement}
use Rattle.pz_export.proofs.held.Held.none.Code as code

abbrev stayed : Stays f.ended.signature.params f.ended.kept
stayed = tt

abbrev v : Val
v = vstruct (vcons vnull (vcons (vbool false) vnil))

pub none_spec : {M : Type 1} → statement M
none_spec 𝓤 𝓛 𝓜 𝓡 wired =
    let c = f.clauses 𝓛 𝓜.mem 𝓡.returns in let W = walk_of 𝓛 f.ended stayed c in
    proved 𝓛 f.ended stayed c 𝓜 𝓡 tt
    f.Key.name code.function (code.unfolded 𝓤 𝓛.H 𝓜 𝓡 wired)
    (λ κs. tt) (λ κs. tt) (λ κs qs bounds a n are.
    let y : W.Ghost = ((κs, qs, bounds, a, tt), n) in
    qed 𝓛 (raw (on_entry 𝓛 f.signature κs qs a y.0.4) ∷ ‵ ftrue ∷ []) ∵ drop ! $ drop ! $
    enter ! _ _ _ _ _ $ alloc_all ! (λ l. pass_all ! refl tt $
    sets ! (agg ! (and_then ! (lit ! tt) (and_then ! (false_lit !) (no_more !)))) refl (tt, (record { fits = lit< tt }, (tt, tt))) $
    returns ! (look_at ! 0 refl) $ free_all ! refl $
    suffices ! _ (ends_at 𝓛 f.ended stayed c y v (record { at = null_ptr; is_held = false; value = None }) tt tt) $ says ! refl $
    nothing ! $ nothing ! $ feq_i ! (List Val) (vbool false ∷ []) (vbool false ∷ []) refl $ fjoin ! $ feq_i ! (List Val) (vnull ∷ []) (vnull ∷ []) refl $ fjoin ! $
    feq_i ! (List Val) (v ∷ []) (v ∷ []) refl $ fjoin ! $
    fpack ! (Valss (RawPtr ∷ bool ∷ [])) (within (shape the_type) (null_ptr, (false, tt)) (v ∷ [])) (vnull ∷ [], (vbool false ∷ [], tt)) $ fjoin ! $
    nothing ! $ nothing ! $ group ! 3 $ done !))
