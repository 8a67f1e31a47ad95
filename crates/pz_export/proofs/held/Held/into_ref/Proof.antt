-- `into_ref` makes the reference again, if one is kept.
use Rattle.std.proofs.Common.{true, false, Bool, sym, subst, ◌++◌}
use Rattle.std.specs.Prelude.{Option, Some, None}
use Rattle.std.specs.Borrow.{MutBor}
use Rattle.pz_export.proofs.Steps.{‵, ftrue, List, [], ◌∷◌, ◌≡◌, refl, ◌∙◌, lit<, lit, id⊢, tables, raw, ◌⊛◌, ◌$◌, ◌∵◌, !, qed, drop, move, keep, split, group, suffices, use1, fsplit, fjoin, feq_i, feq_l, first, blocks, exec, at_ret, env, enter, of_opd, addr, stop, fld, no_more, and_then, branches, skips, returns, alloc_all, pass_all, free_all, look_at, get, through, sets, MutRef, plain, nothing, Stays, walk_of, says, ends_at, stay_dropped, join, done, Val, Goes-dropped, yes, block_ptr}
use types.Kit.{by, use0, fpick, Seq, Item, Goal}
use types.Logic.{Logic, sem}
use types.Match.{live}
use types.ByLocal.{get_in, sets_last}
use types.Run.{un, returns_within}
use types.Part.{agg, sub, whole}
use base.Logic.{SProp, ent, never_e}
use prog.Wp.{WpFn}
use seplogic.Ra.Ura.{Ura}
use mir.Syntax.{static}
use mir.Val.{vptr, vbool, vstruct, vcons, vnil, of_list}
use denote.RattleType.{owns}
use denote.RawPtr.{Ptr, null_ptr, ptr_val}
use denote.Signature.{types_at}
use Rattle.std.proofs.raw_atomic.Walks.{proved_at}
use Rattle.std.proofs.option.Made.{Some-of, none_of}
use Rattle.std.specs.contracts.option.Option as OP
use Rattle.pz_open.specs.Opened.{OpenState}
use Rattle.pz_export.specs.Held.{borrow_of_sessions}
use Rattle.pz_open.specs.contracts.sessions.OpenSessions.{the_row as R}
use Rattle.pz_export.specs.contracts.held.Held.{the_row as H}
use Rattle.pz_export.specs.contracts.held.Held.into_ref as f
use Rattle.pz_export.proofs.held.Held.into_ref.Statement.{statement}
use Rattle.pz_export.proofs.held.Held.into_ref.Code as code

abbrev stayed : Stays f.ended.signature.params f.ended.kept
stayed = (stay_dropped (plain (λ _. H)) yes, tt)

abbrev word : Ptr → Bool → Val
word at is_held = vstruct (vcons (ptr_val at) (vcons (vbool is_held) vnil))

module _ {M : Type 1} {𝓤 : Ura M} {𝓛 : Logic 𝓤} {K : Type 0} {Γ : List (Item 𝓤)} {G : Goal 𝓤 𝓛.H} where
  opened : K → (h : H.Denot) (vs : List Val)
      → (vs ≡ word h.at h.is_held ∷ [] → Seq K 𝓛 (‵ (borrow_of_sessions h.is_held h.at h.value) ∷ Γ) G)
      → Seq K 𝓛 (‵ (H.own_val h vs) ∷ Γ) G
  opened t h vs k =
      fsplit t $ fpick t (λ vss. fsplit t $ feq_l t (λ ev. fsplit t $ feq_l t (λ ep. fsplit t $ feq_l t (λ eb. drop t $
      k (ev ∙ (λ i. vstruct (of_list (ep i ++ (eb i ++ []))) ∷ []))))))

abbrev of_word : List Val → Val
of_word us = vstruct (of_list (us ++ (vbool true ∷ [])))

by_cases : {M : Type 1} {𝓤 : Ura M} (𝓛 : Logic 𝓤) (P : Ptr → Bool → SProp 𝓤) (value : Option (MutBor (List (Option OpenState))))
    → ((at : Ptr) (r : MutBor (List (Option OpenState))) → value ≡ Some r → ent 𝓤 (sem 𝓛 (borrow_of_sessions true at (Some r))) (P at true))
    → (value ≡ None → ent 𝓤 (sem 𝓛 ftrue) (P null_ptr false))
    → (at : Ptr) (d : Bool) (x : Option (MutBor (List (Option OpenState)))) → value ≡ x → ent 𝓤 (sem 𝓛 (borrow_of_sessions d at x)) (P at d)
by_cases 𝓛 P value some none at true (Some r) e = some at r e
by_cases {𝓤 = 𝓤} 𝓛 P value some none at true None e = never_e 𝓤 _
by_cases {𝓤 = 𝓤} 𝓛 P value some none null_ptr false (Some r) e = never_e 𝓤 _
by_cases 𝓛 P value some none null_ptr false None e = none e
by_cases {𝓤 = 𝓤} 𝓛 P value some none (block_ptr b o) false x e = never_e 𝓤 _

pub into_ref_spec : {M : Type 1} → statement M
into_ref_spec 𝓤 𝓛 𝓜 𝓡 wired =
    let c = f.clauses 𝓛 𝓜.mem 𝓡.returns in let W = walk_of 𝓛 f.ended stayed c in let 𝓣 = tables 𝓤 𝓛.H 𝓜 𝓡 𝓡.env in
    proved_at 𝓛 f.ended stayed c 𝓜 𝓡 (Goes-dropped 𝓛 0 (plain (λ _. H)) yes (λ κs x w. refl), tt)
    f.Key.name code.function (code.unfolded 𝓤 𝓛.H 𝓜 𝓡 wired) (λ z are.
    let h = z.0.3.0 in let vs = z.0.4.0 in let Run : List Val → SProp 𝓤 = λ ws. WpFn 𝓤 𝓛.H 𝓣.C 𝓣.Λ code.function ws (W.post z) in
    let kept : (at : Ptr) (r : MutBor (List (Option OpenState))) → h.value ≡ Some r → ent 𝓤 (sem 𝓛 (borrow_of_sessions true at (Some r))) (Run (word at true ∷ [])) = λ at r e.
    let b = r.ref_ptr.0 in let o = r.ref_ptr.1 in
    qed 𝓛 (‵ (borrow_of_sessions true at (Some r)) ∷ []) ∵ fsplit ! $ feq_l ! (λ ep. feq_i ! (List Val) (vptr b o ∷ []) (vptr b o ∷ []) refl $ fjoin ! $
    suffices ! (Run (of_word (vptr b o ∷ []) ∷ [])) (subst (λ (us : List Val). ent 𝓤 (Run (of_word (vptr b o ∷ []) ∷ [])) (Run (of_word us ∷ []))) (sym ep) (id⊢ 𝓤 _)) $
    enter ! _ _ _ _ _ $ alloc_all ! (λ l. pass_all ! refl ((tt, (tt, (tt, tt))), tt) $
    sets ! (of_opd ! (get_in ! (fld ! refl (stop !)) (sub ! 0 refl (whole !)))) refl (tt, tt) $
    sets ! (of_opd ! (get_in ! (fld ! refl (stop !)) (sub ! 1 refl (whole !)))) refl (tt, tt) $
    sets ! (un ! (get ! refl) tt) refl (tt, tt) $
    first ! $ branches ! (get ! refl) (λ bad. absurd bad)
    (λ _. skips ! $ exec ! 𝓣.C 𝓣.Λ (env code.Mir.locals l) code.Mir.t-5 (at_ret (env code.Mir.locals l) (W.post z)) $
    first ! $ blocks ! $ sets ! (of_opd ! (get ! refl)) refl (tt, tt) $ sets_last ! (addr ! (through ! refl (stop !))) refl (tt, tt) $
    exec ! 𝓣.C 𝓣.Λ (env code.Mir.locals l) code.Mir.t-6 (at_ret (env code.Mir.locals l) (W.post z)) $
    sets ! (of_opd ! (get ! refl)) refl (tt, tt) $ sets ! (addr ! (through ! refl (stop !))) refl (tt, tt) $
    sets ! (agg ! (and_then ! (lit ! tt) (and_then ! (get ! refl) (no_more !)))) refl (tt, (record { fits = lit< tt }, (tt, tt))) $
    returns ! (look_at ! 0 refl) $ free_all ! refl $
    suffices ! _ (ends_at 𝓛 f.ended stayed c z (live 1 (vcons (vptr b o) vnil)) (Some r) (tt, tt) (tt, tt)) $ says ! (sym e) $
    use1 𝓛 (‵ ((OP.the_row (MutRef static [] R)).own_val (Some r) (live 1 (vcons (vptr b o) vnil) ∷ []))) (Some-of 𝓛 (MutRef static [] R) r (vptr b o)) $
    nothing ! $ nothing ! $ join ! $ nothing ! $ group ! 3 $ done !))) in
    let empty : h.value ≡ None → ent 𝓤 (sem 𝓛 ftrue) (Run (word null_ptr false ∷ [])) = λ e.
    qed 𝓛 [] ∵ enter ! _ _ _ _ _ $ alloc_all ! (λ l. pass_all ! refl ((tt, (record { fits = lit< tt }, (tt, tt))), tt) $
    sets ! (of_opd ! (get_in ! (fld ! refl (stop !)) (sub ! 0 refl (whole !)))) refl (tt, record { fits = lit< tt }) $
    sets ! (of_opd ! (get_in ! (fld ! refl (stop !)) (sub ! 1 refl (whole !)))) refl (tt, tt) $
    sets ! (un ! (get ! refl) tt) refl (tt, tt) $
    first ! $ branches ! (get ! refl)
    (λ _. sets ! (agg ! (and_then ! (lit ! tt) (no_more !))) refl (tt, (record { fits = lit< tt }, tt)) $
    returns_within ! (W.post z) refl (look_at ! 0 refl) $ free_all ! refl $
    suffices ! _ (ends_at 𝓛 f.ended stayed c z (live 0 vnil) None (tt, tt) (tt, tt)) $ says ! (sym e) $
    use0 𝓛 (‵ ((OP.the_row (MutRef static [] R)).own_val None (live 0 vnil ∷ []))) (none_of 𝓛 (MutRef static [] R)) $
    nothing ! $ nothing ! $ join ! $ nothing ! $ group ! 3 $ done !)
    (λ bad. absurd bad)) in
    qed 𝓛 ((‵ ftrue ⊛ ‵ (owns (types_at f.signature.params z.0.0) z.0.3 z.0.4)) ∷ raw ((c z.0.0 z.0.3).requires z.1) ∷ []) ∵
    split ! $ move ! (1 ∷ []) $ fsplit ! $ keep ! (0 ∷ []) $ opened ! h vs (λ is.
    suffices ! (Run (word h.at h.is_held ∷ [])) (subst (λ (us : List Val). ent 𝓤 (Run (word h.at h.is_held ∷ [])) (Run us)) (sym (λ i. is i ++ [])) (id⊢ 𝓤 _)) $
    by ! (by_cases 𝓛 (λ at d. Run (word at d ∷ [])) h.value kept empty h.at h.is_held h.value refl)))
