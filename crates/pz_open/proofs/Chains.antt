-- What is told of a chain, link by link.
use Rattle.std.proofs.Common.{◌≡◌, ℕ, zero, suc, ◌+◌, ◌-◌, ◌<◌, Bool, true, false, List, [], ◌++◌, map, length, Option, Some, None, Result, Ok, Err, refl, ap, sym, ◌∙◌, arith, subst, IfOk}
use Rattle.std.proofs.lemmas.List.{append_assoc, append-nil, length-append, length-map, map-append}
use Rattle.pz_case.specs.declared.item.Item.{Item}
use Rattle.pz_case.specs.declared.item.Stop.{Stop}
use Rattle.pz_case.specs.declared.item.Stop.TheVariants.{AgainLimit}
use Rattle.pz_session.specs.declared.chain.Frame.{Frame}
use Rattle.pz_session.specs.declared.chain.Shown.{Shown}
use Rattle.pz_session.specs.declared.chain.PlayFault.{PlayFault}
use Rattle.pz_session.specs.declared.chain.PlayFault.TheVariants as fault
use Rattle.pz_session.specs.Chain.{Chain, GivesLink, Link, follow, with_frames_before, shown_frames, ticks}
use Rattle.pz_session.specs.Board.{State}
unfoldable use Rattle.pz_session.specs.Board.{tick_link}
unfoldable use Rattle.pz_session.specs.Session.{frames_as_items}
use Rattle.pz_open.specs.declared.telling.Told.{Told}
use Rattle.pz_open.specs.Opened.{frame_items}
use Rattle.pz_open.specs.Telling.{IsTold, chain_from, end_of}
use Rattle.pz_open.proofs.Opening.{numbered_append}

pub items_append : (n at : ℕ) (frames more : List Frame) → frame_items n at (frames ++ more) ≡ frame_items n at frames ++ frame_items (n + length frames) at more
items_append n at frames more =
    let put : Frame → ℕ × Frame = λ frame. (at, frame) in
    ap (λ (fs : List (ℕ × Frame)). frames_as_items n fs) (map-append put frames more)
    ∙ numbered_append n (map put frames) (map put more)
    ∙ ap (λ (count : ℕ). frame_items n at frames ++ frame_items (n + count) at more) (length-map frames put)

-- nothing told of nothing
nothing_told : (told : Told) (end : Result State Stop) (stop : Option Stop) (state : State) → end ≡ end_of stop state → IsTold told (record { shown = []; after = end }) told stop state
unfolding frames_as_items
nothing_told told end stop state is = record { items = sym (append-nil told.items.items); frames = omega arith; taken = refl; end = is }

-- a chain that is over
pub told_whole : (told : Told) (state : State) → IsTold told (record { shown = []; after = Ok state }) told None state
told_whole told state = nothing_told told (Ok state) None state refl

-- a chain that stops at once
pub told_stop : (told : Told) (stop : Stop) (state : State) → IsTold told (record { shown = []; after = Err stop }) told (Some stop) state
told_stop told stop state = nothing_told told (Err stop) (Some stop) state refl

-- frames, and then the rest of a chain
told_preceded : (before middle after : Told) (shown : List Frame) (chain : Chain State) (stop : Option Stop) (end : State)
    → middle.items.items ≡ before.items.items ++ frame_items before.frames before.taken shown
    → middle.frames ≡ before.frames + length shown → middle.taken ≡ before.taken
    → IsTold middle chain after stop end → IsTold before (with_frames_before shown chain) after stop end
told_preceded before middle after shown chain stop end items frames taken told =
    let first = frame_items before.frames before.taken shown in
    let rest : frame_items middle.frames middle.taken chain.shown ≡ frame_items (before.frames + length shown) before.taken chain.shown = λ i. frame_items (frames i) (taken i) chain.shown in
    record {
      items = told.items ∙ (λ i. items i ++ rest i) ∙ append_assoc before.items.items first (frame_items (before.frames + length shown) before.taken chain.shown)
          ∙ ap (λ (more : List Item). before.items.items ++ more) (sym (items_append before.frames before.taken shown chain.shown));
      frames = told.frames ∙ ap (λ (n : ℕ). n + length chain.shown) frames ∙ (let sum : (before.frames + length shown) + length chain.shown ≡ before.frames + (length shown + length chain.shown) = omega arith in sum) ∙ ap (λ (n : ℕ). before.frames + n) (sym (length-append shown chain.shown));
      taken = told.taken ∙ taken;
      end = told.end;
    }

follow_is : (link : Link State) (allowed : ℕ) → with_frames_before link.shown (chain_from link.goes_on allowed link.after) ≡ follow (ticks tick_link allowed) (Ok link)
follow_is link allowed = by_goes link.goes_on where
  by_goes : (goes_on : Bool) → with_frames_before link.shown (chain_from goes_on allowed link.after) ≡ follow (ticks tick_link allowed) (Ok (record { shown = link.shown; after = link.after; goes_on = goes_on }))
  by_goes true = refl
  by_goes false = λ i. record { shown = append-nil link.shown i; after = Ok link.after }

-- a link, and then what follows it
pub told_link : (before middle after : Told) (link : Link State) (allowed : ℕ) (stop : Option Stop) (end : State)
    → middle.items.items ≡ before.items.items ++ frame_items before.frames before.taken link.shown
    → middle.frames ≡ before.frames + length link.shown → middle.taken ≡ before.taken
    → IsTold middle (chain_from link.goes_on allowed link.after) after stop end → IsTold before (follow (ticks tick_link allowed) (Ok link)) after stop end
told_link before middle after link allowed stop end items frames taken told =
    subst (λ (chain : Chain State). IsTold before chain after stop end) (follow_is link allowed)
    (told_preceded before middle after link.shown (chain_from link.goes_on allowed link.after) stop end items frames taken told)

-- frames told one after another
pub two_told : (before middle after : Told) (shown more : List Frame)
    → middle.items.items ≡ before.items.items ++ frame_items before.frames before.taken shown
    → middle.frames ≡ before.frames + length shown → middle.taken ≡ before.taken
    → after.items.items ≡ middle.items.items ++ frame_items middle.frames middle.taken more
    → after.items.items ≡ before.items.items ++ frame_items before.frames before.taken (shown ++ more)
two_told before middle after shown more items frames taken told =
    let first = frame_items before.frames before.taken shown in
    told ∙ (λ i. items i ++ frame_items (frames i) (taken i) more) ∙ append_assoc before.items.items first (frame_items (before.frames + length shown) before.taken more)
    ∙ ap (λ (rest : List Item). before.items.items ++ rest) (sym (items_append before.frames before.taken shown more))

-- a chain of ticks of which none may run
pub told_limit : (told : Told) (more : Bool) (left : ℕ) (state : State) → more ≡ true → left ≡ 0 → IsTold told (chain_from more left state) told (Some AgainLimit) state
told_limit told more left state goes none =
    subst (λ (b : Bool). IsTold told (chain_from b left state) told (Some AgainLimit) state) (sym goes)
    (subst (λ (n : ℕ). IsTold told (chain_from true n state) told (Some AgainLimit) state) (sym none) (nothing_told told (Err AgainLimit) (Some AgainLimit) state refl))

-- a tick, and then what follows it
ticks_on : (more : Bool) (left : ℕ) (state : State) → more ≡ true → 0 < left → chain_from more left state ≡ follow (ticks tick_link (left - 1)) (tick_link state)
ticks_on more zero state goes some = absurd (omega (arith, some))
ticks_on more (suc left) state goes some =
    let one : left ≡ suc left - 1 = omega arith in
    ap (λ (b : Bool). chain_from b (suc left) state) goes ∙ ap (λ (n : ℕ). follow (ticks tick_link n) (tick_link state)) one

pub told_further : (before middle after : Told) (more : Bool) (left : ℕ) (state next : State) (shown : List Frame) (goes_on again : Bool) (stop : Option Stop) (end : State)
    → more ≡ true → 0 < left → tick_link state ≡ Ok (record { shown = shown; after = next; goes_on = again }) → goes_on ≡ again
    → middle.items.items ≡ before.items.items ++ frame_items before.frames before.taken shown
    → middle.frames ≡ before.frames + length shown → middle.taken ≡ before.taken
    → IsTold middle (chain_from goes_on (left - 1) next) after stop end → IsTold before (chain_from more left state) after stop end
told_further before middle after more left state next shown goes_on again stop end goes some is same items frames taken told =
    let link : Link State = record { shown = shown; after = next; goes_on = again } in
    subst (λ (chain : Chain State). IsTold before chain after stop end) (ap (follow (ticks tick_link (left - 1))) (sym is) ∙ sym (ticks_on more left state goes some))
    (told_link before middle after link (left - 1) stop end items frames taken (subst (λ (b : Bool). IsTold middle (chain_from b (left - 1) next) after stop end) same told))

pub told_stops : (told : Told) (more : Bool) (left : ℕ) (state next : State) (stop : Stop) → more ≡ true → 0 < left → tick_link state ≡ Err stop → IsTold told (chain_from more left state) told (Some stop) next
told_stops told more left state next stop goes some is =
    subst (λ (chain : Chain State). IsTold told chain told (Some stop) next) (ap (follow (ticks tick_link (left - 1))) (sym is) ∙ sym (ticks_on more left state goes some)) (told_stop told stop next)

pub told_over : (told : Told) (more : Bool) (left : ℕ) (state : State) → more ≡ false → IsTold told (chain_from more left state) told None state
told_over told more left state ends = subst (λ (b : Bool). IsTold told (chain_from b left state) told None state) (sym ends) (told_whole told state)

pub if_ok : {A E : Type 0} {P Q : A → Type 0} (r : Result A E) → ((a : A) → P a → Q a) → IfOk r P → IfOk r Q
if_ok (Ok a) f p = f a p
if_ok (Err e) f p = p

-- what an outcome says of its link
pub gives_shown : (link : Result (Link State) Stop) (state : State) (outcome : Result Shown PlayFault) (shown : Shown) → outcome ≡ Ok shown → GivesLink link state outcome
    → link ≡ Ok (record { shown = shown_frames shown; after = state; goes_on = shown.goes_on })
gives_shown link state outcome shown is gives = subst (GivesLink link state) is gives

pub gives_stop : (link : Result (Link State) Stop) (state : State) (outcome : Result Shown PlayFault) (stop : Stop) → outcome ≡ Err (fault.Stopped stop) → GivesLink link state outcome → link ≡ Err stop
gives_stop link state outcome stop is gives = subst (GivesLink link state) is gives
