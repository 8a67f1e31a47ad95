-- What a session that is kept open shows with one input more.
use Rattle.std.proofs.Common.{◌≡◌, ℕ, suc, ◌+◌, List, [], ◌∷◌, ◌++◌, map, length, Result, Ok, Err, refl, ap, sym, ◌∙◌, arith, option_to_list}
use Rattle.std.proofs.lemmas.List.{append_assoc, append-nil, length-append, length-map}
use Rattle.std.proofs.lemmas.List.Elements.{filter-append}
use Rattle.pz_record.specs.declared.input.Input.{Input}
use Rattle.pz_case.specs.declared.item.Item.TheVariants as item
use Rattle.pz_case.specs.declared.item.Item.{Item}
use Rattle.pz_case.specs.declared.item.Stop.{Stop}
use Rattle.pz_case.specs.declared.item.Verdict.TheVariants.{Stopped}
use Rattle.pz_case.specs.Plan.{PlanState}
use Rattle.pz_lines.specs.Lines.{is_frame}
use Rattle.pz_session.specs.declared.chain.Frame.{Frame}
use Rattle.pz_session.specs.Chain.{Chain}
use Rattle.pz_session.specs.Session.{Played, going_on}
unfoldable use Rattle.pz_session.specs.Session.{items_from, frames_as_items, play_from}
use Rattle.pz_session.specs.Board.{State, board_links, verdict_of}
unfoldable use Rattle.pz_session.specs.Board.{with_past}
use Rattle.pz_session.specs.Case.{state_of}
unfoldable use Rattle.pz_session.specs.Case.{played_items}
use Rattle.pz_steps.specs.Steps.{chain_of, start_chain}
use Rattle.pz_open.specs.Opened.{ComesWith, HasStopped, StandsAt, frames_in, items_with}

abbrev pub Frames : Type 0
Frames = List (ℕ × Frame)

abbrev shown_at : ℕ → Chain State → Frames
shown_at taken chain = map (λ frame. (taken, frame)) chain.shown

-- frames are frames
numbered_are_frames : (n : ℕ) (frames : Frames) → frames_in (frames_as_items n frames) ≡ frames_as_items n frames
unfolding frames_as_items
numbered_are_frames n [] = refl
numbered_are_frames n (f ∷ frames) = ap (λ (items : List Item). item.Frame n f.1.kind f.0 f.1.level_text ∷ items) (numbered_are_frames (n + 1) frames)

filtered_twice : (items : List Item) → frames_in (frames_in items) ≡ frames_in items
filtered_twice [] = refl
filtered_twice (item.Frame number kind at text ∷ items) = ap (λ (later : List Item). item.Frame number kind at text ∷ later) (filtered_twice items)
filtered_twice (item.Close verdict ∷ items) = filtered_twice items

numbered_count : (n : ℕ) (frames : Frames) → length (frames_as_items n frames) ≡ length frames
unfolding frames_as_items
numbered_count n [] = refl
numbered_count n (f ∷ frames) = ap suc (numbered_count (n + 1) frames)

pub numbered_append : (n : ℕ) (frames more : Frames) → frames_as_items n (frames ++ more) ≡ frames_as_items n frames ++ frames_as_items (n + length frames) more
unfolding frames_as_items
numbered_append n [] more = ap (λ (m : ℕ). frames_as_items m more) (omega arith)
numbered_append n (f ∷ frames) more =
    let number : (n + 1) + length frames ≡ n + suc (length frames) = omega arith in
    let first = item.Frame n f.1.kind f.0 f.1.level_text in
    ap (λ (items : List Item). first ∷ items) (numbered_append (n + 1) frames more)
    ∙ ap (λ (m : ℕ). first ∷ (frames_as_items (n + 1) frames ++ frames_as_items m more)) number

-- frames and then what follows them
items_behind : (n : ℕ) (frames : Frames) (later : Played) → items_from n (record { shown = frames ++ later.shown; close = later.close }) ≡ frames_as_items n frames ++ items_from (n + length frames) later
unfolding items_from
items_behind n frames later =
    let close = map item.Close (option_to_list later.close) in
    ap (λ (items : List Item). items ++ close) (numbered_append n frames later.shown) ∙ append_assoc (frames_as_items n frames) (frames_as_items (n + length frames) later.shown) close

shown_count : (taken : ℕ) (chain : Chain State) → length (shown_at taken chain) ≡ length chain.shown
shown_count taken chain = length-map chain.shown (λ frame. (taken, frame))

-- a chain that ends, and what follows it
ends : (n taken : ℕ) (later : State → Played) (chain : Chain State) (state : State) → chain.after ≡ Ok state
    → items_from n (going_on board_links taken later chain) ≡ frames_as_items n (shown_at taken chain) ++ items_from (n + length chain.shown) (later (with_past state))
ends n taken later chain state is =
    ap (λ (end : Result State Stop). items_from n (going_on board_links taken later (record { shown = chain.shown; after = end }))) is
    ∙ items_behind n (shown_at taken chain) (later (with_past state))
    ∙ ap (λ (count : ℕ). frames_as_items n (shown_at taken chain) ++ items_from (n + count) (later (with_past state))) (shown_count taken chain)

-- a chain that stops, and the close
stops : (n taken : ℕ) (later : State → Played) (chain : Chain State) (stop : Stop) → chain.after ≡ Err stop
    → items_from n (going_on board_links taken later chain) ≡ frames_as_items n (shown_at taken chain) ++ item.Close (Stopped stop) ∷ []
unfolding items_from frames_as_items
stops n taken later chain stop is =
    ap (λ (end : Result State Stop). items_from n (going_on board_links taken later (record { shown = chain.shown; after = end }))) is
    ∙ ap (λ (shown : Frames). frames_as_items n shown ++ item.Close (Stopped stop) ∷ []) (append-nil (shown_at taken chain))

-- where no inputs are left, the close follows
closes : (n taken : ℕ) (state : State) → items_from n (play_from board_links taken [] state) ≡ item.Close (verdict_of state) ∷ []
unfolding items_from frames_as_items play_from
closes n taken state = refl

-- the items with one input more, from where a session stands
module _ (plan : PlanState) (inputs : List Input) (frames : ℕ) (state : State) (at : StandsAt plan inputs frames state) (input : Input) where
  abbrev chain : Chain State
  chain = chain_of input state

  abbrev taken : ℕ
  taken = length inputs + 1

  abbrev before : List Item
  before = frames_in (items_with plan inputs)

  abbrev new : List Item
  new = frames_as_items frames (shown_at taken chain)

  all : (later : List Input) → items_with plan ((inputs ++ input ∷ []) ++ later) ≡ before ++ items_from frames (going_on board_links taken (play_from board_links taken later) chain)
  unfolding play_from
  all later = ap (items_with plan) (append_assoc inputs (input ∷ []) later) ∙ at.goes_on (input ∷ later)

  -- of frames and a close the frames are the frames
  frames_of : (items : List Item) → items_with plan (inputs ++ input ∷ []) ≡ before ++ (new ++ items) → frames_in items ≡ [] → frames_in (items_with plan (inputs ++ input ∷ [])) ≡ before ++ new
  frames_of items is none =
      ap frames_in is ∙ filter-append is_frame before (new ++ items)
      ∙ ap (λ (xs : List Item). xs ++ frames_in (new ++ items)) (filtered_twice (items_with plan inputs))
      ∙ ap (λ (xs : List Item). before ++ xs) (filter-append is_frame new items ∙ ap (λ (xs : List Item). xs ++ frames_in items) (numbered_are_frames frames (shown_at taken chain)) ∙ ap (λ (xs : List Item). new ++ xs) none ∙ append-nil new)

  counted : (items : List Item) → items_with plan (inputs ++ input ∷ []) ≡ before ++ (new ++ items) → frames_in items ≡ [] → frames + length chain.shown ≡ length (frames_in (items_with plan (inputs ++ input ∷ [])))
  counted items is none =
      ap (λ (n : ℕ). n + length chain.shown) at.shown
      ∙ ap (λ (n : ℕ). length before + n) (sym (numbered_count frames (shown_at taken chain) ∙ shown_count taken chain))
      ∙ sym (length-append before new)
      ∙ ap length (sym (frames_of items is none))

  one_more : taken ≡ length (inputs ++ input ∷ [])
  one_more = sym (length-append inputs (input ∷ []))

  module _ (next : State) (is : chain.after ≡ Ok next) where
    all_ended : (later : List Input) → items_with plan ((inputs ++ input ∷ []) ++ later) ≡ before ++ (new ++ items_from (frames + length chain.shown) (play_from board_links taken later (with_past next)))
    all_ended later = all later ∙ ap (λ (items : List Item). before ++ items) (ends frames taken (play_from board_links taken later) chain next is)

    abbrev pub close : List Item
    close = item.Close (verdict_of (with_past next)) ∷ []

    pub comes : ComesWith plan inputs input (new ++ close)
    comes = ap (items_with plan) (sym (append-nil (inputs ++ input ∷ []))) ∙ all_ended [] ∙ ap (λ (items : List Item). before ++ (new ++ items)) (closes (frames + length chain.shown) taken (with_past next))

    whole : frames_in (items_with plan (inputs ++ input ∷ [])) ≡ before ++ new
    whole = frames_of close comes refl

    -- it stands behind one input more
    pub stands_next : StandsAt plan (inputs ++ input ∷ []) (frames + length chain.shown) (with_past next)
    stands_next = record {
      shown = counted close comes refl;
      goes_on = λ later.
          let more : ℕ → List Item = λ count. items_from (frames + length chain.shown) (play_from board_links count later (with_past next)) in
          all_ended later ∙ sym (append_assoc before new (more taken)) ∙ ap (λ (items : List Item). items ++ more taken) (sym whole)
          ∙ ap (λ (count : ℕ). frames_in (items_with plan (inputs ++ input ∷ [])) ++ more count) one_more;
    }

  module _ (stop : Stop) (is : chain.after ≡ Err stop) where
    abbrev pub stopped : List Item
    stopped = item.Close (Stopped stop) ∷ []

    all_stopped : (later : List Input) → items_with plan ((inputs ++ input ∷ []) ++ later) ≡ before ++ (new ++ stopped)
    all_stopped later = all later ∙ ap (λ (items : List Item). before ++ items) (stops frames taken (play_from board_links taken later) chain stop is)

    pub comes_stopped : ComesWith plan inputs input (new ++ stopped)
    comes_stopped = ap (items_with plan) (sym (append-nil (inputs ++ input ∷ []))) ∙ all_stopped []

    -- it has stopped behind one input more
    pub stops_next : HasStopped plan (inputs ++ input ∷ []) (frames + length chain.shown) stop
    stops_next = record {
      shown = counted stopped comes_stopped refl;
      stays = λ later. all_stopped later ∙ sym (append_assoc before new stopped) ∙ ap (λ (items : List Item). items ++ stopped) (sym (frames_of stopped comes_stopped refl));
    }

-- once stopped, an input shows nothing, and it stays so
module _ (plan : PlanState) (inputs : List Input) (frames : ℕ) (stop : Stop) (at : HasStopped plan inputs frames stop) (input : Input) where
  pub comes_nothing : ComesWith plan inputs input (item.Close (Stopped stop) ∷ [])
  comes_nothing = at.stays (input ∷ [])

  same_frames : frames_in (items_with plan (inputs ++ input ∷ [])) ≡ frames_in (items_with plan inputs)
  same_frames =
      ap frames_in comes_nothing ∙ filter-append is_frame (frames_in (items_with plan inputs)) (item.Close (Stopped stop) ∷ [])
      ∙ append-nil (frames_in (frames_in (items_with plan inputs))) ∙ filtered_twice (items_with plan inputs)

  pub stays_stopped : HasStopped plan (inputs ++ input ∷ []) frames stop
  stays_stopped = record {
    shown = at.shown ∙ ap length (sym same_frames);
    stays = λ later.
        ap (items_with plan) (append_assoc inputs (input ∷ []) later) ∙ at.stays (input ∷ later)
        ∙ ap (λ (items : List Item). items ++ item.Close (Stopped stop) ∷ []) (sym same_frames);
  }

-- at its start
module _ (plan : PlanState) where
  abbrev first : Chain State
  first = start_chain (state_of plan)

  abbrev pub begun : List Item
  begun = frames_as_items 0 (shown_at 0 first)

  from_start : (later : List Input) → items_with plan later ≡ items_from 0 (going_on board_links 0 (play_from board_links 0 later) first)
  unfolding played_items
  from_start later = refl

  begun_of : (items : List Item) → items_with plan [] ≡ begun ++ items → frames_in items ≡ [] → frames_in (items_with plan []) ≡ begun
  begun_of items is none =
      ap frames_in is ∙ filter-append is_frame begun items ∙ ap (λ (xs : List Item). xs ++ frames_in items) (numbered_are_frames 0 (shown_at 0 first))
      ∙ ap (λ (xs : List Item). begun ++ xs) none ∙ append-nil begun

  begun_count : (items : List Item) → items_with plan [] ≡ begun ++ items → frames_in items ≡ [] → length first.shown ≡ length (frames_in (items_with plan []))
  begun_count items is none = sym (ap length (begun_of items is none) ∙ numbered_count 0 (shown_at 0 first) ∙ shown_count 0 first)

  module _ (state : State) (is : first.after ≡ Ok state) where
    goes_on_from : (later : List Input) → items_with plan later ≡ begun ++ items_from (length first.shown) (play_from board_links 0 later (with_past state))
    goes_on_from later =
        let count : 0 + length first.shown ≡ length first.shown = omega arith in
        from_start later ∙ ends 0 0 (play_from board_links 0 later) first state is ∙ ap (λ (n : ℕ). begun ++ items_from n (play_from board_links 0 later (with_past state))) count

    pub starts : items_with plan [] ≡ begun ++ item.Close (verdict_of (with_past state)) ∷ []
    starts = goes_on_from [] ∙ ap (λ (items : List Item). begun ++ items) (closes (length first.shown) 0 (with_past state))

    pub stands_first : StandsAt plan [] (length first.shown) (with_past state)
    stands_first = record {
      shown = begun_count (item.Close (verdict_of (with_past state)) ∷ []) starts refl;
      goes_on = λ later. goes_on_from later ∙ ap (λ (items : List Item). items ++ items_from (length first.shown) (play_from board_links 0 later (with_past state))) (sym (begun_of (item.Close (verdict_of (with_past state)) ∷ []) starts refl));
    }

  module _ (stop : Stop) (is : first.after ≡ Err stop) where
    stops_from : (later : List Input) → items_with plan later ≡ begun ++ item.Close (Stopped stop) ∷ []
    stops_from later = from_start later ∙ stops 0 0 (play_from board_links 0 later) first stop is

    pub stops_at_start : items_with plan [] ≡ begun ++ item.Close (Stopped stop) ∷ []
    stops_at_start = stops_from []

    pub stops_first : HasStopped plan [] (length first.shown) stop
    stops_first = record {
      shown = begun_count (item.Close (Stopped stop) ∷ []) (stops_from []) refl;
      stays = λ later. stops_from later ∙ ap (λ (items : List Item). items ++ item.Close (Stopped stop) ∷ []) (sym (begun_of (item.Close (Stopped stop) ∷ []) (stops_from []) refl));
    }
