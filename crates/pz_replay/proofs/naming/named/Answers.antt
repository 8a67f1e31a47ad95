use Rattle.std.proofs.Common.{◌≡◌, ◌++◌, ◌∷◌, [], ◌∙◌, sym}
use Rattle.std.proofs.Math.Seq.{append_snoc}
use Rattle.std.proofs.iter.Next.{Yields-more}
use Rattle.std.specs.Vec.Iter.{into_iter_items, into_iter_steps}
use Rattle.pz_session.specs.Case.{items_of}
use Rattle.pz_replay.proofs.Named.{all_named, case_left, fewer_left, named_more, taken_front}
use Rattle.pz_replay.proofs.naming.named.Goals as goal

pub loop-items-preserved : goal.loop-items-preserved
loop-items-preserved c =
    let front = c.loop-items.yielded in
    let more = Yields-more into_iter_steps c.into_iter-items-iterator.result front c.loop-items.items-iterator c.in-Some.items c.next.new.self c.loop-items.yielded_by c.in-Some.ensures.steps in
    let all : into_iter_items c.into_iter-items-iterator.result ≡ c.into_pieces-items-items.result.items = c.into_iter-items-iterator.ensures.into_iter_gives.0 in
    let whole = sym all ∙ taken_front c.into_iter-items-iterator.result (front ++ c.in-Some.items ∷ []) c.next.new.self more ∙ append_snoc front c.in-Some.items (into_iter_items c.next.new.self) in
    rw (c.in_ok-push.ensures.items, c.in_ok-of_str.ensures, c.as_str.ensures, c.new.ensures)
    (named_more items_of (λ v. v.items) c.args.job.now c.into_pieces-items-items.result.items front (into_iter_items c.next.new.self) c.in-Some.items c.case-case.result.now c.loop-items.records.items c.len.result (c.into_pieces-items-items.ensures ∙ c.requires) whole c.loop-items.invariant (c.len.ensures ∙ c.loop-items.records.ok.0) c.case-case.ensures)

pub loop-items-init : goal.loop-items-init
loop-items-init c = c.new-records.ensures.items

pub case-case-requires : goal.case-case-requires
case-case-requires c =
    let front = c.loop-items.yielded in
    let more = Yields-more into_iter_steps c.into_iter-items-iterator.result front c.loop-items.items-iterator c.in-Some.items c.next.new.self c.loop-items.yielded_by c.in-Some.ensures.steps in
    let all : into_iter_items c.into_iter-items-iterator.result ≡ c.into_pieces-items-items.result.items = c.into_iter-items-iterator.ensures.into_iter_gives.0 in
    let whole = sym all ∙ taken_front c.into_iter-items-iterator.result (front ++ c.in-Some.items ∷ []) c.next.new.self more ∙ append_snoc front c.in-Some.items (into_iter_items c.next.new.self) in
    (case_left items_of (λ v. v.items) c.args.job.now c.into_pieces-items-items.result.items front (into_iter_items c.next.new.self) c.in-Some.items c.loop-items.records.items c.len.result (c.into_pieces-items-items.ensures ∙ c.requires) whole c.loop-items.invariant (c.len.ensures ∙ c.loop-items.records.ok.0))

pub loop-items-smaller : goal.loop-items-smaller
loop-items-smaller c = fewer_left c.loop-items.items-iterator c.next.new.self c.in-Some.ensures.steps.1

pub returns : goal.returns
returns c =
    let s = c.loop-items.items-iterator in
    let front = c.loop-items.yielded in
    let all : into_iter_items c.into_iter-items-iterator.result ≡ c.into_pieces-items-items.result.items = c.into_iter-items-iterator.ensures.into_iter_gives.0 in
    let whole = sym all ∙ taken_front c.into_iter-items-iterator.result front s c.loop-items.yielded_by in
    c.new-2.ensures ∙ all_named items_of (λ v. v.items) c.args.job.now c.into_pieces-items-items.result.items front (into_iter_items s) c.loop-items.records.items (c.into_pieces-items-items.ensures ∙ c.requires) whole (sym s.rest.ok.0 ∙ c.in-None.ensures.steps.0) c.loop-items.invariant
