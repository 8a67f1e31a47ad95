use Rattle.std.proofs.Common.{sym, ◌∙◌, ap, subst}
use Rattle.std.specs.Prelude.{All, take}
use Rattle.std.specs.List.{flat_map}
use Rattle.std.proofs.lemmas.List.Elements.{All-push}
use Rattle.pz_program.specs.Segments.{IsSegmentOf, instances_in}
use Rattle.pz_program.proofs.SegmentLemmas.{segment_more}
use Rattle.pz_program.proofs.group.cut.Goals as goal

pub segments-preserved : goal.segments-preserved
segments-preserved c =
    let instances = c.args.instances.now in
    let segment = c.segment_at-segment.result in
    let is_of = c.segment_at-segment.ensures.segment in
    let before = c.segments.segments.items in
    record {
      within = is_of.within;
      each = subst (All (IsSegmentOf instances)) (sym c.in_ok-push.ensures.items) (All-push (IsSegmentOf instances) before segment c.segments.invariant.each is_of);
      whole = ap (flat_map (instances_in instances)) c.in_ok-push.ensures.items
          ∙ segment_more instances before segment is_of.order (c.segments.invariant.whole ∙ ap (λ n. take n instances) (sym c.segment_at-segment.ensures.start));
    }
