use Rattle.std.proofs.Common.{◌≡◌, ◌-◌, length, take, drop, arith}
use Rattle.std.proofs.lemmas.List.{length-drop, take_all}
use Rattle.pz_lines.proofs.Cut.{take_more_of}
use Rattle.pz_lines.proofs.Sent.{written_more}
use Rattle.pz_lines.proofs.output.Output.write_whole.Goals as goal

pub loop-at-preserved : goal.loop-at-preserved
loop-at-preserved g c =
    let bytes = c.args.bytes.now in
    let at = c.loop-at.at in
    record {
      within = omega (arith, length-drop at bytes, c.in-Ok.ensures.some.1);
      written =
          let whole : take (length bytes - at) (drop at bytes) ≡ drop at bytes =
          take_all (length bytes - at) (drop at bytes) (omega (arith, length-drop at bytes)) in
          rw (take_more_of at c.in-Ok.count bytes) (written_more _ _ _ _ _ c.loop-at.invariant.written (rw whole at c.in-Ok.ensures.written));
    }
