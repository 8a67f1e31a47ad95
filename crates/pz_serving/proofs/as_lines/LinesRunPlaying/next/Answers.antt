use Rattle.pz_serving.proofs.Lines.{yields_if}
use Rattle.pz_serving.proofs.as_lines.LinesRunPlaying.next.Goals as goal

pub returns : goal.returns
returns c =
    yields_if c.args.self.now.number c.args.self.now.case.now.name c.as_str-name.result.now c.args.self.now.frames c.play_on.new.frames c.args.self.now.run.items c.play_on.new.run.items c.play_on.result
    c.as_str-name.ensures c.play_on.ensures.piece c.play_on.ensures.left c.play_on.ensures.frames
