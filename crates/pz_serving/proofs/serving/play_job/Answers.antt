use Rattle.pz_serving.proofs.Lines.{plays}
use Rattle.pz_serving.proofs.serving.play_job.Goals as goal

pub returns : goal.returns
returns g c = record { played = plays c.cases_close_once.ensures c.args.job.now c.args.output.now c.replay_and_write.new.output c.replay_and_write.result c.replay_and_write.ensures }
