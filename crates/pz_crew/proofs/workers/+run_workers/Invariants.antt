use Rattle.pz_crew.proofs.workers.+run_workers.Given as goal

abbrev pub decreases-run_workers : goal.decreases-run_workers
decreases-run_workers g l = l.left
