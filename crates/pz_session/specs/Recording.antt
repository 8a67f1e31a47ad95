-- The recording of a job.
use Rattle.std.specs.Prelude.{List}
use Rattle.pz_case.specs.declared.case.Case.{Case}
use Rattle.pz_case.specs.declared.item.Item.{Item}
use Rattle.pz_case.specs.declared.recording.Record.{Record}
use Rattle.pz_session.specs.Case.{items_of}
use Rattle.pz_case.specs.Playing as playing

-- program.threads: the name and the items of every session of the job in its order, none left out
abbrev pub recording : List Case → List Record
recording job = playing.recording items_of job

-- the items of every session of the job, in its order
abbrev pub sessions : List Case → List (List Item)
sessions job = playing.sessions_of items_of job
