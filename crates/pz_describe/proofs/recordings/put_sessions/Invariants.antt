use Rattle.std.proofs.Common.{◌≡◌, ◌++◌, ◌∷◌, drop, flat_map}
use Rattle.json.specs.Token.{begin_array}
use Rattle.pz_describe.specs.Recordings.{session_tokens}
use Rattle.pz_describe.proofs.recordings.put_sessions.Given as goal

abbrev pub invariant-loop-entry : goal.invariant-loop-entry
invariant-loop-entry l = l.page ++ flat_map (session_tokens l.sources) (drop l.entry-index l.entries) ≡ l.fn.page ++ (begin_array ∷ flat_map (session_tokens l.sources) l.entries)
