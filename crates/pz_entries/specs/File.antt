-- A file of sessions: a JSON list of entries.
use Rattle.std.specs.Prelude.{ℕ, suc, List, [], ◌∷◌, length, nat_lt, if◌then◌else◌, option_and_then, Result, Ok, Err}
use Rattle.serde_json.specs.Data.{Data}
use Rattle.serde_json.specs.Read.{read}
use Rattle.pz_entries.specs.declared.entry.Entry.{Entry}
use Rattle.pz_entries.specs.declared.fault.FileFault.{FileFault}
use Rattle.pz_entries.specs.declared.fault.FileFault.TheVariants.{NotJson, TooMany}
use Rattle.pz_record.specs.declared.limits.TheConstants.{MOST_ENTRIES}
use Rattle.pz_entries.specs.declared.file.TheConstants.{MOST_BYTES}
use Rattle.pz_entries.specs.Json.{list_of}
use Rattle.pz_entries.specs.Entry.{entry_of, or_fault, ◌>=>◌}

-- file.refusals: the entries from number n on, or the first fault
abbrev pub entries_from : ℕ → List Data → Result (List Entry) FileFault
entries_from n [] = Ok []
entries_from n (d ∷ ds) = entry_of n d >=> (λ e. entries_from (suc n) ds >=> (λ es. Ok (e ∷ es)))

abbrev pub listed_entries : List Data → Result (List Entry) FileFault
listed_entries ds = if nat_lt MOST_ENTRIES (length ds) then Err TooMany else entries_from 0 ds

-- file.list: the entries of a text, or its first fault: the length first, then the whole list, then entry by entry
unfoldable pub entries_of : List ℕ → Result (List Entry) FileFault
entries_of text = if nat_lt MOST_BYTES (length text) then Err TooMany else or_fault NotJson (option_and_then list_of (read text)) >=> listed_entries
