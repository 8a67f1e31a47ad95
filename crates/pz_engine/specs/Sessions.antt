-- What a file of sessions holds, what its sessions show, and which of them passed.
use Rattle.std.specs.Prelude.{ℕ, Bool, true, false, List, length, nat_lt, if◌then◌else◌, Result, Err}
use Rattle.std.specs.List.{list_all, list_any}
use Rattle.std.specs.Str.{is_utf8}
use Rattle.pz_entries.specs.declared.entry.Entry.{Entry}
use Rattle.pz_entries.specs.declared.fault.FileFault.{FileFault}
use Rattle.pz_entries.specs.declared.fault.FileFault.TheVariants as fault
use Rattle.pz_entries.specs.declared.file.TheConstants.{MOST_BYTES}
use Rattle.pz_entries.specs.File.{entries_of}
use Rattle.pz_record.specs.declared.order.Order.{Order}
use Rattle.pz_case.specs.declared.item.Item.{Item}
use Rattle.pz_case.specs.declared.item.Item.TheVariants.{Close}
use Rattle.pz_case.specs.declared.item.Verdict.TheVariants.{Passed}
use Rattle.pz_case.specs.declared.recording.Record.{Record}
use Rattle.pz_job.specs.Job.{job_of}
use Rattle.pz_session.specs.Recording.{recording}

-- the entries that the bytes of a file hold, or its first fault: of its length, of UTF-8, of what it says
unfoldable pub sessions_in : List ℕ → Result (List Entry) FileFault
sessions_in bytes = if nat_lt MOST_BYTES (length bytes) then Err fault.TooMany else (if is_utf8 bytes then entries_of bytes else Err fault.NotJson)

-- what the sessions of the entries show, the cells of each level in this order
abbrev pub shown_of : Order → List Entry → List Record
shown_of order entries = recording (job_of order entries)

abbrev pub is_pass : Item → Bool
is_pass (Close Passed) = true
is_pass other = false

-- a session passed if it closed so
abbrev pub has_passed : Record → Bool
has_passed shown = list_any is_pass shown.items

abbrev pub all_passed : List Record → Bool
all_passed shown = list_all has_passed shown
