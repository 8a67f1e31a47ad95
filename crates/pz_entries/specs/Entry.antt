-- An entry of a file of sessions: [name, [source, inputs, level, index, seed]].
use Rattle.std.specs.Prelude.{ℕ, Option, Some, None, Result, Ok, Err}
use Rattle.serde_json.specs.Data.{Data, null, number, unsigned}
use Rattle.serde_json.specs.Find.{at, as_str}
use Rattle.pz_entries.specs.declared.entry.Entry.{Entry}
use Rattle.pz_entries.specs.declared.entry.Written.{Written}
use Rattle.pz_entries.specs.declared.fault.FileFault.{FileFault}
use Rattle.pz_entries.specs.declared.fault.FileFault.TheVariants.{BadEntry, BadLevel}
use Rattle.pz_entries.specs.Json.{◌>>=◌}
use Rattle.pz_entries.specs.Input.{inputs_of}
use Rattle.pz_entries.specs.Reading.{reading}

-- file.numbers: a whole number of 64 bits, or null for 0
abbrev pub whole_or_null : Data → Option ℕ
whole_or_null null = Some 0
whole_or_null (number (unsigned n)) = Some n
whole_or_null _ = None

-- file.index: an index that is absent is 0
abbrev pub index_of : Option Data → Option ℕ
index_of None = Some 0
index_of (Some d) = whole_or_null d

-- what an entry says, its level as text; further elements are not looked at
unfoldable pub written_of : Data → Option Written
written_of d = do
  name ← at 0 d >>= as_str
  body ← at 1 d
  source ← at 0 body >>= as_str
  inputs ← at 1 body >>= inputs_of
  level ← at 2 body >>= as_str
  index ← index_of (at 3 body)
  Some (record { name = name; source = source; inputs = inputs; level = level; index = index })

infixl 10 ◌>=>◌
abbrev pub ◌>=>◌ : {A B : Type 0} → Result A FileFault → (A → Result B FileFault) → Result B FileFault
(Ok x) >=> f = f x
(Err e) >=> f = Err e

abbrev pub or_fault : {A : Type 0} → FileFault → Option A → Result A FileFault
or_fault e None = Err e
or_fault e (Some x) = Ok x

-- file.entries: the entry of a number, its level read last
unfoldable pub entry_of : ℕ → Data → Result Entry FileFault
entry_of n d = or_fault (BadEntry n) (written_of d) >=> (λ w. or_fault (BadLevel n) (reading w.level) >=> (λ recorded. Ok (record { name = w.name; source = w.source; inputs = w.inputs; recorded = recorded; index = w.index })))
