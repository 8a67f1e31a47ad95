-- Lines that are kept packed: of each only what differs from the line before it.
use Rattle.std.specs.Prelude.{◌≡◌, ◌≤◌, ℕ, ◌+◌, ◌*◌, nat_le, if◌then◌else◌, List, [], ◌∷◌, ◌++◌, length, take, drop}
use Rattle.std.specs.List.{All, fold}
use Rattle.pz_lines.specs.declared.packed.Part.{Part}
use Rattle.pz_lines.specs.declared.packed.TheConstants.{CHUNK}

-- a line with other bytes from a place on; if so many aren't there, the line as it is
unfoldable pub with_bytes : List ℕ → ℕ → List ℕ → List ℕ
with_bytes line place own = if nat_le (place + length own) (length line) then take place line ++ own ++ drop (place + length own) line else line

-- a line with another chunk of this size at each of these places; the chunks stand one after another
abbrev pub with_chunks : ℕ → List ℕ → List ℕ → List ℕ → List ℕ
with_chunks size line [] own = line
with_chunks size line (place ∷ places) own = with_chunks size (with_bytes line place (take size own)) places (drop size own)

-- what stands behind the chunks for these places
abbrev pub tail_of : ℕ → List ℕ → List ℕ → List ℕ
tail_of size [] own = own
tail_of size (place ∷ places) own = tail_of size places (drop size own)

-- a line: the front of the last line with chunks changed, and a tail of its own
unfoldable pub line_of : List ℕ → List ℕ → List ℕ → ℕ → List ℕ
line_of last places own front = with_chunks CHUNK (take front last) places own ++ tail_of CHUNK places own

-- the line that a part makes of the last line
abbrev pub next_line : List ℕ → List ℕ → List ℕ → Part → List ℕ
next_line places kept last part = line_of last (take part.changes (drop part.place places)) (take part.own (drop part.from kept)) part.front

-- the lines that parts make, one after another
abbrev pub lines_of_parts : List ℕ → List ℕ → List ℕ → List Part → List ℕ
lines_of_parts places kept last [] = []
lines_of_parts places kept last (part ∷ parts) = next_line places kept last part ++ lines_of_parts places kept (next_line places kept last part) parts

-- up to a place a line is the last line with these changes, which stand before that place
pub record AreChanges (last line : List ℕ) (at : ℕ) (places bytes : List ℕ) : Type 0 where
  pub same : with_chunks CHUNK (take at last) places bytes ≡ take at line
  pub before : All (λ place. place + CHUNK ≤ at) places
  pub chunks : length bytes ≡ length places * CHUNK
  pub few : length bytes ≤ at

-- what a packer has: the places and the bytes that each part is made of, and the last line
pub record ArePacked (places kept : List ℕ) (parts : List Part) (last : List ℕ) : Type 0 where
  pub placed : All (λ part. part.place + part.changes ≤ length places) parts
  pub within : All (λ part. part.from + part.own ≤ length kept) parts
  pub at_hand : last ≡ fold (next_line places kept) [] parts

-- a part finds these places and these bytes among what is kept, for so many first bytes of the last line
pub record IsPartOf (places kept found bytes : List ℕ) (count : ℕ) (part : Part) : Type 0 where
  pub placed : part.place + part.changes ≤ length places
  pub within : part.from + part.own ≤ length kept
  pub changes : take part.changes (drop part.place places) ≡ found
  pub own : take part.own (drop part.from kept) ≡ bytes
  pub front : part.front ≡ count

-- more places and more bytes are kept behind those that were
pub record HaveGrown (places kept places_now kept_now : List ℕ) : Type 0 where
  pub more_places : List ℕ
  pub more_bytes : List ℕ
  pub placed : places_now ≡ places ++ more_places
  pub grown : kept_now ≡ kept ++ more_bytes
