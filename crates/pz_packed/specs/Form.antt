-- The ways to pack numbers.
use Rattle.std.specs.Prelude.{ℕ, ◌<◌, List, ⊤}
use Rattle.pz_packed.specs.declared.form.Form.{Form}
use Rattle.pz_packed.specs.declared.form.Form.TheVariants.{Pairs, Bytes, Words}

-- the numbers that are packed
abbrev pub numbers_of : Form → List ℕ
numbers_of (Pairs pairs) = pairs
numbers_of (Bytes bytes) = bytes.items
numbers_of (Words words) = words.items

-- a number can be packed like that
abbrev pub Fits : Form → ℕ → Type 0
Fits (Pairs pairs) number = number < 16
Fits (Bytes bytes) number = number < 256
Fits (Words words) number = ⊤
