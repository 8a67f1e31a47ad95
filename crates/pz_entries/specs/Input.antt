-- The inputs of an entry.
use Rattle.std.specs.Prelude.{ℕ, List, [], ◌∷◌, length, map, nat_lt, slice_get, if◌then◌else◌, Option, Some, None, codes}
use Rattle.std.specs.Str.{bytes_eq}
use Rattle.serde_json.specs.Data.{Data, number, string, unsigned}
use Rattle.pz_game.specs.declared.direction.Dir.TheVariants.{Up, Down, Left, Right, Action}
use Rattle.pz_record.specs.declared.input.TheConstants.{MOST_INPUTS}
use Rattle.pz_record.specs.declared.input.Input.{Input}
use Rattle.pz_record.specs.declared.input.Input.TheVariants.{Press, Undo, Restart, Tick}
use Rattle.pz_base.specs.Each.{all_some}
use Rattle.pz_entries.specs.Json.{list_of, ◌>>=◌}

-- 0 up, 1 left, 2 down, 3 right, 4 action
abbrev pub press : ℕ → Option Input
press n = slice_get (Press Up ∷ Press Left ∷ Press Down ∷ Press Right ∷ Press Action ∷ []) n

abbrev pub word : List ℕ → Option Input
word t = if bytes_eq t (codes "undo") then Some Undo else (if bytes_eq t (codes "restart") then Some Restart else (if bytes_eq t (codes "tick") then Some Tick else None))

-- file.inputs: a number with a sign, a fraction or an exponent, or past 64 bits, is no unsigned one
abbrev pub input_of : Data → Option Input
input_of (number (unsigned n)) = press n
input_of (string t) = word t
input_of _ = None

abbrev pub at_most : {A : Type 0} → ℕ → List A → Option (List A)
at_most n xs = if nat_lt n (length xs) then None else Some xs

-- a list of no more inputs than a session may have
unfoldable pub inputs_of : Data → Option (List Input)
inputs_of d = list_of d >>= at_most MOST_INPUTS >>= (λ ds. all_some (map input_of ds))
