-- The sections of a source.
use Rattle.std.specs.Prelude.{ℕ, Bool, ◌&&◌, ◌==◌, if◌then◌else◌, List, [], ◌∷◌}
use Rattle.pz_text.specs.declared.line.Section.{Section}
use Rattle.pz_text.specs.declared.line.Section.TheVariants.{Prelude, Objects, Legend, Sounds, Layers, Rules, Wins, Levels}
use Rattle.pz_text.specs.declared.line.Line.{Line}

-- the place of a section in the order of the sections, from 0
abbrev pub place_of : Section → ℕ
place_of Prelude = 0
place_of Objects = 1
place_of Legend = 2
place_of Sounds = 3
place_of Layers = 4
place_of Rules = 5
place_of Wins = 6
place_of Levels = 7

abbrev pub is_heading_of : Section → Line → Bool
is_heading_of section line = line.is_heading && place_of line.section == place_of section

-- the lines before the next heading
abbrev pub before_heading : List Line → List Line
before_heading [] = []
before_heading (line ∷ lines) = if line.is_heading then [] else line ∷ before_heading lines

-- the lines after the heading of a section
abbrev pub behind_heading : Section → List Line → List Line
behind_heading section [] = []
behind_heading section (line ∷ lines) = if is_heading_of section line then lines else behind_heading section lines

-- the lines of a section, without its heading; the prelude has those before the first heading
abbrev pub lines_in : Section → List Line → List Line
lines_in Prelude lines = before_heading lines
lines_in section lines = before_heading (behind_heading section lines)
