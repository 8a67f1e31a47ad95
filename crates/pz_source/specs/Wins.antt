-- WINCONDITIONS: its lines.
use Rattle.std.specs.Prelude.{ℕ, not, ◌||◌, if◌then◌else◌, List, [], ◌∷◌, map, filter, Option, Some, None, option_map, Result, Ok, Err, codes}
use Rattle.std.specs.Str.{bytes_eq}
use Rattle.pz_base.specs.NameSet.{number_in}
use Rattle.pz_text.specs.Words.{names_of}
use Rattle.pz_text.specs.declared.line.Line.{Line}
use Rattle.pz_base.specs.declared.fault.Code.{Code}
use Rattle.pz_base.specs.declared.fault.Code.TheVariants as code
use Rattle.pz_base.specs.declared.fault.SourceFault.{SourceFault}
use Rattle.pz_names.specs.Objects.{is_blank}
use Rattle.pz_base.specs.Each.{each_ok}
use Rattle.pz_game.specs.declared.win_line.Quantifier.{Quantifier}
use Rattle.pz_game.specs.declared.win_line.Quantifier.TheVariants as quantifier
use Rattle.pz_game.specs.declared.win_line.WinLine.{WinLine}

-- the first word of a win line; `any` is `some`
abbrev pub quantifier_of : List ℕ → Option Quantifier
quantifier_of word =
    if bytes_eq word (codes "all") then Some quantifier.All
    else (if bytes_eq word (codes "some") || bytes_eq word (codes "any") then Some quantifier.Some
    else (if bytes_eq word (codes "no") then Some quantifier.No
    else None))

-- The win line about a name and, after `on`, another; both by their numbers. `BadWin` goes before `Unknown`.
abbrev pub win_about : Option Quantifier → Option ℕ → Option (Option ℕ) → Result WinLine Code
win_about None subject on = Err code.BadWin
win_about (Some quantifier) None on = Err code.Unknown
win_about (Some quantifier) (Some subject) None = Err code.Unknown
win_about (Some quantifier) (Some subject) (Some on) = Ok (record { quantifier = quantifier; subject = subject; on = on })

-- wins.lines: A win line has a quantifier and a name, and may go on with `on` and another name. `on` is a joint by its place
-- alone.
abbrev pub win_of : List (List ℕ) → List (List ℕ) → Result WinLine Code
win_of names (word ∷ subject ∷ []) = win_about (quantifier_of word) (number_in names subject) (Some None)
win_of names (word ∷ subject ∷ joint ∷ on ∷ []) =
    if bytes_eq joint (codes "on") then win_about (quantifier_of word) (number_in names subject) (option_map Some (number_in names on))
    else Err code.BadWin
win_of names words = Err code.BadWin

-- a result at a line: a code becomes the fault at this line
abbrev pub at_line : {A : Type 0} → ℕ → Result A Code → Result A SourceFault
at_line number (Ok x) = Ok x
at_line number (Err code) = Err (record { code = code; line = number })

-- checks.wins: the win line of a line, or its fault
abbrev pub win_at : List (List ℕ) → Line → Result WinLine SourceFault
win_at names line = at_line line.number (win_of names (names_of line.text))

-- the win lines of WINCONDITIONS with these names, or their first fault; blank lines are skipped
abbrev pub wins_of : List (List ℕ) → List Line → Result (List WinLine) SourceFault
wins_of names lines = each_ok (map (win_at names) (filter (λ line. not (is_blank line)) lines))
