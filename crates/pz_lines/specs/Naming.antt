-- What the lines of a recording call the kinds of frames, the closes and their causes.
use Rattle.std.specs.Prelude.{ℕ, List, ◌++◌, Option, Some, None, codes, decimal}
use Rattle.pz_base.specs.declared.fault.Code.{Code}
use Rattle.pz_base.specs.declared.fault.Code.TheVariants as code
use Rattle.pz_case.specs.declared.item.FrameKind.{FrameKind}
use Rattle.pz_case.specs.declared.item.FrameKind.TheVariants as kind
use Rattle.pz_case.specs.declared.item.Stop.{Stop}
use Rattle.pz_case.specs.declared.item.Stop.TheVariants as stop
use Rattle.pz_case.specs.declared.item.Refusal.{Refusal}
use Rattle.pz_case.specs.declared.item.Refusal.TheVariants.{Source, NoLevel}
use Rattle.pz_case.specs.declared.item.Verdict.{Verdict}
use Rattle.pz_case.specs.declared.item.Verdict.TheVariants.{Passed, Differs, Stopped, Refused}

unfoldable pub kind_name : FrameKind → List ℕ
kind_name kind.Start = codes "start"
kind_name kind.Move = codes "move"
kind_name kind.Tick = codes "tick"
kind_name kind.Undo = codes "undo"
kind_name kind.Restart = codes "restart"
kind_name kind.Load = codes "load"
kind_name kind.Over = codes "over"

unfoldable pub code_name : Code → List ℕ
code_name code.Memory = codes "Memory"
code_name code.TooLong = codes "TooLong"
code_name code.OutsideProfile = codes "OutsideProfile"
code_name code.Section = codes "Section"
code_name code.BadObject = codes "BadObject"
code_name code.BadLegend = codes "BadLegend"
code_name code.Duplicate = codes "Duplicate"
code_name code.Unknown = codes "Unknown"
code_name code.Mixed = codes "Mixed"
code_name code.NoLayer = codes "NoLayer"
code_name code.Missing = codes "Missing"
code_name code.BadRule = codes "BadRule"
code_name code.Shape = codes "Shape"
code_name code.AmbiguousRight = codes "AmbiguousRight"
code_name code.RightClash = codes "RightClash"
code_name code.TooManyRules = codes "TooManyRules"
code_name code.BadWin = codes "BadWin"
code_name code.BadGlyph = codes "BadGlyph"
code_name code.NoLevel = codes "NoLevel"
code_name code.TooLarge = codes "TooLarge"
code_name code.LateMovement = codes "LateMovement"

unfoldable pub stop_name : Stop → List ℕ
stop_name stop.LoopLimit = codes "loop-limit"
stop_name stop.AgainLimit = codes "again-limit"
stop_name stop.MatchLimit = codes "match-limit"

-- a fault of the source by its code and its line, as OutsideProfile:26
unfoldable pub refusal_name : Refusal → List ℕ
refusal_name (Source fault) = code_name fault.code ++ codes ":" ++ decimal fault.line
refusal_name NoLevel = codes "no-level"

unfoldable pub close_name : Verdict → List ℕ
close_name Passed = codes "passed"
close_name Differs = codes "differs"
close_name (Stopped cause) = codes "stopped"
close_name (Refused cause) = codes "refused"

-- why a session was not played to its end
unfoldable pub cause_name : Verdict → Option (List ℕ)
cause_name (Stopped cause) = Some (stop_name cause)
cause_name (Refused cause) = Some (refusal_name cause)
cause_name verdict = None
