-- The rulebooks of sources.
use Rattle.std.specs.Prelude.{◌≡◌, ℕ, List, Some, Result, Ok, Err, String}
use Rattle.std.specs.Arc.{arc_value}
use Rattle.std.specs.Global.{Global}
use Rattle.std.specs.HashMap.{HashMap, get_by_text}
use Rattle.std.specs.declared.sync.Arc.{Arc}
use Rattle.pz_base.specs.declared.fault.SourceFault.{SourceFault}
use Rattle.pz_program.specs.Instance.{IsProgramOf}
use Rattle.pz_game.specs.declared.game.GameParts.{GameParts}
use Rattle.pz_program.specs.declared.instance.Program.{Program}
use Rattle.pz_source.specs.Reading.{source_of}
use Rattle.pz_rules.specs.Drafts.{program_of}
use Rattle.pz_case.specs.declared.item.Refusal.{Refusal}
use Rattle.pz_case.specs.declared.item.Refusal.TheVariants.{Source}
use Rattle.pz_case.specs.Rulebook.{RulebookState}

abbrev pub or_refused : {X Y : Type 0} → Result X SourceFault → (X → Result Y Refusal) → Result Y Refusal
or_refused (Ok x) later = later x
or_refused (Err fault) later = Err (Source fault)

-- the game of a source with its rules; a source is refused by its fault, else by the fault of its rules
unfoldable pub rulebook_of : List ℕ → Result RulebookState Refusal
rulebook_of source =
    or_refused (source_of source) (λ game.
    or_refused (program_of game) (λ program.
    Ok (record { game = game; program = program })))

-- the program of a game, whose items are of its objects
pub record IsProgramFor (game : GameParts) (program : Program) : Type 0 where
  pub made : program_of game ≡ Ok program
  pub owned : IsProgramOf game.layers program

-- what is shared, whoever else has it
abbrev pub shared_in : Result (Arc RulebookState Global) Refusal → Result RulebookState Refusal
shared_in (Ok rulebook) = Ok (arc_value rulebook)
shared_in (Err refusal) = Err refusal

-- what is kept of each source is what it gives
abbrev pub AreKept : {S : Type 0} → HashMap (String Global) (Result (Arc RulebookState Global) Refusal) S → Type 0
AreKept answers = (source : List ℕ) (answer : Result (Arc RulebookState Global) Refusal)
    → get_by_text answers source ≡ Some answer → shared_in answer ≡ rulebook_of source
