-- A plan by what its source gives.
use Rattle.std.proofs.Common.{◌≡◌, ℕ, List, Result, Ok, Err, refl}
use Rattle.pz_base.specs.declared.fault.SourceFault.{SourceFault}
use Rattle.pz_game.specs.declared.game.GameParts.{GameParts}
use Rattle.pz_program.specs.declared.instance.Program.{Program}
use Rattle.pz_source.specs.Reading.{source_of}
use Rattle.pz_rules.specs.Drafts.{program_of}
use Rattle.pz_record.specs.declared.input.Input.{Input}
use Rattle.pz_record.specs.declared.order.Order.{Order}
use Rattle.pz_case.specs.FirstLevel.{level_from}
use Rattle.pz_job.specs.Rulebooks.{or_refused, rulebook_of}
use Rattle.pz_job.specs.Job.{or_no_level, plan_at, plan_of, plan_from}

module _ (inputs : List Input) (recorded : List (List (List ℕ))) (index : ℕ) (order : Order) where
  of_program : (game : GameParts) (program : Result Program SourceFault)
      → plan_from (or_refused program (λ p. Ok (record { game = game; program = p }))) inputs recorded index order
      ≡ or_refused program (λ p. or_no_level (level_from game index) (plan_at game p inputs recorded order))
  of_program game (Ok program) = refl
  of_program game (Err fault) = refl

  of_game : (game : Result GameParts SourceFault)
      → plan_from (or_refused game (λ g. or_refused (program_of g) (λ p. Ok (record { game = g; program = p })))) inputs recorded index order
      ≡ or_refused game (λ g. or_refused (program_of g) (λ p. or_no_level (level_from g index) (plan_at g p inputs recorded order)))
  of_game (Ok game) = of_program game (program_of game)
  of_game (Err fault) = refl

  -- a plan is made of what its source gives
  pub plan_from-rulebook_of : (source : List ℕ) → plan_from (rulebook_of source) inputs recorded index order ≡ plan_of source inputs recorded index order
  unfolding rulebook_of plan_of
  plan_from-rulebook_of source = of_game (source_of source)
