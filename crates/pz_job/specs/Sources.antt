-- What is known of the sources of a file.
use Rattle.std.specs.Prelude.{◌≡◌, ◌≢◌, ℕ, List, Ok, Err}
use Rattle.pz_base.specs.declared.fault.Code.TheVariants.{Memory}
use Rattle.pz_source.specs.Reading.{source_of}
use Rattle.pz_case.specs.declared.item.Refusal.TheVariants.{Source}
use Rattle.pz_job.specs.Rulebooks.{rulebook_of, IsProgramFor}
use Rattle.pz_job.specs.declared.sources.Known.{Known}
use Rattle.pz_job.specs.declared.sources.Known.TheVariants as known

-- what is known of a text is true: its game, its program, or the fault for which its sessions are refused
abbrev pub IsKnown : List ℕ → Known → Type 0
IsKnown text known.Nothing = Unit {0}
IsKnown text (known.Read game) = source_of text ≡ Ok game
IsKnown text (known.Expanded game program) = (source_of text ≡ Ok game) × IsProgramFor game program
IsKnown text (known.Fault fault) = fault.code ≢ Memory → rulebook_of text ≡ Err (Source fault)

-- the text of a source, and what is known of it
pub record SourceState : Type 0 where
  pub text : List ℕ
  pub known : Known
