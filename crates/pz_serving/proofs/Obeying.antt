-- What a run over the chosen sessions leaves is what a run over the words leaves.
use Rattle.std.proofs.Common.{◌≡◌, inl, inr, ℕ, Bool, false, List, Option, Some, None, IfSome, IsSome, IsNone, Result, Ok, Err, IfOk, refl, sym, ◌∙◌, subst}
use Rattle.std.proofs.lemmas.Bool.{cases_Bool}
use Rattle.clap.specs.Words.{Text}
use Rattle.std.specs.declared.io.Error.{Error}
use Rattle.std.specs.declared.io.ErrorKind.{ErrorKind}
use Rattle.std.specs.IoError.{error_kind}
use Rattle.pz_lines.specs.Writing.{Writes}
use Rattle.pz_serving.specs.CommandLine.{IsFresh, IsReader, NamesFile, Obeys, ServesChosen}
use Rattle.pz_console.specs.Options.{options_of}
use Rattle.pz_console.specs.Reading.{Reads}
use Rattle.pz_serving.specs.Serving.{ReadsFor, Serves, ServesOpened, Reports, failure_at, is_want_of_memory, status_of}
use Rattle.pz_console.specs.declared.options.Chosen.{Chosen}
use Rattle.pz_console.specs.declared.failure.Failure.{Failure}
use Rattle.pz_console.specs.declared.failure.Failure.TheVariants.{Memory, BadLine, OpenFault, ReadFault, File, LaneLost, WriteFault}

-- how a run over words may end
abbrev pub Ends : {F : Type 0} → (F → Option (List ℕ)) → List Text → Reads → Reads → ℕ → Writes → Writes → Writes → Writes → Type 0
Ends remaining words input input_after status old new before after =
    (end : Result Bool Failure) × (status ≡ status_of end) × Obeys remaining words input input_after old new end × Reports before after end

-- a run that ends for want of memory had no failed read
no_failure : (reads : Reads) → ReadsFor (Err Memory) reads → reads.has_failed ≡ false
no_failure reads read = elim (cases_Bool reads.has_failed) [
  | inl e ↦ let same = read.failed.1 e in cc
  | inr e ↦ e
]

obeyed : {F : Type 0} (remaining : F → Option (List ℕ)) (words : List Text) (chosen : Chosen) (input input_after reads reads_after : Reads) (old new : Writes) (end : Result Bool Failure) → options_of words ≡ Some chosen
    → IsReader remaining chosen input input_after reads reads_after → (ReadsFor (Err Memory) reads_after → input_after.has_failed ≡ false) → ReadsFor end reads_after → Serves chosen.options.order reads.remaining old new end → Obeys remaining words input input_after old new end
obeyed remaining words chosen input input_after reads reads_after old new end said reader sound read served = by_end end read served
  where
    all : (e : Result Bool Failure) → ReadsFor e reads_after → Serves chosen.options.order reads.remaining old new e → ServesChosen remaining words input input_after old new e
    all e r s = record { chosen = chosen; said = said; before = reads; after = reads_after; reader = reader; reads = r; served = s }

    by_end : (e : Result Bool Failure) → ReadsFor e reads_after → Serves chosen.options.order reads.remaining old new e → Obeys remaining words input input_after old new e
    by_end (Ok passed) r s = all (Ok passed) r s
    by_end (Err Memory) r s = (s, sound r)
    by_end (Err BadLine) r s = absurd s
    by_end (Err OpenFault) r s = absurd s
    by_end (Err ReadFault) r s = all (Err ReadFault) r s
    by_end (Err (File cause)) r s = all (Err (File cause)) r s
    by_end (Err LaneLost) r s = all (Err LaneLost) r s
    by_end (Err (WriteFault cut)) r s = all (Err (WriteFault cut)) r s

-- the sessions of the input
pub ends_served : {F : Type 0} (remaining : F → Option (List ℕ)) (words : List Text) (chosen : Chosen) (input input_after : Reads) (status : ℕ) (old new before after : Writes) → options_of words ≡ Some chosen
    → IsNone chosen.file
    → ((end : Result Bool Failure) × (status ≡ status_of end) × ReadsFor end input_after × Serves chosen.options.order input.remaining old new end × Reports before after end)
    → Ends remaining words input input_after status old new before after
ends_served remaining words chosen input input_after status old new before after said none run =
    (run.0, run.1, obeyed remaining words chosen input input_after input input_after old new run.0 said (inl (none, refl, refl)) (no_failure input_after) run.2 run.3, run.4)

unopened : {F : Type 0} (remaining : F → Option (List ℕ)) (words : List Text) (chosen : Chosen) (input : Reads) (old new : Writes) (kind : ErrorKind) (end : Result Bool Failure) → options_of words ≡ Some chosen → IsSome chosen.file
    → input.has_failed ≡ false → new ≡ old → end ≡ Err (failure_at kind) → Obeys remaining words input input old new end
unopened remaining words chosen input old new kind end said named sound same why =
    subst (λ (e : Result Bool Failure). Obeys remaining words input input old new e) (sym why) (elim (cases_Bool (is_want_of_memory kind)) [
      | inl e ↦ rw e (same, sound)
      | inr e ↦ rw e (same, record { chosen = chosen; said = said; named = named })
    ])

-- those of FILE, or why it was not opened
pub ends_opened : {F : Type 0} (remaining : F → Option (List ℕ)) (words : List Text) (chosen : Chosen) (input : Reads) (opened opened_after : Result Reads Error) (status : ℕ) (old new before after : Writes) → options_of words ≡ Some chosen
    → IsSome chosen.file → input.has_failed ≡ false → IfOk opened (IsFresh remaining)
    → ((end : Result Bool Failure) × (status ≡ status_of end) × ServesOpened chosen.options.order opened opened_after old new end × Reports before after end)
    → Ends remaining words input input status old new before after
ends_opened remaining words chosen input (Ok reads) (Ok reads_after) status old new before after said named sound fresh run =
    (run.0, run.1, obeyed remaining words chosen input input reads reads_after old new run.0 said (inr (named, fresh)) (λ _. sound) run.2.0 run.2.1, run.3)
ends_opened remaining words chosen input (Ok reads) (Err error) status old new before after said named sound fresh run = absurd run.2
ends_opened remaining words chosen input (Err error) (Ok reads) status old new before after said named sound fresh run = absurd run.2
ends_opened remaining words chosen input (Err error) (Err same) status old new before after said named sound fresh run =
    (run.0, run.1, unopened remaining words chosen input old new (error_kind error) run.0 said named sound run.2.0 run.2.1, run.3)

-- words that name no FILE name none
pub names_none : {A : Type 0} (words : List Text) (chosen : Chosen) → options_of words ≡ Some chosen → IsNone chosen.file → NamesFile words → A
names_none words chosen said none names = absurd (both names.chosen.file same names.named)
  where
    same : IsNone names.chosen.file
    same = subst (λ (c : Option Chosen). IfSome c (λ chosen. IsNone chosen.file)) (sym said ∙ names.said) none

    both : (f : Option (List ℕ)) → IsNone f → IsSome f → ⊥
    both None a b = cc
    both (Some f) a b = cc
