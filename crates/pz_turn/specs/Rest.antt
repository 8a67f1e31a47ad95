-- A group is run to rest: passes over its instances repeat up to the first that changes nothing. A loop is run to rest
-- likewise, and each of its passes runs each of its groups to rest. If the last allowed pass still changes something, the stop
-- is `loop-limit`.
use Rattle.std.specs.Prelude.{ℕ, zero, suc, Bool, true, false, not, Option, Some, None, Result, Ok, Err, List, fold}
use Rattle.std.specs.List.{find, range_with_len}
use Rattle.pz_turn.specs.declared.outcome.StepFault.{StepFault}
use Rattle.pz_turn.specs.declared.outcome.StepFault.TheVariants.{LoopLimit}
use Rattle.pz_turn.specs.Outcome.{Outcome, nothing_run, followed_by}

-- what a run gives, for each level that it starts from
abbrev pub Runs : Type 0 → Type 0
Runs L = L → Result (Outcome L) StepFault

-- a pass: the instances of a group in order
abbrev pub pass_of : {L I : Type 0} → (I → Runs L) → List I → Runs L
pass_of applied group level =
    fold (λ so_far instance. followed_by so_far (applied instance)) (Ok (nothing_run level)) group

-- n passes in a row
abbrev pub passes : {L : Type 0} → Runs L → ℕ → Runs L
passes pass zero level = Ok (nothing_run level)
passes pass (suc n) level = followed_by (passes pass n level) pass

-- a pass stops or changes nothing
abbrev pub ends : {L : Type 0} → Result (Outcome L) StepFault → Bool
ends (Err fault) = true
ends (Ok outcome) = not outcome.changed

abbrev pub ends_after : {L : Type 0} → Runs L → Result (Outcome L) StepFault → Bool
ends_after pass (Err fault) = true
ends_after pass (Ok outcome) = ends (pass outcome.level)

-- the pass after n others stops or changes nothing
abbrev pub is_last : {L : Type 0} → Runs L → L → ℕ → Bool
is_last pass level n = ends_after pass (passes pass n level)

-- match.loop-limit
abbrev pub up_to : {L : Type 0} → Runs L → L → Option ℕ → Result (Outcome L) StepFault
up_to pass level None = Err LoopLimit
up_to pass level (Some n) = passes pass (suc n) level

-- match.rest: passes up to the first that stops or changes nothing; `loop-limit` if none of the first `limit` passes does
unfoldable pub rest_of : {L : Type 0} → ℕ → Runs L → Runs L
rest_of limit pass level = up_to pass level (find (is_last pass level) (range_with_len 0 limit))

-- a group of a loop, run to rest
abbrev pub group_runs : {L I : Type 0} → ℕ → (I → Runs L) → List I → Runs L
group_runs limit applied group = rest_of limit (pass_of applied group)

-- a run neither stops nor changes anything
abbrev pub rests : {L : Type 0} → Result (Outcome L) StepFault → Bool
rests (Err fault) = false
rests (Ok outcome) = not outcome.changed
