-- A run to rest, by its first pass.
use Rattle.std.proofs.Common.{◌≡◌, ℕ, zero, suc, ◌+◌, Bool, true, false, not, ◌||◌, Option, Some, None, Result, Ok, Err, cond, refl, ap, sym, ◌∙◌, arith}
use Rattle.std.proofs.Math.Bool.{or-false, or_assoc}
use Rattle.std.specs.List.{find, range_with_len}
use Rattle.std.specs.Option.{option_map}
use Rattle.std.specs.Prelude.{if◌then◌else◌}
use Rattle.pz_program.specs.Commands.{no_commands, either}
use Rattle.pz_turn.specs.declared.outcome.StepFault.{StepFault}
use Rattle.pz_turn.specs.declared.outcome.StepFault.TheVariants.{LoopLimit}
use Rattle.pz_turn.specs.Outcome.{Outcome, nothing_run, outcome_behind, followed_by}
use Rattle.pz_turn.specs.Rest.{Runs, passes, ends, ends_after, is_last, up_to}
unfoldable use Rattle.pz_turn.specs.Rest.{rest_of}
use Rattle.pz_turn.proofs.Passes.{either_assoc, either_comm}

module _ {L : Type 0} where
  pub joined_untouched : (level : L) (r : Result (Outcome L) StepFault) → outcome_behind (nothing_run level) r ≡ r
  joined_untouched level (Err fault) = refl
  joined_untouched level (Ok o) = grind (arith, either_comm no_commands o.commands, either_comm o.commands no_commands)

  joined_none : (o : Outcome L) → outcome_behind o (Ok (nothing_run o.level)) ≡ Ok o
  joined_none o = grind (arith, either_comm o.commands no_commands, or-false o.changed)

  joined_follow : (o : Outcome L) (a : Result (Outcome L) StepFault) (run : Runs L) → followed_by (outcome_behind o a) run ≡ outcome_behind o (followed_by a run)
  joined_follow o (Err fault) run = refl
  joined_follow o (Ok p) run = twice (run p.level) where
    twice : (r : Result (Outcome L) StepFault)
        → outcome_behind (record { level = p.level; commands = either o.commands p.commands; changed = o.changed || p.changed }) r ≡ outcome_behind o (outcome_behind p r)
    twice r = grind (arith, either_assoc, or_assoc)

  ends_joined : (pass : Runs L) (o : Outcome L) (a : Result (Outcome L) StepFault) → ends_after pass (outcome_behind o a) ≡ ends_after pass a
  ends_joined pass o (Err fault) = refl
  ends_joined pass o (Ok p) = refl

  -- the passes behind the first one
  passes_behind : (pass : Runs L) (level : L) (o : Outcome L) → pass level ≡ Ok o → (n : ℕ) → passes pass (suc n) level ≡ outcome_behind o (passes pass n o.level)
  passes_behind pass level o is zero = joined_untouched level (pass level) ∙ is ∙ sym (joined_none o)
  passes_behind pass level o is (suc n) = ap (λ (r : Result (Outcome L) StepFault). followed_by r pass) (passes_behind pass level o is n) ∙ joined_follow o (passes pass n o.level) pass

  up_behind : (pass : Runs L) (level : L) (o : Outcome L) → pass level ≡ Ok o → (last : Option ℕ) → up_to pass level (option_map suc last) ≡ outcome_behind o (up_to pass o.level last)
  up_behind pass level o is None = refl
  up_behind pass level o is (Some n) = passes_behind pass level o is (suc n)

find_behind : (test before : ℕ → Bool) → ((k : ℕ) → test (suc k) ≡ before k) → (n a : ℕ) → find test (range_with_len (suc a) n) ≡ option_map suc (find before (range_with_len a n))
find_behind test before same zero a = refl
find_behind test before same (suc n) a =
    let next : suc a + 1 ≡ suc (a + 1) = omega arith in
    let later = ap (λ (k : ℕ). find test (range_with_len k n)) next ∙ find_behind test before same n (a + 1) in
    ap (λ (b : Bool). cond b (Some (suc a)) (find test (range_with_len (suc a + 1) n))) (same a)
    ∙ ap (cond (before a) (Some (suc a))) later
    ∙ mapped (before a) where
      mapped : (b : Bool) → cond b (Some (suc a)) (option_map suc (find before (range_with_len (a + 1) n))) ≡ option_map suc (cond b (Some a) (find before (range_with_len (a + 1) n)))
      mapped true = refl
      mapped false = refl

-- what a first pass gave, and what follows it
abbrev pub rested : {L : Type 0} → ℕ → Runs L → Result (Outcome L) StepFault → Result (Outcome L) StepFault
rested left pass (Err fault) = Err fault
rested left pass (Ok o) = if o.changed then outcome_behind o (rest_of left pass o.level) else Ok o

module _ {L : Type 0} (left : ℕ) (pass : Runs L) (level : L) where
  abbrev later : Option ℕ
  later = find (is_last pass level) (range_with_len 1 left)

  -- the first pass, by what it gives
  first_pass : (r : Result (Outcome L) StepFault) → pass level ≡ r → up_to pass level (cond (ends r) (Some 0) later) ≡ rested left pass r
  unfolding rest_of
  first_pass (Err fault) is = joined_untouched level (pass level) ∙ is
  first_pass (Ok o) is = by o.changed refl where
    by : (b : Bool) → o.changed ≡ b → up_to pass level (cond (not b) (Some 0) later) ≡ (if b then outcome_behind o (rest_of left pass o.level) else Ok o)
    by false none = joined_untouched level (pass level) ∙ is
    by true some =
        let same : (k : ℕ) → is_last pass level (suc k) ≡ is_last pass o.level k = λ k. ap (ends_after pass) (passes_behind pass level o is k) ∙ ends_joined pass o (passes pass k o.level) in
        ap (up_to pass level) (find_behind (is_last pass level) (is_last pass o.level) same left 0)
        ∙ up_behind pass level o is (find (is_last pass o.level) (range_with_len 0 left))

  pub rest_by_first : rest_of (suc left) pass level ≡ rested left pass (pass level)
  unfolding rest_of
  rest_by_first = first_pass (pass level) refl

-- without a pass there is no rest
pub none_allowed : {L : Type 0} (pass : Runs L) (level : L) → rest_of 0 pass level ≡ Err LoopLimit
unfolding rest_of
none_allowed pass level = refl
