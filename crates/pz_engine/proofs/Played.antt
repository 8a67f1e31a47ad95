-- The lines of a job's sessions, one after another, and whether they passed.
use Rattle.std.proofs.Common.{◌≡◌, ◌≤◌, ◌<◌, ◌+◌, ◌&&◌, ℕ, Bool, true, false, List, [], ◌∷◌, ◌++◌, Some, map, length, take, get_or, refl, sym, ap, ◌∙◌, arith}
use Rattle.std.specs.Prelude.{slice_get}
use Rattle.std.specs.List.{list_all}
use Rattle.std.proofs.lemmas.List.{length-map, get_or-map, take_all}
use Rattle.std.proofs.lemmas.List.Folds.{list_all-append}
use Rattle.std.proofs.lemmas.Option.{get_or_from_slice_get}
use Rattle.pz_case.specs.declared.case.Case.{Case}
use Rattle.pz_case.specs.declared.recording.Record.{Record}
use Rattle.pz_lines.specs.Lines.{recording_lines}
use Rattle.pz_lines.proofs.Cut.{front_more, sessions_all, sessions_more}

and_true : (b : Bool) → (b && true) ≡ b
and_true true = refl
and_true false = refl

-- the record of the case of this number
pub record_at : (f : Case → Record) (job : List Case) (n : ℕ) (case : Case) → n < length job → slice_get job n ≡ Some case → f case ≡ get_or (map f job) n (f case)
record_at f job n case within at = ap f (sym (get_or_from_slice_get job n case case at)) ∙ sym (get_or-map f job n case (f case) within)

-- the lines of one session more
pub one_more : (line : ℕ → Record → List ℕ) (f : Case → Record) (job : List Case) (n : ℕ) (case : Case) (before after : List ℕ) → n < length job → slice_get job n ≡ Some case
    → before ≡ recording_lines line 0 (take n (map f job)) → after ≡ before ++ line n (f case) → after ≡ recording_lines line 0 (take (n + 1) (map f job))
one_more line f job n case before after within at so_far more =
    let many : length (map f job) ≡ length job = length-map job f in
    let there : n < length (map f job) = omega arith in
    more ∙ (ap (λ (l : List ℕ). l ++ line n (f case)) so_far ∙ sym (sessions_more line (map f job) (map f job) n (f case) refl there (record_at f job n case within at)))

pub all_lines : (line : ℕ → Record → List ℕ) (f : Case → Record) (job : List Case) (n : ℕ) (lines : List ℕ) → length job ≤ n → lines ≡ recording_lines line 0 (take n (map f job)) → lines ≡ recording_lines line 0 (map f job)
all_lines line f job n lines over so_far =
    let many : length (map f job) ≡ length job = length-map job f in
    let past : length (map f job) ≤ n = omega arith in
    so_far ∙ sym (sessions_all line (map f job) (map f job) n refl past)

-- whether those up to one more passed
pub one_passed : (p : Record → Bool) (f : Case → Record) (job : List Case) (n : ℕ) (case : Case) (before after : Bool) → n < length job → slice_get job n ≡ Some case
    → before ≡ list_all p (take n (map f job)) → after ≡ (before && p (f case)) → after ≡ list_all p (take (n + 1) (map f job))
one_passed p f job n case before after within at so_far more =
    let many : length (map f job) ≡ length job = length-map job f in
    let there : n < length (map f job) = omega arith in
    more ∙ (ap (λ (b : Bool). b && p (f case)) so_far ∙ (sym (list_all-append p (take n (map f job)) (f case ∷ []) ∙ ap (λ (b : Bool). list_all p (take n (map f job)) && b) (and_true (p (f case)))) ∙ ap (list_all p) (sym (front_more (map f job) n (f case) there (record_at f job n case within at)))))

pub every_passed : (p : Record → Bool) (f : Case → Record) (job : List Case) (n : ℕ) (passed : Bool) → length job ≤ n → passed ≡ list_all p (take n (map f job)) → passed ≡ list_all p (map f job)
every_passed p f job n passed over so_far =
    let many : length (map f job) ≡ length job = length-map job f in
    let past : length (map f job) ≤ n = omega arith in
    so_far ∙ ap (list_all p) (take_all n (map f job) past)
