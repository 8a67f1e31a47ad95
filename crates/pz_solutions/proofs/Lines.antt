-- The lines of a job's sessions, one after another.
use Rattle.std.proofs.Common.{◌≡◌, ◌≤◌, ◌<◌, ◌+◌, ℕ, suc, List, [], ◌∷◌, ◌++◌, Some, length, take, refl, sym, subst, ap, ◌∙◌, arith}
use Rattle.std.specs.Prelude.{slice_get}
use Rattle.std.proofs.lemmas.List.{append_assoc, append-nil, length-take-le, take_all, take_more}
use Rattle.std.proofs.lemmas.Option.{get_or_from_slice_get}
use Rattle.pz_case.specs.declared.case.Case.{Case}
use Rattle.pz_solve.specs.declared.answer.Bounds.{Bounds}
use Rattle.pz_solutions.specs.File.{AreLinesOf, IsLineOf}

-- with the line of one case more
one_behind : (bounds : Bounds) (number : ℕ) (cases : List Case) (case : Case) (lines line : List ℕ) → AreLinesOf bounds number cases lines → IsLineOf bounds (number + length cases) case line
    → AreLinesOf bounds number (cases ++ case ∷ []) (lines ++ line)
one_behind bounds number [] case lines line none is =
    (line, [], ap (λ (l : List ℕ). l ++ line) none ∙ sym (append-nil line), subst (λ (n : ℕ). IsLineOf bounds n case line) (omega arith) is, refl)
one_behind bounds number (first ∷ cases) case lines line are is = (
  are.0,
  are.1 ++ line,
  ap (λ (l : List ℕ). l ++ line) are.2 ∙ append_assoc are.0 are.1 line,
  are.3,
  one_behind bounds (suc number) cases case are.1 line are.4 (subst (λ (n : ℕ). IsLineOf bounds n case line) (omega arith) is),
)

-- the lines of one session of a job more
pub one_more : (bounds : Bounds) (job : List Case) (n : ℕ) (case : Case) (lines line : List ℕ) → n < length job → slice_get job n ≡ Some case
    → AreLinesOf bounds 0 (take n job) lines → IsLineOf bounds n case line → AreLinesOf bounds 0 (take (n + 1) job) (lines ++ line)
one_more bounds job n case lines line within at are is =
    let first : take (n + 1) job ≡ take n job ++ case ∷ [] = take_more job n case within ∙ ap (λ (c : Case). take n job ++ c ∷ []) (get_or_from_slice_get job n case case at) in
    let taken : length (take n job) ≡ n = length-take-le n job (omega arith) in
    let count : n ≡ 0 + length (take n job) = omega (arith, taken) in
    subst (λ (cases : List Case). AreLinesOf bounds 0 cases (lines ++ line)) (sym first)
    (one_behind bounds 0 (take n job) case lines line are (subst (λ (m : ℕ). IsLineOf bounds m case line) count is))

pub all_lines : (bounds : Bounds) (job : List Case) (n : ℕ) (lines : List ℕ) → length job ≤ n → AreLinesOf bounds 0 (take n job) lines → AreLinesOf bounds 0 job lines
all_lines bounds job n lines over are = subst (λ (cases : List Case). AreLinesOf bounds 0 cases lines) (take_all n job over) are
