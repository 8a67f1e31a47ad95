-- The lines of a text, cell by cell.
use Rattle.std.proofs.Common.{◌≡◌, ℕ, ◌+◌, ◌*◌, ◌/◌, ◌%◌, ◌<◌, ◌≤◌, List, [], ◌∷◌, Bool, false, cond, nat_eq, ap, ◌∙◌, arith}
use Rattle.std.proofs.lemmas.Bool.{eqb-true, false_from_ne_true}
use Rattle.std.proofs.lemmas.Nat.{div-add-mod', div-mul-add, mod-mul-add}
use Rattle.pz_json_text.specs.CellTexts.{line_end}

-- the next number in a line
pub in_line : (k w : ℕ) → k % w + 1 < w → ((k + 1) % w ≡ k % w + 1) × ((k + 1) / w ≡ k / w)
in_line k w h =
    let split : k + 1 ≡ k / w * w + (k % w + 1) = omega (arith, div-add-mod' k w) in
    (ap (λ n. n % w) split ∙ mod-mul-add (k / w) w (k % w + 1) h, ap (λ n. n / w) split ∙ div-mul-add (k / w) w (k % w + 1) h)

not_zero : (n : ℕ) → nat_eq (n + 1) 0 ≡ false
not_zero n = false_from_ne_true (nat_eq (n + 1) 0) (λ e. let none : n + 1 ≡ 0 = eqb-true (n + 1) 0 e in omega arith)

-- a line that has fewer cells than the level is wide doesn't end
pub unended : (k w column : ℕ) → column ≡ k % w → column + 1 < w → line_end w (k + 1) ≡ []
unended k w column at more =
    let e : (k + 1) % w ≡ k % w + 1 = (in_line k w (omega (arith, at, more))).0 in
    let none : List ℕ = [] in
    ap (λ n. cond (nat_eq n 0) (10 ∷ none) none) e ∙ ap (λ (b : Bool). cond b (10 ∷ none) none) (not_zero (k % w))

-- a line that has as many cells as the level is wide ends
pub ended : (k w column : ℕ) → column ≡ k % w → column < w → w ≤ column + 1 → line_end w (k + 1) ≡ 10 ∷ []
ended k w column at low full =
    let split : k + 1 ≡ (k / w + 1) * w + 0 = omega (arith, div-add-mod' k w) in
    let e : (k + 1) % w ≡ 0 = ap (λ n. n % w) split ∙ mod-mul-add (k / w + 1) w 0 (omega arith) in
    let none : List ℕ = [] in
    ap (λ n. cond (nat_eq n 0) (10 ∷ none) none) e
