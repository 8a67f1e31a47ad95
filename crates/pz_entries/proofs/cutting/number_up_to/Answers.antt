use Rattle.std.proofs.Common.{◌≡◌, ℕ, zero, suc, ◌==◌, ◌<◌, ◌+◌, ◌-◌, ◌*◌, ◌≤◌, ◌^◌, length, drop, get_or, true, false, sym, arith, ◌∙◌, refl}
use Rattle.std.proofs.lemmas.Bool.{eqb-true}
use Rattle.std.specs.Char.{is_ascii_digit}
use Rattle.pz_entries.proofs.Numbers.{reading_empty, reading_starts, reading_more, reading_big}
use Rattle.pz_entries.proofs.cutting.number_up_to.Goals as goal

positive : (n : ℕ) → (n == 0) ≡ false → 0 < n
positive zero e = cc
positive (suc n) e = omega arith

pub returns-then-is_empty : goal.returns-then-is_empty
returns-then-is_empty c =
    let none : length c.args.digits.now ≡ 0 = eqb-true _ 0 (sym c.is_empty.ensures ∙ c.if-is_empty.true) in
    sym (reading_empty c.args.most c.args.digits.now none)

pub loop-digit-init : goal.loop-digit-init
loop-digit-init c = reading_starts c.args.most c.args.digits.now (positive _ (sym c.is_empty.ensures ∙ c.if-is_empty.false))

pub returns-in_err-checked_mul : goal.returns-in_err-checked_mul
returns-in_err-checked_mul c =
    let ds = c.args.digits.now in
    let n = c.loop-digit.number in
    let i = c.loop-digit.digit-index in
    let x = get_or ds i 0 in
    let digit : is_ascii_digit x ≡ true = sym c.is_ascii_digit.ensures.value ∙ c.if-not-is_ascii_digit.false in
    let large : 2 ^ 64 ≤ n * 10 = omega (arith, c.in_err-checked_mul.ensures) in
    let past : c.args.most < n * 10 + (x - 48) = omega arith in
    c.from_residual.ensures ∙ sym (sym c.loop-digit.invariant ∙ reading_more c.args.most n i ds x c.loop-digit-test.true refl digit ∙ reading_big c.args.most (n * 10 + (x - 48)) (drop (i + 1) ds) past)

pub returns-in_err-number : goal.returns-in_err-number
returns-in_err-number c =
    let ds = c.args.digits.now in
    let n = c.loop-digit.number in
    let i = c.loop-digit.digit-index in
    let x = get_or ds i 0 in
    let digit : is_ascii_digit x ≡ true = sym c.is_ascii_digit.ensures.value ∙ c.if-not-is_ascii_digit.false in
    let past : c.args.most < n * 10 + (x - 48) = omega (arith, c.in_err-number.ensures, c.in_ok-checked_mul.ensures) in
    c.from_residual-in_err-number.ensures ∙ sym (sym c.loop-digit.invariant ∙ reading_more c.args.most n i ds x c.loop-digit-test.true refl digit ∙ reading_big c.args.most (n * 10 + (x - 48)) (drop (i + 1) ds) past)
