use Rattle.std.proofs.Common.{◌≡◌, ℕ, List, ◌++◌, ◌+◌, ◌/◌, ◌%◌, ◌<◌, ◌∷◌, [], take, decimal, ap, arith, sym, ◌∙◌}
use Rattle.std.proofs.lemmas.Fmt.{decimal_digit, decimal_step}
use Rattle.json.specs.Print.{escape}
use Rattle.pz_json_text.proofs.Escaping.{escape-digit, escape-number}
use Rattle.pz_json_text.proofs.escaped.put_number.Goals as goal

pub returns-then-number-lt10-clause-written : goal.returns-then-number-lt10-clause-written
returns-then-number-lt10-clause-written c =
    let n = c.args.number in
    let old = take c.args.end c.args.json.now in
    c.put.ensures.written ∙ ap (λ (l : List ℕ). old ++ l) (sym (escape-digit n c.if-number-lt10.true))

pub returns-then-number-lt100-clause-written : goal.returns-then-number-lt100-clause-written
returns-then-number-lt100-clause-written c =
    let n = c.args.number in
    let old = take c.args.end c.args.json.now in
    let tens : n / 10 < 10 = omega (arith, c.if-number-lt100.true) in
    let digits : decimal n ≡ (48 + n / 10) ∷ (48 + n % 10) ∷ [] =
    decimal_step n (omega arith) (omega (arith, c.ranges.number.fits)) ∙ ap (λ (l : List ℕ). l ++ (48 + n % 10) ∷ []) (decimal_digit (n / 10) tens) in
    let text : escape (decimal n ++ 44 ∷ []) ≡ (48 + n / 10) ∷ (48 + n % 10) ∷ 44 ∷ [] =
    escape-number n (omega (arith, c.ranges.number.fits)) ∙ ap (λ (l : List ℕ). l ++ 44 ∷ []) digits in
    c.put-then-number-lt100.ensures.written ∙ ap (λ (l : List ℕ). old ++ l) (sym text)
