-- Escaped texts: what stands for itself, and that texts are escaped one after the other.
use Rattle.std.proofs.Common.{◌≡◌, ℕ, ◌+◌, ◌%◌, ◌<◌, ◌≤◌, ◌^◌, false, ◌==◌, nat_lt, List, [], ◌∷◌, ◌++◌, decimal, length, take, drop, slice_set, refl, ap, ap₂, sym, ◌∙◌, arith}
use Rattle.std.proofs.Math.Nat.{mod-lt}
use Rattle.std.proofs.Math.ListN.{length-set}
use Rattle.std.proofs.lemmas.Bool.{ne_eqb, le-ltb}
use Rattle.std.proofs.lemmas.Fmt.{decimal_by_steps, decimal_digit}
use Rattle.std.proofs.lemmas.Grind.{flat_map-append, take-set_at}
use Rattle.std.proofs.lemmas.List.{append_assoc, take_at}
use Rattle.json.specs.Print.{escape_byte, escape}

-- a digit, a comma and a colon stand for themselves
pub for_itself : (x : ℕ) → 35 ≤ x → x < 92 → escape_byte x ≡ x ∷ []
unfolding escape_byte
for_itself x low high =
    let mark : (x == 34) ≡ false = ne_eqb x 34 (λ e. omega arith) in
    let stroke : (x == 92) ≡ false = ne_eqb x 92 (λ e. omega arith) in
    let back : (x == 8) ≡ false = ne_eqb x 8 (λ e. omega arith) in
    let page : (x == 12) ≡ false = ne_eqb x 12 (λ e. omega arith) in
    let line : (x == 10) ≡ false = ne_eqb x 10 (λ e. omega arith) in
    let start : (x == 13) ≡ false = ne_eqb x 13 (λ e. omega arith) in
    let tab : (x == 9) ≡ false = ne_eqb x 9 (λ e. omega arith) in
    let control : nat_lt x 32 ≡ false = le-ltb x 32 (omega arith) in
    simp (mark, stroke, back, page, line, start, tab, control)

pub escape-append : (a b : List ℕ) → escape (a ++ b) ≡ escape a ++ escape b
escape-append a b = flat_map-append escape_byte a b

pub escape-decimal : (n : ℕ) → n < 2 ^ 64 → escape (decimal n) ≡ decimal n
escape-decimal n fits = decimal_by_steps (λ n ds. escape ds ≡ ds) one more n fits
  where
    one : (n : ℕ) → n < 10 → escape ((48 + n) ∷ []) ≡ (48 + n) ∷ []
    one n h = ap (λ (l : List ℕ). l ++ []) (for_itself (48 + n) (omega arith) (omega arith))

    more : (n : ℕ) (ds : List ℕ) → 10 ≤ n → escape ds ≡ ds → escape (ds ++ ((48 + n % 10) ∷ [])) ≡ ds ++ ((48 + n % 10) ∷ [])
    more n ds h e =
        let digit : n % 10 < 10 = mod-lt n (omega arith) in
        escape-append ds ((48 + n % 10) ∷ []) ∙ ap₂ (λ a b. a ++ b) e (one (n % 10) digit)

-- a number and a comma
pub escape-number : (n : ℕ) → n < 2 ^ 64 → escape (decimal n ++ 44 ∷ []) ≡ decimal n ++ 44 ∷ []
escape-number n fits = escape-append (decimal n) (44 ∷ []) ∙ ap₂ (λ a b. a ++ b) (escape-decimal n fits) (ap (λ (l : List ℕ). l ++ []) (for_itself 44 (omega arith) (omega arith)))

-- a digit and a comma
pub escape-digit : (n : ℕ) → n < 10 → escape (decimal n ++ 44 ∷ []) ≡ (48 + n) ∷ 44 ∷ []
escape-digit n few = escape-number n (omega (arith, few)) ∙ ap (λ (l : List ℕ). l ++ 44 ∷ []) (decimal_digit n few)

pub line_feed : escape (10 ∷ []) ≡ 92 ∷ 110 ∷ []
unfolding escape_byte
line_feed = refl

-- two bytes behind a text
pub two_written : (json : List ℕ) (end a b : ℕ) → end + 2 ≤ length json → take (end + 2) (slice_set (slice_set json end a) (end + 1) b) ≡ take end json ++ a ∷ b ∷ []
two_written json end a b room =
    let next : end + 1 < length (slice_set json end a) = simp length-set (omega arith) in
    take-set_at (slice_set json end a) (end + 1) (end + 2) b (omega arith) next
    ∙ ap (λ l. l ++ b ∷ []) (take-set_at json end (end + 1) a refl (omega arith))
    ∙ append_assoc (take end json) (a ∷ []) (b ∷ [])

-- a text that is new, its number and a comma, written in parts
pub escape-new : (old text : List ℕ) (n : ℕ) → (old ++ (escape text ++ 58 ∷ [])) ++ escape (decimal n ++ 44 ∷ []) ≡ old ++ escape (text ++ 58 ∷ [] ++ decimal n ++ 44 ∷ [])
escape-new old text n =
    let colon : escape (58 ∷ []) ≡ 58 ∷ [] = ap (λ (l : List ℕ). l ++ []) (for_itself 58 (omega arith) (omega arith)) in
    let name : escape (text ++ 58 ∷ []) ≡ escape text ++ 58 ∷ [] = escape-append text (58 ∷ []) ∙ ap (λ l. escape text ++ l) colon in
    append_assoc old (escape text ++ 58 ∷ []) (escape (decimal n ++ 44 ∷ []))
    ∙ ap (λ l. old ++ l) (ap (λ l. l ++ escape (decimal n ++ 44 ∷ [])) (sym name) ∙ sym (escape-append (text ++ 58 ∷ []) (decimal n ++ 44 ∷ [])) ∙ ap escape (sym (append_assoc (text ++ 58 ∷ []) (decimal n) (44 ∷ []))))

-- a list that was lent as a whole, and came back with the same length
pub lent : (n : ℕ) (new old : List ℕ) → length new ≡ n → take n (new ++ drop (length new) old) ≡ new
lent n new old e = rw (← e) (take_at new (drop (length new) old) (length new) refl)
