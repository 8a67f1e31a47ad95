-- What a reader has given.
use Rattle.std.proofs.Common.{◌≡◌, ℕ, ◌+◌, ◌<◌, ◌≤◌, Bool, true, List, [], ◌++◌, length, take, Option, Some, None, IfSome, sym, ◌∙◌, ap, subst, arith, append-nil, append_assoc, length-append}
use Rattle.std.proofs.lemmas.List.{take-append-le}
use Rattle.std.specs.Prelude.{if◌then◌else◌}
use Rattle.std.specs.Io.KnownBytes.{Consumes, IsAtEnd}

-- a reader that is at its end has given all that it had
pub ended : (a b c : Option (List ℕ)) (bs part : List ℕ) → Consumes a b bs → Consumes b c part → part ≡ [] → IsAtEnd c → IfSome a (λ all. bs ≡ all)
ended None b c bs part p q e f = tt
ended (Some xs) None c bs part p q e f = absurd p
ended (Some xs) (Some ys) None bs part p q e f = absurd q
ended (Some xs) (Some ys) (Some zs) bs part p q e f =
    let left : ys ≡ [] = q ∙ (ap (λ part. part ++ zs) e ∙ f) in
    sym (p ∙ (ap (λ left. bs ++ left) left ∙ append-nil bs))

both : (a b c : Option (List ℕ)) (xs ys : List ℕ) → Consumes a b xs → Consumes b c ys → Consumes a c (xs ++ ys)
both None b c xs ys p q = tt
both (Some all) None c xs ys p q = absurd p
both (Some all) (Some left) None xs ys p q = absurd q
both (Some all) (Some left) (Some last) xs ys p q = p ∙ (ap (λ l. xs ++ l) q ∙ sym (append_assoc xs ys last))

-- one more read, whose bytes stand at the front of a buffer
pub read_on : (a b c : Option (List ℕ)) (bs all buffer behind : List ℕ) (count : ℕ) (is_kept : Bool) → Consumes a b bs → Consumes b c (take count buffer) → (count ≤ length buffer) × (count ≡ length (take count buffer)) → is_kept ≡ true
    → all ≡ (if is_kept then bs ++ take count (buffer ++ behind) else bs) → Consumes a c all × (length all ≡ length bs + count)
read_on a b c bs all buffer behind count is_kept before part within kept is =
    let same : all ≡ bs ++ take count buffer = is ∙ (ap (λ k. if k then bs ++ take count (buffer ++ behind) else bs) kept ∙ ap (λ l. bs ++ l) (take-append-le count buffer behind within.0)) in
    (subst (Consumes a c) (sym same) (both a b c bs (take count buffer) before part), omega (arith, ap length same, length-append bs (take count buffer), within.1))

-- more was read than a number, so there was more
pub more_than : (a b : Option (List ℕ)) (bs : List ℕ) (n : ℕ) → Consumes a b bs → n < length bs → IfSome a (λ all. n < length all)
more_than None b bs n p many = tt
more_than (Some all) None bs n p many = absurd p
more_than (Some all) (Some left) bs n p many = omega (arith, ap length p, length-append bs left, many)
