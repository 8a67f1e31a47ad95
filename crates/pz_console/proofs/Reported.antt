-- The parts of a line, and what of them went out.
use Rattle.std.proofs.Common.{◌≡◌, ◌++◌, ◌<◌, ℕ, ◌+◌, [], List, Result, Ok, Err, IfErr, OnOk, length, take, refl, ap, ◌∙◌, inl, inr, arith}
use Rattle.std.proofs.lemmas.List.{append_assoc, append-nil, take-append-le}
use Rattle.std.proofs.Math.Seq.{take-append-add}
use Rattle.pz_lines.specs.declared.fault.Cause.{Cause}
use Rattle.pz_lines.specs.declared.fault.WriteFault.{WriteFault}
use Rattle.pz_lines.specs.Writing.{Writes, HasFailed, HasWritten}
use Rattle.pz_lines.proofs.Sent.{Appends-more, written_more, written_none}
use Rattle.pz_console.specs.Failures.{IsCut, IsReported}

-- a part before which x went out, and behind which z would have followed
pub cut_behind : (x y z : List ℕ) (k : ℕ) (a b c : Writes) (cause : Cause) → k < length y → HasWritten x a b → HasFailed cause (take k y) b c → IsCut (x ++ (y ++ z)) a c
cut_behind x y z k a b c cause h p q =
    let front : take (length x + k) (x ++ (y ++ z)) ≡ x ++ take k y =
    take-append-add x (y ++ z) k ∙ ap (λ t. x ++ t) (take-append-le k y z (omega (arith, h))) in
    (rw q.failed refl, length x + k, rw front (Appends-more a.contents b.contents c.contents x (take k y) p.sent q.sent))

-- of three parts the first was cut
pub first_cut : (x y z : List ℕ) (k : ℕ) (a b : Writes) (cause : Cause) → k < length x → HasFailed cause (take k x) a b → IsCut (x ++ y ++ z) a b
first_cut x y z k a b cause h q = rw (append_assoc x y z) (cut_behind [] x (y ++ z) k a a b cause h (written_none a) q)

-- the second
pub second_cut : (x y z : List ℕ) (k : ℕ) (a b c : Writes) (cause : Cause) → k < length y → HasWritten x a b → HasFailed cause (take k y) b c → IsCut (x ++ y ++ z) a c
second_cut x y z k a b c cause h p q = rw (append_assoc x y z) (cut_behind x y z k a b c cause h p q)

-- the third
pub third_cut : {A : Type 0} (r : Result A WriteFault) (x y z : List ℕ) (a b c d : Writes) → HasWritten x a b → HasWritten y b c
    → IfErr r (λ fault. fault.written < length z) → IfErr r (λ fault. HasFailed fault.cause (take fault.written z) c d) → IfErr r (λ _. IsCut (x ++ y ++ z) a d)
third_cut (Ok v) x y z a b c d p q within cut = tt
third_cut (Err fault) x y z a b c d p q within cut =
    rw (append-nil z) at (cut_behind (x ++ y) z [] fault.written a c d fault.cause within (written_more x y a b c p q) cut)

-- none was
pub all_written : {A : Type 0} (r : Result A WriteFault) (x y z : List ℕ) (a b c d : Writes) → HasWritten x a b → HasWritten y b c → OnOk r (HasWritten z c d) → OnOk r (HasWritten (x ++ y ++ z) a d)
all_written (Ok v) x y z a b c d p q whole = written_more (x ++ y) z a c d (written_more x y a b c p q) whole
all_written (Err fault) x y z a b c d p q whole = tt

-- what holds, holds of a fault
pub of_fault : {A : Type 0} (r : Result A WriteFault) (P : Type 0) → P → IfErr r (λ _. P)
of_fault (Ok v) P h = tt
of_fault (Err fault) P h = h

-- a line is whole or cut
pub reported : {A : Type 0} (r : Result A WriteFault) (line : List ℕ) (a b : Writes) → OnOk r (HasWritten line a b) → IfErr r (λ _. IsCut line a b) → IsReported line a b
reported (Ok v) line a b whole cut = inl whole
reported (Err fault) line a b whole cut = inr cut
