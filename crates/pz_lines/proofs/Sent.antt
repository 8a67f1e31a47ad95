-- Texts that go out one after the other.
use Rattle.std.proofs.Common.{◌≡◌, ◌⊎◌, inl, inr, Result, Ok, Err, IfErr, ℕ, ◌+◌, ◌≤◌, ◌^◌, List, [], ◌++◌, length, take, Option, Some, None, ap, ◌∙◌, sym, refl, arith}
use Rattle.std.proofs.lemmas.List.{append_assoc, append-nil, length-append, take-append-le, take_all}
use Rattle.std.proofs.Math.Seq.{take-append-add}
use Rattle.std.specs.Io.KnownBytes.{Appends}
use Rattle.pz_lines.specs.declared.fault.Cause.{Cause}
use Rattle.pz_lines.specs.declared.fault.Cause.TheVariants.{Memory}
use Rattle.pz_lines.specs.declared.fault.WriteFault.{WriteFault}
use Rattle.pz_lines.specs.Writing.{Writes, EndsFor, HasWritten, IsSent, IsSentInPart}

pub Appends-none : (o : Option (List ℕ)) → Appends o o []
Appends-none None = tt
Appends-none (Some xs) = sym (append-nil xs)

pub Appends-more : (a b c : Option (List ℕ)) (x y : List ℕ) → Appends a b x → Appends b c y → Appends a c (x ++ y)
Appends-more None b c x y p q = tt
Appends-more (Some xs) None c x y p q = absurd p
Appends-more (Some xs) (Some ys) None x y p q = absurd q
Appends-more (Some xs) (Some ys) (Some zs) x y p q = rw (q, p) (append_assoc xs x y)

pub written_none : (o : Writes) → HasWritten [] o o
written_none o = record { sent = Appends-none o.contents; sound = refl }

pub written_more : (x y : List ℕ) (a b c : Writes) → HasWritten x a b → HasWritten y b c → HasWritten (x ++ y) a c
written_more x y a b c p q = record {
  sent = Appends-more a.contents b.contents c.contents x y p.sent q.sent;
  sound = q.sound ∙ p.sound;
}

pub sent_more : (x y : List ℕ) (l m n : ℕ) (a b c : Writes) → IsSent x l m a b → IsSent y m n b c → IsSent (x ++ y) l n a c
sent_more x y l m n a b c p q = record {
  counted = omega (arith, length-append x y, p.counted, q.counted);
  written = written_more x y a b c p.written q.written;
}

-- a bound that a part reaches, the whole reaches
reaches : {A : Type 0} (big m n : ℕ) → m ≤ n → A ⊎ (big ≤ m) → A ⊎ (big ≤ n)
reaches big m n h (inl a) = inl a
reaches big m n h (inr p) = inr (omega (arith, h, p))

-- a part of a text that follows another
pub part_behind : (x y rest : List ℕ) (l m n : ℕ) (a b c : Writes) (cause : Cause) → IsSent x l m a b → IsSentInPart y m n b c cause → IsSentInPart (x ++ (y ++ rest)) l n a c cause
part_behind x y rest l m n a b c cause p q = record {
  count = length x + q.count;
  counted = omega (arith, p.counted, q.counted);
  within = omega (arith, length-append x (y ++ rest), length-append y rest, q.within);
  sent =
      let front : take (length x + q.count) (x ++ (y ++ rest)) ≡ x ++ take q.count y =
      take-append-add x (y ++ rest) q.count ∙ ap (λ t. x ++ t) (take-append-le q.count y rest q.within) in
      rw front (Appends-more a.contents b.contents c.contents x (take q.count y) p.written.sent q.sent);
  why = λ other. reaches (2 ^ 64) (m + length y) (l + length (x ++ (y ++ rest)))
      (omega (arith, length-append x (y ++ rest), length-append y rest, p.counted)) (q.why other);
  sound = λ memory. q.sound memory ∙ p.written.sound;
}

-- what went out whole, before there was no memory for more, is a part of what follows it too
pub part_sent : (x rest : List ℕ) (l m : ℕ) (a b : Writes) → IsSent x l m a b → IsSentInPart (x ++ rest) l m a b Memory
part_sent x rest l m a b p = record {
  count = length x;
  counted = p.counted;
  within = omega (arith, length-append x rest);
  sent = rw (take-append-le (length x) x rest (omega arith) ∙ take_all (length x) x (omega arith)) p.written.sent;
  why = λ other. absurd (other refl);
  sound = λ _. p.written.sound;
}

pub part_is : (text whole : List ℕ) (l m : ℕ) (a b : Writes) (cause : Cause) → text ≡ whole → IsSentInPart whole l m a b cause → IsSentInPart text l m a b cause
part_is text whole l m a b cause e p = rw e p

-- the count from nothing is how many bytes went out
pub ended_for : (text : List ℕ) (fault : WriteFault) (a b : Writes) → IsSentInPart text 0 fault.written a b fault.cause → EndsFor fault text a b
ended_for text fault a b p =
    let is : fault.written ≡ p.count = omega (arith, p.counted) in
    record { within = rw is p.within; sent = rw is p.sent; why = λ other. reaches (2 ^ 64) (0 + length text) (length text) (omega arith) (p.why other); sound = p.sound }

-- of a text a front went out and the rest is kept back; a line more, of all that is kept back some goes out, and the rest is kept back
pub kept_more : (whole front line sent held more now left : List ℕ) → whole ≡ front ++ line → front ≡ sent ++ held → more ≡ held ++ line → more ≡ now ++ left → whole ≡ (sent ++ now) ++ left
kept_more whole front line sent held more now left e p q r =
    e ∙ (ap (λ t. t ++ line) p ∙ (append_assoc sent held line ∙ (ap (λ t. sent ++ t) (sym q ∙ r) ∙ sym (append_assoc sent now left))))

-- what is kept back stands behind what went out, and before what follows
pub kept_before : (whole front sent held rest : List ℕ) → whole ≡ front ++ rest → front ≡ sent ++ held → whole ≡ sent ++ (held ++ rest)
kept_before whole front sent held rest e p = e ∙ (ap (λ t. t ++ rest) p ∙ append_assoc sent held rest)

pub line_before : (whole front sent held line more rest : List ℕ) → whole ≡ front ++ (line ++ rest) → front ≡ sent ++ held → more ≡ held ++ line → whole ≡ sent ++ (more ++ rest)
line_before whole front sent held line more rest e p q =
    kept_before whole front sent held (line ++ rest) e p ∙ ap (λ t. sent ++ t) (sym (append_assoc held line rest) ∙ ap (λ t. t ++ rest) (sym q))

-- what is cut in two is cut so behind another text too
pub behind : (before whole front line : List ℕ) → whole ≡ front ++ line → before ++ whole ≡ (before ++ front) ++ line
behind before whole front line e = ap (λ t. before ++ t) e ∙ sym (append_assoc before front line)

-- what was kept back to the end goes out, or a part of it does
pub all_behind : (whole front sent held now : List ℕ) (l m n : ℕ) (a b c : Writes) (result : Result (Unit {0}) Cause) → whole ≡ front → front ≡ sent ++ held → now ≡ held → IsSent sent l m a b
    → IfErr result (IsSentInPart now m n b c) → IfErr result (IsSentInPart whole l n a c)
all_behind whole front sent held now l m n a b c (Ok done) e f q p h = h
all_behind whole front sent held now l m n a b c (Err cause) e f q p h =
    part_is whole (sent ++ (held ++ [])) l n a c cause (e ∙ (f ∙ ap (λ t. sent ++ t) (sym (append-nil held)))) (part_behind sent held [] l m n a b c cause p (rw q at h))
