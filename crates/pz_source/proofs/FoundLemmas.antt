-- What readers found, by the one equation that they promise.
use Rattle.std.proofs.Common.{◌≡◌, ℕ, List, Option, Some, None, Result, Ok, Err, refl, ap, sym}
use Rattle.pz_base.specs.Fault.{unless, and_then}
use Rattle.pz_base.specs.declared.fault.SourceFault.{SourceFault}

-- a fault where something is read unless a check names a line
pub found-refused : {A : Type 0} (check : Option SourceFault) (later : A) (fault : SourceFault) → Err fault ≡ unless check (Ok later) → check ≡ Some fault
found-refused None later fault e = cc
found-refused (Some other) later fault e = cc

-- what two readings give, one after the other
abbrev pub BothGive : {A B : Type 0} → Result A SourceFault → Result B SourceFault → Result (A × B) SourceFault → Type 0
BothGive {A} {B} first second found = ◌≡◌ {A = Result (A × B) SourceFault} found (and_then {B = A × B} (λ x. and_then {B = A × B} (λ y. Ok (x, y)) second) first)

-- their fault is that of what goes on behind them
pub both-refused : {A B C : Type 0} (first : Result A SourceFault) (second : Result B SourceFault) (next : A → B → Result C SourceFault) (fault : SourceFault)
    → BothGive first second (Err fault) → and_then (λ x. and_then (next x) second) first ≡ Err fault
both-refused (Err f) second next fault e = cc
both-refused (Ok x) (Err f) next fault e = cc
both-refused (Ok x) (Ok y) next fault e = cc

pub both-first : {A B : Type 0} (first : Result A SourceFault) (second : Result B SourceFault) (x : A) (y : B) → BothGive first second (Ok (x, y)) → first ≡ Ok x
both-first (Err f) second x y e = cc
both-first (Ok a) (Err f) x y e = cc
both-first {A} {B} (Ok a) (Ok b) x y e = ap (λ p. Ok (first p)) (sym e)
  where
    first : Result (A × B) SourceFault → A
    first (Ok p) = p.0
    first (Err f) = x

pub both-second : {A B : Type 0} (first : Result A SourceFault) (second : Result B SourceFault) (x : A) (y : B) → BothGive first second (Ok (x, y)) → second ≡ Ok y
both-second (Err f) second x y e = cc
both-second (Ok a) (Err f) x y e = cc
both-second {A} {B} (Ok a) (Ok b) x y e = ap (λ p. Ok (second p)) (sym e)
  where
    second : Result (A × B) SourceFault → B
    second (Ok p) = p.1
    second (Err f) = y

-- what is read of the layers: the layer of each object, and how many layers there are
abbrev pub Placed : Option SourceFault → List ℕ → ℕ → Result (List ℕ × ℕ) SourceFault → Type 0
Placed check layers depth found = ◌≡◌ {A = Result (List ℕ × ℕ) SourceFault} found (unless {A = List ℕ × ℕ} check (Ok (layers, depth)))

pub placed-given : (check : Option SourceFault) (layers placed : List ℕ) (depth count : ℕ) → check ≡ None → placed ≡ layers → count ≡ depth → Placed check layers depth (Ok (placed, count))
placed-given check layers placed depth count none same long = rw (none, same, long) refl

pub placed-hit : (check : Option SourceFault) (layers : List ℕ) (depth : ℕ) (fault : SourceFault) → check ≡ Some fault → Placed check layers depth (Err fault)
placed-hit check layers depth fault some = rw some refl

pub placed-none : (check : Option SourceFault) (layers placed : List ℕ) (depth count : ℕ) → Placed check layers depth (Ok (placed, count)) → check ≡ None
placed-none None layers placed depth count e = refl
placed-none (Some fault) layers placed depth count e = cc

pub placed-layers : (check : Option SourceFault) (layers placed : List ℕ) (depth count : ℕ) → Placed check layers depth (Ok (placed, count)) → placed ≡ layers
placed-layers None layers placed depth count e = ap first e
  where
    first : Result (List ℕ × ℕ) SourceFault → List ℕ
    first (Ok p) = p.0
    first (Err fault) = layers
placed-layers (Some fault) layers placed depth count e = cc

pub placed-depth : (check : Option SourceFault) (layers placed : List ℕ) (depth count : ℕ) → Placed check layers depth (Ok (placed, count)) → count ≡ depth
placed-depth None layers placed depth count e = ap second e
  where
    second : Result (List ℕ × ℕ) SourceFault → ℕ
    second (Ok p) = p.1
    second (Err fault) = depth
placed-depth (Some fault) layers placed depth count e = cc

pub placed-refused : (check : Option SourceFault) (layers : List ℕ) (depth : ℕ) (fault : SourceFault) → Placed check layers depth (Err fault) → check ≡ Some fault
placed-refused None layers depth fault e = cc
placed-refused (Some other) layers depth fault e = cc
