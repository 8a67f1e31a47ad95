-- A file that is too long.
use Rattle.std.proofs.Common.{◌≡◌, ◌≢◌, ◌≤◌, ℕ, List, length, Option, Some, None, IfSome, replicate, Err, refl, arith}
use Rattle.std.proofs.lemmas.List.{length-replicate}
use Rattle.pz_entries.specs.declared.fault.FileFault.TheVariants.{Memory, TooMany}
use Rattle.pz_engine.specs.Sessions.{sessions_in}
use Rattle.pz_engine.proofs.Deciding.{too_long}
use Rattle.pz_serving.specs.Serving.{AreOf}

-- some file is too long
some_long : (n : ℕ) → 16777217 ≤ n → (bytes : List ℕ) × AreOf None bytes × (TooMany ≢ Memory → sessions_in bytes ≡ Err TooMany)
some_long n h =
    let long : length (replicate n 0) ≡ n = length-replicate {A = ℕ} n 0 in
    (replicate n 0, tt, λ other. too_long (replicate n 0) (omega (arith, h, long)))

-- an input is too long: where its bytes are not known, those of some file are
pub too_long_if : (input : Option (List ℕ)) → IfSome input (λ bytes. 16777217 ≤ length bytes) → (bytes : List ℕ) × AreOf input bytes × (TooMany ≢ Memory → sessions_in bytes ≡ Err TooMany)
too_long_if None h = some_long 16777217 (omega arith)
too_long_if (Some bytes) h = (bytes, refl, λ other. too_long bytes h)
