use Rattle.std.proofs.Common.{◌≡◌, inl, inr, ℕ, ◌<◌, ◌≤◌, Bool, false, Option, Some, None, arith}
use Rattle.std.proofs.lemmas.Bool.{cases_lt}
use Rattle.pz_sets.specs.Next.{IsNext}
use Rattle.pz_bare.proofs.BareLevel.next_change_after.Goals as goal

-- where none passes up to a number, the next one from there on is the next
next_behind : (test : ℕ → Bool) (from mid end : ℕ) (found : Option ℕ) → from ≤ mid → ((number : ℕ) → from ≤ number → number < mid → test number ≡ false) → IsNext test mid end found → IsNext test from end found
next_behind test from mid end None low none next = λ number above below. elim (cases_lt number mid) [
  | inl before ↦ none number above before
  | inr past ↦ next number past below
]
next_behind test from mid end (Some found) low none next = (
  omega (arith, low, next.0),
  next.1,
  next.2,
  λ number above below. elim (cases_lt number mid) [
    | inl before ↦ none number above before
    | inr past ↦ next.3 number past below
  ],
)

pub returns-in-Err-clause-next : goal.returns-in-Err-clause-next
returns-in-Err-clause-next c =
    let clear = c.in-Err.ensures _ _ c.requires.known in
    next_behind _ c.args.from c.in-Err.behind _ c.learn_next.result clear.0 clear.1 c.learn_next.ensures.next
