use Rattle.std.proofs.Common.{◌≡◌, ℕ, ◌==◌, Bool, true, false, refl, ap, sym, ◌∙◌}
use Rattle.std.specs.Prelude.{if◌then◌else◌}
use Rattle.std.proofs.lemmas.Bool.{eqb-true}
use Rattle.pz_names.specs.Denotation.{known_at, known_after}
use Rattle.pz_names.proofs.RoundLemmas.{nothing-settled, something-settled, known_at-set}
use Rattle.pz_names.proofs.denotation.settle.Goals as goal

pub returns-then-is_settled-clause-each : goal.returns-then-is_settled-clause-each
returns-then-is_settled-clause-each c = λ k. by k (k == c.args.number) refl
  where
    by : (k : ℕ) (b : Bool) → (k == c.args.number) ≡ b → known_at c.args.known.now k ≡ (if b then known_after (known_at c.args.known.now) c.args.number c.args.meaning.now else known_at c.args.known.now k)
    by k false e = refl
    by k true e =
        ap (known_at c.args.known.now) (eqb-true k c.args.number e)
        ∙ sym (nothing-settled (known_at c.args.known.now) c.args.number c.args.meaning.now (sym c.is_settled.ensures ∙ c.if-is_settled.true))

pub returns-clause-each : goal.returns-clause-each
returns-clause-each c = λ k.
    known_at-set c.args.known.now c.args.number c.in_ok-found.found c.requires k
    ∙ ap (λ o. if k == c.args.number then o else known_at c.args.known.now k)
    (c.in_ok-found.ensures ∙ sym (something-settled (known_at c.args.known.now) c.args.number c.args.meaning.now (sym c.is_settled.ensures ∙ c.if-is_settled.false)))
