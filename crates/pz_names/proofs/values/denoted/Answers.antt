use Rattle.std.proofs.Common.{◌≡◌, ℕ, [], length, ap, sym, subst, ◌∙◌}
use Rattle.std.specs.Prelude.{None, Some, Ok}
use Rattle.pz_base.specs.Fault.{first_fault}
use Rattle.pz_base.proofs.FaultLemmas.{unless-pass, unless-hit}
use Rattle.pz_names.specs.Values.{meanings_of_source, fault_of_definitions}
use Rattle.pz_names.specs.Legend.{line_at}
use Rattle.pz_names.specs.Meaning.{meanings_of, StaysInside}
use Rattle.pz_names.specs.Denotation.{known_at, value_at, values_of}
use Rattle.pz_names.specs.Cycles.{reaches_itself}
use Rattle.pz_names.specs.Kinds.{kind_in, mixes}
use Rattle.pz_names.proofs.SourceLemmas.{inside, circular, meant, at_mixture, listed, counted-values}
use Rattle.pz_names.proofs.values.denoted.Goals as goal

pub returns-in-Some-mixture-clause-denoted : goal.returns-in-Some-mixture-clause-denoted
returns-in-Some-mixture-clause-denoted c =
    let objects = c.args.objects.now in
    let definitions = c.args.definitions.now in
    let names = c.args.names.now in
    let named = c.requires.named in
    let first = c.requires.first in
    let read : c.as_slice-meanings.result.now ≡ meanings_of objects names definitions = c.as_slice-meanings.ensures.value ∙ c.in_ok-meanings.ensures in
    let a = sym c.in_default.ensures.first in
    let b : circular objects definitions names named c.args.first first ≡ None =
    ap (λ m. first_fault line_at (reaches_itself c.args.first m) [] definitions) (sym read) ∙ (sym c.in_ok-fault.ensures.first ∙ c.in_default-2.is) in
    let long : length c.in_ok-known.known.items ≡ length (meanings_of objects names definitions) = subst (λ m. length c.in_ok-known.known.items ≡ length m) read c.in_ok-known.ensures.count in
    let each : (k : ℕ) → known_at c.in_ok-known.known.items k ≡ value_at (length (meanings_of objects names definitions)) (meanings_of objects names definitions) k =
    λ k. c.in_ok-known.ensures.each k ∙ ap (λ m. value_at (length m) m k) read in
    let values : c.in_ok-values.values.items ≡ values_of (meanings_of objects names definitions) = c.in_ok-values.ensures ∙ listed objects definitions names named c.args.first first c.in_ok-known.known.items long each a b in
    let tabled : c.as_slice-2.result.now ≡ values_of (meanings_of objects names definitions) = c.as_slice-2.ensures.value ∙ values in
    let e : fault_of_definitions objects definitions ≡ Some c.in-Some-mixture.fault =
    at_mixture objects definitions names named c.args.first first (Some c.in-Some-mixture.fault) a b
    (ap (λ t. first_fault line_at (mixes (kind_in names t)) [] definitions) (sym tabled) ∙ sym c.in-Some-mixture.ensures.first) in
    sym (unless-hit (fault_of_definitions objects definitions) (Ok (values_of (meanings_of_source objects definitions))) c.in-Some-mixture.fault e)

pub returns-clause-denoted : goal.returns-clause-denoted
returns-clause-denoted c =
    let objects = c.args.objects.now in
    let definitions = c.args.definitions.now in
    let names = c.args.names.now in
    let named = c.requires.named in
    let first = c.requires.first in
    let read : c.as_slice-meanings.result.now ≡ meanings_of objects names definitions = c.as_slice-meanings.ensures.value ∙ c.in_ok-meanings.ensures in
    let a = sym c.in_default.ensures.first in
    let b : circular objects definitions names named c.args.first first ≡ None =
    ap (λ m. first_fault line_at (reaches_itself c.args.first m) [] definitions) (sym read) ∙ (sym c.in_ok-fault.ensures.first ∙ c.in_default-2.is) in
    let long : length c.in_ok-known.known.items ≡ length (meanings_of objects names definitions) = subst (λ m. length c.in_ok-known.known.items ≡ length m) read c.in_ok-known.ensures.count in
    let each : (k : ℕ) → known_at c.in_ok-known.known.items k ≡ value_at (length (meanings_of objects names definitions)) (meanings_of objects names definitions) k =
    λ k. c.in_ok-known.ensures.each k ∙ ap (λ m. value_at (length m) m k) read in
    let values : c.in_ok-values.values.items ≡ values_of (meanings_of objects names definitions) = c.in_ok-values.ensures ∙ listed objects definitions names named c.args.first first c.in_ok-known.known.items long each a b in
    let tabled : c.as_slice-2.result.now ≡ values_of (meanings_of objects names definitions) = c.as_slice-2.ensures.value ∙ values in
    let none : fault_of_definitions objects definitions ≡ None =
    at_mixture objects definitions names named c.args.first first None a b
    (ap (λ t. first_fault line_at (mixes (kind_in names t)) [] definitions) (sym tabled) ∙ sym c.in_default-mixture.ensures.first) in
    ap (λ found. Ok found) (values ∙ ap values_of (meant objects definitions names named c.args.first first))
    ∙ sym (unless-pass (fault_of_definitions objects definitions) (Ok (values_of (meanings_of_source objects definitions))) none)

pub returns-clause-all : goal.returns-clause-all
returns-clause-all c =
    let objects = c.args.objects.now in
    let definitions = c.args.definitions.now in
    let names = c.args.names.now in
    let named = c.requires.named in
    let first = c.requires.first in
    let read : c.as_slice-meanings.result.now ≡ meanings_of objects names definitions = c.as_slice-meanings.ensures.value ∙ c.in_ok-meanings.ensures in
    let a = sym c.in_default.ensures.first in
    let b : circular objects definitions names named c.args.first first ≡ None =
    ap (λ m. first_fault line_at (reaches_itself c.args.first m) [] definitions) (sym read) ∙ (sym c.in_ok-fault.ensures.first ∙ c.in_default-2.is) in
    let long : length c.in_ok-known.known.items ≡ length (meanings_of objects names definitions) = subst (λ m. length c.in_ok-known.known.items ≡ length m) read c.in_ok-known.ensures.count in
    let each : (k : ℕ) → known_at c.in_ok-known.known.items k ≡ value_at (length (meanings_of objects names definitions)) (meanings_of objects names definitions) k =
    λ k. c.in_ok-known.ensures.each k ∙ ap (λ m. value_at (length m) m k) read in
    let values : c.in_ok-values.values.items ≡ values_of (meanings_of objects names definitions) = c.in_ok-values.ensures ∙ listed objects definitions names named c.args.first first c.in_ok-known.known.items long each a b in
    ap length values ∙ counted-values objects definitions names named c.args.first first a b

pub denotations-requires : goal.denotations-requires
denotations-requires c =
    let objects = c.args.objects.now in
    let definitions = c.args.definitions.now in
    let names = c.args.names.now in
    let read : c.as_slice-meanings.result.now ≡ meanings_of objects names definitions = c.as_slice-meanings.ensures.value ∙ c.in_ok-meanings.ensures in
    subst StaysInside (sym read) (inside objects definitions names c.requires.named c.args.first c.requires.first (sym c.in_default.ensures.first))

pub circle-requires-clause-inside : goal.circle-requires-clause-inside
circle-requires-clause-inside c =
    let objects = c.args.objects.now in
    let definitions = c.args.definitions.now in
    let names = c.args.names.now in
    let read : c.as_slice-meanings.result.now ≡ meanings_of objects names definitions = c.as_slice-meanings.ensures.value ∙ c.in_ok-meanings.ensures in
    subst StaysInside (sym read) (inside objects definitions names c.requires.named c.args.first c.requires.first (sym c.in_default.ensures.first))
