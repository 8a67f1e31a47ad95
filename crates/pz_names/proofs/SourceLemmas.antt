-- The fault of a legend, check by check, from what the checks answered.
use Rattle.std.proofs.Common.{◌≡◌, ℕ, List, [], length, ap, sym, subst, ◌∙◌, false, arith}
use Rattle.std.specs.Prelude.{Option, Some, None}
use Rattle.std.specs.List.{filter_map}
use Rattle.pz_base.specs.Fault.{first_fault, or_else}
use Rattle.pz_base.specs.declared.fault.SourceFault.{SourceFault}
use Rattle.pz_names.specs.Objects.{object_names}
use Rattle.pz_names.specs.Legend.{line_at, speaks_of_unknown}
use Rattle.pz_names.specs.Meaning.{meanings_of, StaysInside}
use Rattle.pz_names.specs.Denotation.{values_of, value_at, known_at}
use Rattle.pz_names.specs.Cycles.{is_on_cycle, reaches_itself}
use Rattle.pz_names.specs.Kinds.{kind_in, mixes}
use Rattle.pz_names.specs.Values.{names_of_source, meanings_of_source, fault_of_definitions}
use Rattle.pz_names.specs.declared.name_line.NameLine.{NameLine}
use Rattle.pz_names.specs.declared.legend.Definition.{Definition}
use Rattle.pz_game.specs.declared.denotation.Denotation.{Denotation}
use Rattle.pz_base.proofs.FaultLemmas.{or_else-first, or_else-later}
use Rattle.pz_names.proofs.ValueLemmas.{stays_inside, no_circle, length-meanings, values-known, values-length}

module _ (objects : List NameLine) (definitions : List Definition) (names : List (List ℕ)) (named : names ≡ names_of_source objects definitions) (first : ℕ) (counted : first ≡ length (object_names objects)) where
  abbrev pub unknown : Option SourceFault
  unknown = first_fault line_at (speaks_of_unknown names) [] definitions

  abbrev pub circular : Option SourceFault
  circular = first_fault line_at (reaches_itself first (meanings_of objects names definitions)) [] definitions

  abbrev pub mixed : Option SourceFault
  mixed = first_fault line_at (mixes (kind_in names (values_of (meanings_of objects names definitions)))) [] definitions

  -- the fault by the names and the number that were read
  by_names : List (List ℕ) → ℕ → Option SourceFault
  by_names ns n =
      or_else (first_fault line_at (speaks_of_unknown ns) [] definitions)
      (or_else (first_fault line_at (reaches_itself n (meanings_of objects ns definitions)) [] definitions)
      (first_fault line_at (mixes (kind_in ns (values_of (meanings_of objects ns definitions)))) [] definitions))

  whole : fault_of_definitions objects definitions ≡ or_else unknown (or_else circular mixed)
  unfolding by_names
  whole = ap (λ ns. by_names ns (length (object_names objects))) (sym named) ∙ ap (by_names names) (sym counted)

  pub meant : meanings_of objects names definitions ≡ meanings_of_source objects definitions
  meant = ap (λ ns. meanings_of objects ns definitions) named

  pub at_unknown : (fault : SourceFault) → unknown ≡ Some fault → fault_of_definitions objects definitions ≡ Some fault
  at_unknown fault a = whole ∙ or_else-first unknown (or_else circular mixed) fault a

  pub at_circle : (fault : SourceFault) → unknown ≡ None → circular ≡ Some fault → fault_of_definitions objects definitions ≡ Some fault
  at_circle fault a b = whole ∙ (or_else-later unknown (or_else circular mixed) a ∙ or_else-first circular mixed fault b)

  pub at_mixture : (answer : Option SourceFault) → unknown ≡ None → circular ≡ None → mixed ≡ answer → fault_of_definitions objects definitions ≡ answer
  at_mixture answer a b e = whole ∙ (or_else-later unknown (or_else circular mixed) a ∙ (or_else-later circular mixed b ∙ e))

  pub inside : unknown ≡ None → StaysInside (meanings_of objects names definitions)
  inside a = subst StaysInside (sym meant) (stays_inside objects definitions (ap (λ ns. first_fault line_at (speaks_of_unknown ns) [] definitions) (sym named) ∙ a))

  pub acyclic : circular ≡ None → (k : ℕ) → is_on_cycle (meanings_of objects names definitions) k ≡ false
  acyclic b k =
      ap (λ m. is_on_cycle m k) meant
      ∙ no_circle objects definitions
      (ap (λ n. first_fault line_at (reaches_itself n (meanings_of_source objects definitions)) [] definitions) (sym counted)
      ∙ (ap (λ m. first_fault line_at (reaches_itself first m) [] definitions) (sym meant) ∙ b)) k

  -- what the table knows is what the names denote
  pub listed : (known : List (Option Denotation)) → length known ≡ length (meanings_of objects names definitions)
      → ((k : ℕ) → known_at known k ≡ value_at (length (meanings_of objects names definitions)) (meanings_of objects names definitions) k)
      → unknown ≡ None → circular ≡ None → filter_map (λ entry. entry) known ≡ values_of (meanings_of objects names definitions)
  listed known long each a b = values-known (meanings_of objects names definitions) (inside a) (acyclic b) known (omega (arith, long)) each

  pub counted-values : unknown ≡ None → circular ≡ None → length (values_of (meanings_of objects names definitions)) ≡ length names
  counted-values a b =
      values-length (meanings_of objects names definitions) (inside a) (acyclic b)
      ∙ (ap length meant ∙ (length-meanings objects definitions ∙ ap length (sym named)))
