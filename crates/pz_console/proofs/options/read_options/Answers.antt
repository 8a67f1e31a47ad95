use Rattle.std.proofs.Common.{◌≡◌, ◌∙◌, ap, sym, subst, refl, codes, map, string_bytes, true, List, [], ◌∷◌, Option, None, inl, inr}
use Rattle.clap.specs.Words.{App, Kinds, IsAmong, kind_of, Text, fault_of, found_of, first_value, first_of, is_simple, is_simple_and_free, matches_of, rows_of}
use Rattle.clap.proofs.WalkLemmas.{first_value-rows}
use Rattle.clap.specs.declared.error.kind.ErrorKind.{ErrorKind}
use Rattle.clap.specs.declared.parser.matches.Found.{Found}
use Rattle.pz_console.specs.declared.options.Chosen.{Chosen}
use Rattle.pz_console.specs.Options.{command, options_of, choice_in, choice_of, without_fault}
use Rattle.pz_console.proofs.options.read_options.Goals as goal

free : is_simple_and_free command ≡ true
free = refl

simple : is_simple command ≡ true
simple = refl

-- the words choose what is in clap's matches, where it finds no fault
taken : (words : List Text) → fault_of command words ≡ [] → options_of words ≡ choice_in (matches_of command words)
unfolding options_of
taken words e = rw e refl

stopped : (kinds : Kinds) (kind : ErrorKind) (choice : Option Chosen) → IsAmong kind kinds → without_fault kinds choice ≡ None
stopped [] kind choice h = absurd h
stopped (k ∷ ks) kind choice h = refl

refused : (words : List Text) (kind : ErrorKind) → IsAmong kind (fault_of command words) → options_of words ≡ None
unfolding options_of
refused words kind h = stopped (fault_of command words) kind (choice_in (matches_of command words)) h

pub returns-in-Err-clause-refused : goal.returns-in-Err-clause-refused
returns-in-Err-clause-refused c = λ other.
    let words = map string_bytes c.args.words.now in
    let made = c.in-Ok.ensures in
    elim (c.in-Err.ensures.kinds (ap is_simple_and_free made ∙ free)) [
      | inl memory ↦ absurd (other (c.refused.ensures.1 memory))
      | inr among ↦ refused words _ (subst (λ (a : App). IsAmong (kind_of c.in-Err.error) (fault_of a words)) made among)
    ]

-- what clap's matches hold is what the words choose
choice_found : (words : List Text) (made : App) (found : Found) → made ≡ command → rows_of found ≡ matches_of made words → fault_of made words ≡ []
    → choice_of (first_value found (codes "workers")) (first_value found (codes "order")) (first_value found (codes "file")) ≡ options_of words
choice_found words made found is rows none =
    let here : rows_of found ≡ matches_of command words = rows ∙ ap (λ (a : App). matches_of a words) is in
    let value : (id : Text) → first_value found id ≡ first_of id (matches_of command words) = λ id. first_value-rows found id ∙ ap (first_of id) here in
    rw (value (codes "workers"), value (codes "order"), value (codes "file")) (sym (taken words (sym (ap (λ (a : App). fault_of a words) is) ∙ none)))

pub returns-in-Ok-Some-clause-chosen : goal.returns-in-Ok-Some-clause-chosen
returns-in-Ok-Some-clause-chosen c =
    let parse = c.in-Ok-try_get_matches_from.ensures in
    let made = c.in-Ok.ensures in
    let is = choice_found _ _ (found_of c.in-Ok-try_get_matches_from.matches) made (parse.matches (ap is_simple made ∙ simple)).0 (parse.kinds (ap is_simple_and_free made ∙ free)) in
    sym is ∙ sym c.in-Ok-Some.ensures.chosen ∙ c.in-Ok-Some.field-0-is

pub returns-in-Ok-None-clause-refused : goal.returns-in-Ok-None-clause-refused
returns-in-Ok-None-clause-refused c = λ other.
    let parse = c.in-Ok-try_get_matches_from.ensures in
    let made = c.in-Ok.ensures in
    let is = choice_found _ _ (found_of c.in-Ok-try_get_matches_from.matches) made (parse.matches (ap is_simple made ∙ simple)).0 (parse.kinds (ap is_simple_and_free made ∙ free)) in
    sym is ∙ sym c.in-Ok-None.ensures.chosen ∙ c.in-Ok-None.field-0-is
