-- The definitions of the lines so far.
use Rattle.std.proofs.Common.{◌≡◌, ℕ, ◌<◌, ◌+◌, false, List, [], ◌∷◌, ◌++◌, length, get_or, take, refl, ap, sym, ◌∙◌, arith, rules, true, Bool, ◌&&◌, ◌==◌, true≢false}
use Rattle.std.specs.Prelude.{None, nat_lt, if◌then◌else◌}
use Rattle.std.specs.List.{filter_map, list_all, position_or_len}
use Rattle.std.specs.Char.{is_whitespace}
use Rattle.std.proofs.lemmas.Bool.{eqb-true}
use Rattle.pz_names.specs.Objects.{is_blank}
use Rattle.std.proofs.lemmas.List.Elements.{filter_map-append}
use Rattle.pz_names.specs.Legend.{definition_of, definitions_of, misnames, misnames_by, defined_names, sides}
use Rattle.pz_base.proofs.ListLemmas.{take-next}
use Rattle.pz_text.specs.declared.line.Line.{Line}

pub definitions_of-more : (lines : List Line) (i : ℕ) (x : Line) → i < length lines → x ≡ get_or lines i x
    → definitions_of (take (i + 1) lines) ≡ definitions_of (take i lines) ++ definitions_of (x ∷ [])
definitions_of-more lines i x lt is = ap (filter_map definition_of) (take-next lines i x lt is) ∙ filter_map-append definition_of (take i lines) (x ∷ [])

pub misnames-there : (objects names : List (List ℕ)) (before : List Line) (x : Line) → names ≡ objects ++ defined_names before
    → misnames objects before x ≡ (if is_blank x then None else misnames_by names (definition_of x))
misnames-there objects names before x there = ap (λ t. if is_blank x then None else misnames_by t (definition_of x)) (sym there)

-- a blank line holds no definition
spaces : (cs : List ℕ) → list_all is_whitespace cs ≡ true → position_or_len (λ d. d == 61) cs ≡ length cs
spaces [] h = refl
spaces (c ∷ cs) h = by (is_whitespace c) refl h (c == 61) refl (spaces cs)
  where
    by : (a : Bool) → is_whitespace c ≡ a → (a && list_all is_whitespace cs) ≡ true → (b : Bool) → (c == 61) ≡ b
        → (list_all is_whitespace cs ≡ true → position_or_len (λ d. d == 61) cs ≡ length cs)
        → position_or_len (λ d. d == 61) (c ∷ cs) ≡ length (c ∷ cs)
    by false e h b q rest = cc
    by true e h true q rest = absurd (true≢false (sym e ∙ ap is_whitespace (eqb-true c 61 q)))
    by true e h false q rest = let more = rest h in rw (q, more) (omega arith)

unspoken : (cs : List ℕ) → list_all is_whitespace cs ≡ true → sides cs ≡ None
unspoken [] h = refl
unspoken (c ∷ cs) h = by (is_whitespace c) h
  where
    by : (a : Bool) → (a && list_all is_whitespace cs) ≡ true → sides (c ∷ cs) ≡ None
    by false h = cc
    by true h =
        let all = spaces cs h in
        let none : nat_lt (position_or_len (λ d. d == 61) cs) (length cs) ≡ false = search rules in
        rw none refl

pub definitions_of-blank : (x : Line) → is_blank x ≡ true → definitions_of (x ∷ []) ≡ []
definitions_of-blank x blank = rw (unspoken x.text blank) refl
