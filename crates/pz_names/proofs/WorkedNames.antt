-- Worked cases of OBJECTS and LEGEND: what names denote, and which lines are refused.
use Rattle.std.proofs.Common.{◌≡◌, ℕ, suc, true, false, List, [], ◌∷◌, ◌++◌, Option, Some, None, Ok, Err, refl}
use Rattle.std.specs.Prelude.{codes, map}
use Rattle.std.specs.Char.{encode_utf8}
use Rattle.pz_base.specs.declared.fault.Code.TheVariants as code
use Rattle.pz_text.specs.declared.line.Line.{Line}
use Rattle.pz_text.specs.declared.line.Section.{Section}
use Rattle.pz_text.specs.declared.line.Section.TheVariants.{Objects, Legend}
use Rattle.pz_names.specs.Cycles.{is_on_cycle, reaches}
use Rattle.pz_names.specs.Denotation.{value_at, values_of}
use Rattle.pz_names.specs.Kinds.{is_mixed, kind_in}
use Rattle.pz_names.specs.Legend.{definition_of}
use Rattle.pz_names.specs.Meaning.{meanings_of}
use Rattle.pz_names.specs.Objects.{objects_of}
use Rattle.pz_names.specs.Values.{fault_of_legend}
use Rattle.pz_game.specs.declared.denotation.Denotation.{Denotation}
use Rattle.pz_game.specs.declared.denotation.Kind.{Kind}
use Rattle.pz_game.specs.declared.denotation.Kind.TheVariants.{Object, Property, Aggregate}
use Rattle.pz_names.specs.declared.legend.Said.{Said}
use Rattle.pz_names.specs.declared.legend.Said.TheVariants.{Same, AllOf, AnyOf}
use Rattle.pz_names.specs.declared.legend.Definition.{Definition}
use Rattle.pz_names.specs.declared.meaning.Meaning.{Meaning}
use Rattle.pz_names.specs.declared.meaning.Meaning.TheVariants as meaning
use Rattle.pz_names.specs.declared.name_line.NameLine.{NameLine}

-- lines of a section, numbered
abbrev lines_at : Section → ℕ → List (List ℕ) → List Line
lines_at section number [] = []
lines_at section number (text ∷ texts) =
    record { number = number; section = section; is_heading = false; text = text } ∷ lines_at section (suc number) texts

abbrev line : List ℕ → Line
line text = record { number = 20; section = Legend; is_heading = false; text = text }

abbrev defines : ℕ → List ℕ → Said → Definition
defines number name said = record { number = number; name = name; said = said }

abbrev named : ℕ → List (List ℕ) → NameLine
named number names = record { number = number; names = names }

abbrev denotes : Kind → List ℕ → ℕ → Denotation
denotes kind members number = record { kind = kind; members = members; number = number }

-- three objects, the first with two names
abbrev things : List NameLine
things = named 3 (codes "wall" ∷ codes "#" ∷ []) ∷ named 6 (codes "crate" ∷ []) ∷ named 9 (codes "spike" ∷ []) ∷ []

abbrev thing_names : List (List ℕ)
thing_names = codes "wall" ∷ codes "#" ∷ codes "crate" ∷ codes "spike" ∷ []

-- OBJECTS

-- the sprite directly follows the colours: behind a blank line a row of digits is the name of the next object
sprite_behind_a_blank_line : objects_of (lines_at Objects 3 (codes "a" ∷ codes "grey" ∷ [] ∷ codes "00000" ∷ codes "grey" ∷ []))
    ≡ Ok (named 3 (codes "a" ∷ []) ∷ named 6 (codes "00000" ∷ []) ∷ [])
unfolding encode_utf8
sprite_behind_a_blank_line = refl

-- five rows, and one of them has six digits
wide_row : objects_of (lines_at Objects 3
    (codes "a" ∷ codes "grey" ∷ codes "00000" ∷ codes "000000" ∷ codes "00000" ∷ codes "00000" ∷ codes "00000" ∷ []))
    ≡ Err (record { code = code.BadObject; line = 3 })
unfolding encode_utf8
wide_row = refl

-- the lines of LEGEND

-- the cut is at the first `=` that isn't the first character, and names are folded
equals_sign_as_a_name : definition_of (line (codes "= = Wall")) ≡ Some (defines 20 (codes "=") (Same (codes "wall")))
unfolding encode_utf8
equals_sign_as_a_name = refl

-- `and` alone on the right is a name
synonym_of_and : definition_of (line (codes "x = and")) ≡ Some (defines 20 (codes "x") (Same (codes "and")))
unfolding encode_utf8
synonym_of_and = refl

-- a joint is one by its place alone
or_as_a_member : definition_of (line (codes "x=or OR and")) ≡ Some (defines 20 (codes "x") (AnyOf (codes "or" ∷ codes "and" ∷ [])))
unfolding encode_utf8
or_as_a_member = refl

-- `and` mixed with `or`
mixed_joints : definition_of (line (codes "x = a and b or c")) ≡ None
unfolding encode_utf8
mixed_joints = refl

-- a joint with nothing behind it, and a second `=`
open_joint : definition_of (line (codes "x = a or")) ≡ None
unfolding encode_utf8
open_joint = refl

second_equals_sign : definition_of (line (codes "x = a = b")) ≡ None
unfolding encode_utf8
second_equals_sign = refl

-- a name that an object has is defined once more, in capital letters
object_name_again : fault_of_legend things (lines_at Legend 20 (codes "x = wall" ∷ [] ∷ codes "CRATE = wall" ∷ []))
    ≡ Some (record { code = code.Duplicate; line = 22 })
unfolding encode_utf8
object_name_again = refl

-- a line may name what a later line defines
later_line : fault_of_legend things (lines_at Legend 20 (codes "x = y or crate" ∷ codes "y = spike" ∷ [])) ≡ None
unfolding encode_utf8 value_at reaches
later_line = refl

-- a name that is nowhere goes before a circle above it
unknown_goes_before_a_circle : fault_of_legend things (lines_at Legend 20 (codes "x = x" ∷ codes "y = ghost" ∷ []))
    ≡ Some (record { code = code.Unknown; line = 21 })
unfolding encode_utf8
unknown_goes_before_a_circle = refl

-- what the lines say

-- the second name of an object is that object too, under the number of the first; the definitions' names come behind
second_name : meanings_of things (thing_names ++ codes "x" ∷ []) (defines 20 (codes "x") (Same (codes "#")) ∷ [])
    ≡ meaning.Itself 0 0 ∷ meaning.Itself 0 0 ∷ meaning.Itself 1 2 ∷ meaning.Itself 2 3 ∷ meaning.Same 1 ∷ []
second_name = refl

-- a definition may name what a later one defines
later_name : meanings_of things (thing_names ++ codes "x" ∷ codes "y" ∷ [])
    (defines 20 (codes "x") (AnyOf (codes "y" ∷ codes "#" ∷ [])) ∷ defines 21 (codes "y") (AllOf (codes "spike" ∷ codes "wall" ∷ [])) ∷ [])
    ≡ meaning.Itself 0 0 ∷ meaning.Itself 0 0 ∷ meaning.Itself 1 2 ∷ meaning.Itself 2 3 ∷ meaning.AnyOf (5 ∷ 1 ∷ []) ∷ meaning.AllOf (3 ∷ 0 ∷ []) ∷ []
later_name = refl

-- what the names denote

-- three objects with a name each, and what further lines say, from the number 3 on
abbrev above : List Meaning → List Meaning
above more = meaning.Itself 0 0 ∷ meaning.Itself 1 1 ∷ meaning.Itself 2 2 ∷ more

abbrev all_values : List Denotation → List Denotation
all_values more = denotes Object (0 ∷ []) 0 ∷ denotes Object (1 ∷ []) 1 ∷ denotes Object (2 ∷ []) 2 ∷ more

-- 3 = 1 or 1: a member that is mentioned twice stands once, and a property of one member stays a property
twice_mentioned : values_of (above (meaning.AnyOf (1 ∷ 1 ∷ []) ∷ [])) ≡ all_values (denotes Property (1 ∷ []) 3 ∷ [])
unfolding value_at
twice_mentioned = refl

-- 3 = 4 or 0, 4 = 2 or 0: a property within a property stands for its members, in the order of first mention
flattened : values_of (above (meaning.AnyOf (4 ∷ 0 ∷ []) ∷ meaning.AnyOf (2 ∷ 0 ∷ []) ∷ []))
    ≡ all_values (denotes Property (2 ∷ 0 ∷ []) 3 ∷ denotes Property (2 ∷ 0 ∷ []) 4 ∷ [])
unfolding value_at
flattened = refl

-- 3 = 4, 4 = 5, 5 = 0 and 2: a synonym of a synonym has the kind, the members and the number of what it stands for
synonym_of_a_synonym : values_of (above (meaning.Same 4 ∷ meaning.Same 5 ∷ meaning.AllOf (0 ∷ 2 ∷ []) ∷ []))
    ≡ all_values (denotes Aggregate (0 ∷ 2 ∷ []) 5 ∷ denotes Aggregate (0 ∷ 2 ∷ []) 5 ∷ denotes Aggregate (0 ∷ 2 ∷ []) 5 ∷ [])
unfolding value_at
synonym_of_a_synonym = refl

-- 3 = 4, 4 = 3 or 0: names on a circle denote nothing
circle_without_a_value : values_of (above (meaning.Same 4 ∷ meaning.AnyOf (3 ∷ 0 ∷ []) ∷ [])) ≡ all_values []
unfolding value_at
circle_without_a_value = refl

-- names that reach themselves

-- 3 = 4, 4 = 5 or 0, 5 = 4: a circle through 4 and 5, to which 3 only leads
abbrev round_trip : List Meaning
round_trip = above (meaning.Same 4 ∷ meaning.AnyOf (5 ∷ 0 ∷ []) ∷ meaning.Same 4 ∷ [])

circle_of_two : map (is_on_cycle round_trip) (3 ∷ 4 ∷ 5 ∷ []) ≡ false ∷ true ∷ true ∷ []
unfolding reaches
circle_of_two = refl

-- 3 = 0 or 3: a name on its own right side
circle_of_one : is_on_cycle (above (meaning.AnyOf (0 ∷ 3 ∷ []) ∷ [])) 3 ≡ true
unfolding reaches
circle_of_one = refl

-- 3 = 4 or 5, 4 = 5, 5 = 0: two ways to one name are no circle
two_ways : is_on_cycle (above (meaning.AnyOf (4 ∷ 5 ∷ []) ∷ meaning.Same 5 ∷ meaning.Same 0 ∷ [])) 3 ≡ false
unfolding reaches
two_ways = refl

-- the line that only leads to the circle stands above it, and isn't named
leads_to_a_circle : fault_of_legend things (lines_at Legend 20 (codes "lead = there" ∷ codes "there = back" ∷ codes "back = there" ∷ []))
    ≡ Some (record { code = code.BadLegend; line = 21 })
unfolding encode_utf8 reaches
leads_to_a_circle = refl

-- kinds that don't fit together

-- wall is an object, thing a property, both an aggregate
abbrev kinds : List ℕ → Option Kind
kinds = kind_in (codes "wall" ∷ codes "thing" ∷ codes "both" ∷ [])
    (denotes Object (0 ∷ []) 0 ∷ denotes Property (0 ∷ []) 1 ∷ denotes Aggregate (0 ∷ []) 2 ∷ [])

aggregate_in_a_property : is_mixed kinds (AnyOf (codes "wall" ∷ codes "both" ∷ [])) ≡ true
aggregate_in_a_property = refl

property_in_an_aggregate : is_mixed kinds (AllOf (codes "thing" ∷ codes "wall" ∷ [])) ≡ true
property_in_an_aggregate = refl

-- a property in a property, and an aggregate in an aggregate
like_in_like : map (is_mixed kinds) (AnyOf (codes "thing" ∷ codes "wall" ∷ []) ∷ AllOf (codes "wall" ∷ codes "both" ∷ []) ∷ []) ≡ false ∷ false ∷ []
like_in_like = refl

-- a synonym of an aggregate is one: as a member of a property it is refused, at the property's line
synonym_in_a_property : fault_of_legend things (lines_at Legend 20 (codes "x = both or wall" ∷ codes "both = @" ∷ codes "@ = crate and wall" ∷ []))
    ≡ Some (record { code = code.Mixed; line = 20 })
unfolding encode_utf8 value_at reaches
synonym_in_a_property = refl

-- a property of one member is no object: an aggregate with it is refused too
single_in_an_aggregate : fault_of_legend things (lines_at Legend 20 (codes "x = crate or crate" ∷ codes "@ = x and wall" ∷ []))
    ≡ Some (record { code = code.Mixed; line = 21 })
unfolding encode_utf8 value_at reaches
single_in_an_aggregate = refl
