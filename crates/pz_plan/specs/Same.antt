-- When two words, names or mentions of a rule are the same.
use Rattle.std.specs.Prelude.{Bool, true, false, not, ◌&&◌, ◌||◌, ◌==◌, Option, Some, None}
use Rattle.pz_game.specs.Direction.{same_dir}
use Rattle.pz_grammar.specs.declared.token.Turn.{Turn}
use Rattle.pz_grammar.specs.declared.token.Turn.TheVariants as turn
use Rattle.pz_grammar.specs.declared.token.Class.{Class}
use Rattle.pz_grammar.specs.declared.token.Class.TheVariants.{Moving, Orthogonal, Horizontal, Vertical, Parallel, Perpendicular}
use Rattle.pz_grammar.specs.declared.token.Lead.{Lead}
use Rattle.pz_grammar.specs.declared.token.Lead.TheVariants as lead
use Rattle.pz_plan.specs.declared.plan.Subject.{Subject}
use Rattle.pz_plan.specs.declared.plan.Subject.TheVariants as subject
use Rattle.pz_plan.specs.declared.plan.Mention.{Mention}
use Rattle.pz_plan.specs.declared.spelling.Side.{Side}
use Rattle.pz_plan.specs.declared.spelling.Side.TheVariants as side

abbrev pub same_turn : Turn → Turn → Bool
same_turn turn.Up turn.Up = true
same_turn turn.Down turn.Down = true
same_turn turn.Back turn.Back = true
same_turn turn.Ahead turn.Ahead = true
same_turn _ _ = false

abbrev pub same_class : Class → Class → Bool
same_class Moving Moving = true
same_class Orthogonal Orthogonal = true
same_class Horizontal Horizontal = true
same_class Vertical Vertical = true
same_class Parallel Parallel = true
same_class Perpendicular Perpendicular = true
same_class _ _ = false

abbrev pub same_subject : Subject → Subject → Bool
same_subject (subject.Object a) (subject.Object b) = a == b
same_subject (subject.Property a) (subject.Property b) = a == b
same_subject _ _ = false

abbrev pub same_word : Lead Class → Lead Class → Bool
same_word lead.No lead.No = true
same_word lead.Stationary lead.Stationary = true
same_word (lead.Toward a) (lead.Toward b) = same_dir a b
same_word (lead.Turned a) (lead.Turned b) = same_turn a b
same_word (lead.OneOf a) (lead.OneOf b) = same_class a b
same_word _ _ = false

abbrev pub same_lead : Option (Lead Class) → Option (Lead Class) → Bool
same_lead None None = true
same_lead (Some a) (Some b) = same_word a b
same_lead _ _ = false

unfoldable pub same_mention : Mention → Mention → Bool
same_mention a b = same_lead a.lead b.lead && same_subject a.subject b.subject

-- a word for several directions
abbrev pub is_class : Option (Lead Class) → Bool
is_class (Some (lead.OneOf class)) = true
is_class _ = false

abbrev pub is_some_member : Subject → Bool
is_some_member (subject.Property property) = true
is_some_member (subject.Object object) = false

-- Whether a mention repeats one before it in its cell. On the left a mention with a choice never does, because each has a choice
-- of its own.
unfoldable pub says_the_same : Side → Mention → Mention → Bool
says_the_same side.Left a b = not (is_class a.lead || is_some_member a.subject) && same_mention a b
says_the_same side.Right a b = same_mention a b
