-- Mentions that say something new, one after the other.
use Rattle.std.proofs.Common.{◌≡◌, true, not, ◌||◌, List, [], ◌++◌, Option, Some, None, refl, ap, ◌∙◌}
use Rattle.std.proofs.lemmas.Bool.{and_parts, eqb-true}
use Rattle.std.proofs.lemmas.Grind.{fold-append}
use Rattle.pz_grammar.specs.declared.token.Turn.{Turn}
use Rattle.pz_grammar.specs.declared.token.Turn.TheVariants as turn
use Rattle.pz_grammar.specs.declared.token.Class.{Class}
use Rattle.pz_grammar.specs.declared.token.Class.TheVariants.{Moving, Orthogonal, Horizontal, Vertical, Parallel, Perpendicular}
use Rattle.pz_grammar.specs.declared.token.Lead.{Lead}
use Rattle.pz_grammar.specs.declared.token.Lead.TheVariants as lead
use Rattle.pz_plan.specs.declared.plan.Subject.{Subject}
use Rattle.pz_plan.specs.declared.plan.Subject.TheVariants as subject
use Rattle.pz_plan.specs.declared.plan.Mention.{Mention}
use Rattle.pz_plan.specs.declared.spelling.Side.{Side}
use Rattle.pz_plan.specs.declared.spelling.Side.TheVariants as side
use Rattle.pz_base.specs.Lists.{firsts, with_new, added_all}
use Rattle.pz_plan.specs.Same.{same_turn, same_class, same_word, same_lead, same_subject, same_mention, is_class, is_some_member, says_the_same}
use Rattle.pz_plan.proofs.Directions.{same_dir_is}
use Rattle.pz_plan.proofs.Firsts.{firsts-append}

same_turn_is : (a b : Turn) → same_turn a b ≡ true → a ≡ b
same_turn_is turn.Up turn.Up h = refl
same_turn_is turn.Down turn.Down h = refl
same_turn_is turn.Back turn.Back h = refl
same_turn_is turn.Ahead turn.Ahead h = refl
same_turn_is _ _ h = cc

same_class_is : (a b : Class) → same_class a b ≡ true → a ≡ b
same_class_is Moving Moving h = refl
same_class_is Orthogonal Orthogonal h = refl
same_class_is Horizontal Horizontal h = refl
same_class_is Vertical Vertical h = refl
same_class_is Parallel Parallel h = refl
same_class_is Perpendicular Perpendicular h = refl
same_class_is _ _ h = cc

same_word_is : (a b : Lead Class) → same_word a b ≡ true → a ≡ b
same_word_is lead.No lead.No h = refl
same_word_is lead.Stationary lead.Stationary h = refl
same_word_is (lead.Toward a) (lead.Toward b) h = ap lead.Toward (same_dir_is a b h)
same_word_is (lead.Turned a) (lead.Turned b) h = ap lead.Turned (same_turn_is a b h)
same_word_is (lead.OneOf a) (lead.OneOf b) h = ap lead.OneOf (same_class_is a b h)
same_word_is _ _ h = cc

same_lead_is : (a b : Option (Lead Class)) → same_lead a b ≡ true → a ≡ b
same_lead_is None None h = refl
same_lead_is (Some a) (Some b) h = ap Some (same_word_is a b h)
same_lead_is _ _ h = cc

same_subject_is : (a b : Subject) → same_subject a b ≡ true → a ≡ b
same_subject_is (subject.Object a) (subject.Object b) h = ap subject.Object (eqb-true a b h)
same_subject_is (subject.Property a) (subject.Property b) h = ap subject.Property (eqb-true a b h)
same_subject_is _ _ h = cc

pub same_mention_is : (a b : Mention) → same_mention a b ≡ true → a ≡ b
unfolding same_mention
same_mention_is a b h =
    let p = and_parts (same_lead a.lead b.lead) (same_subject a.subject b.subject) h in
    let with_lead : Option (Lead Class) → Mention = λ l. record { lead = l; subject = a.subject } in
    let with_subject : Subject → Mention = λ s. record { lead = b.lead; subject = s } in
    ap with_lead (same_lead_is a.lead b.lead p.0) ∙ ap with_subject (same_subject_is a.subject b.subject p.1)

says_the_same_is : (on : Side) (a b : Mention) → says_the_same on a b ≡ true → a ≡ b
unfolding says_the_same
says_the_same_is side.Left a b h = same_mention_is a b (and_parts (not (is_class a.lead || is_some_member a.subject)) (same_mention a b) h).1
says_the_same_is side.Right a b h = same_mention_is a b h

says_the_same-trans : (on : Side) (a b c : Mention) → says_the_same on a b ≡ true → says_the_same on b c ≡ true → says_the_same on a c ≡ true
says_the_same-trans on a b c p q = let e = says_the_same_is on a b p in rw e q

pub mentions-start : (on : Side) (ms : List Mention) → added_all (says_the_same on) [] ms ≡ firsts (says_the_same on) ms
mentions-start on ms = firsts-append (says_the_same on) (says_the_same-trans on) [] ms

pub mentions-more : (on : Side) (kept now more : List Mention) → added_all (says_the_same on) kept (now ++ more) ≡ added_all (says_the_same on) (added_all (says_the_same on) kept now) more
mentions-more on kept now more = fold-append (with_new (says_the_same on)) kept now more

pub ruleset mentioning = (mentions-start, mentions-more)
