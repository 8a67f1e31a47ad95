-- A line put together field by field. Over variables, so that nothing computes before it is regrouped.
use Rattle.std.proofs.Common.{◌≡◌, ℕ, List, ◌++◌}
use Rattle.std.proofs.lemmas.List.{append_assoc}

pub frame_in_fields : (before a b c d e f g h i j k : List ℕ) → ((((((before ++ (a ++ b)) ++ (c ++ d)) ++ (e ++ f)) ++ (g ++ h)) ++ (i ++ j)) ++ k) ≡ before ++ (a ++ b ++ c ++ d ++ e ++ f ++ g ++ h ++ i ++ j ++ k)
frame_in_fields before a b c d e f g h i j k = simp append_assoc

pub close_in_fields : (before a b c d e f g h i j k : List ℕ) → (((((((before ++ a) ++ b) ++ (c ++ d)) ++ (e ++ f)) ++ (g ++ h)) ++ (i ++ j)) ++ k) ≡ before ++ (a ++ b ++ c ++ d ++ e ++ f ++ g ++ h ++ i ++ j ++ k)
close_in_fields before a b c d e f g h i j k = simp append_assoc
