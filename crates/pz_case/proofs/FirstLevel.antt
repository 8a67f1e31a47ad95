-- The first level among the entries of LEVELS.
use Rattle.std.proofs.Common.{◌≡◌, ℕ, ◌+◌, ◌-◌, List, drop, take, length, length-drop, get_or, Some, true, ap, sym, ◌∙◌, arith}
use Rattle.std.specs.List.{position}
use Rattle.std.proofs.lemmas.List.{get_or-drop, take_all}
use Rattle.std.proofs.lemmas.List.Quantifiers.{position-Some}
use Rattle.pz_game.specs.Level.{is_playable}
use Rattle.pz_game.specs.declared.level.LevelEntry.{LevelEntry}
use Rattle.pz_game.specs.declared.level.LevelEntry.TheVariants.{Message}

pub found_playable : (levels read : List LevelEntry) (start passed : ℕ) → read ≡ levels → position is_playable (take (length read - start) (drop start read)) ≡ Some passed
    → is_playable (get_or levels (start + passed) Message) ≡ true
found_playable levels read start passed same found =
    let whole : take (length read - start) (drop start read) ≡ drop start levels =
    take_all (length read - start) (drop start read) (omega (arith, length-drop start read)) ∙ ap (drop start) same in
    ap is_playable (sym (get_or-drop start levels passed Message))
    ∙ (position-Some is_playable (drop start levels) passed Message (ap (position is_playable) (sym whole) ∙ found)).1
