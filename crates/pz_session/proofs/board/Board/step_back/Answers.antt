use Rattle.pz_session.proofs.Common.{option_map, ap, ◌∙◌, LevelState, IsOfGame}
use Rattle.pz_session.proofs.BoardLemmas.{taken}
use Rattle.pz_session.proofs.LabelledLemmas.{kept_spare}
use Rattle.pz_session.proofs.board.Board.step_back.Goals as goal

pub invariant_of-self : goal.invariant_of-self
invariant_of-self c =
    let old = c.self.invariant.0 in
    let past = taken (IsOfGame c.self.inside.game.now) c.self.inside.past c.forget.new.self c.in-Some.newest.now.grid c.put_before.new.place.grid old.past c.in-Some.ensures (ap (λ (l : LevelState). l.grid) c.put_before.ensures.place ∙ c.in_ok-level.ensures) c.forget.ensures in (
      record { program = old.program; entry = old.entry; level = past.0; target = old.target; past = past.1; before = old.before },
      c.self.invariant.1,
      tt,
      kept_spare c.self.inside.texts c.self.inside.labelled c.moved_to-self-inside.result c.self.inside.level.grid c.put_before.new.place.grid (option_map (λ (l : LevelState). l.grid) c.self.inside.before) (option_map (λ (l : LevelState). l.grid) c.self.inside.spare) (option_map (λ (l : LevelState). l.grid) c.self.inside.before) (option_map (λ (l : LevelState). l.grid) c.put_before.new.aside) c.moved_to-self-inside.ensures (ap (option_map (λ (l : LevelState). l.grid)) c.put_before.ensures.aside) c.self.invariant.3,
    )
