use Rattle.pz_session.proofs.Common.{◌≡◌, Option, Some, option_map, not, rules, ap, ap₂, sym, subst, ◌∙◌, IfSome, Grid, LevelState, State, at_level, keeping, state_in, same_grid}
use Rattle.pz_session.proofs.BoardLemmas.{pressed, tells}
use Rattle.pz_session.proofs.LabelledLemmas.{kept_before}
use Rattle.pz_session.proofs.board.Board.press.Goals as goal

pub invariant_of-self : goal.invariant_of-self
invariant_of-self c =
    let end = c.in_ok-end.end in
    let place = c.put_before.new.place in
    let from : c.args.self.now.level ≡ c.self.inside.level.grid = ap (λ (s : State). s.level) (sym (c.self.view_is ∙ c.turn.ensures.same)) in
    let step = tells _ _ c.args.self.now.level (Some c.args.dir) (record { level = end.level.grid; commands = end.commands; changed = end.changed }) c.in_ok-end.ensures.end in
    let known : same_grid c.self.inside.level.grid place.grid ≡ not end.changed =
    ap₂ (λ (a : Grid) (l : LevelState). same_grid a l.grid) (sym from) c.put_before.ensures.place ∙ step in (
      search rules,
      c.self.invariant.1,
      subst (λ (o : Option LevelState). IfSome (option_map (λ (l : LevelState). l.grid) o) (λ before. same_grid before place.grid ≡ not end.changed)) (sym c.put_before.ensures.aside) known,
      kept_before c.self.inside.texts c.self.inside.labelled c.moved_to-self-inside.result c.self.inside.level.grid place.grid (option_map (λ (l : LevelState). l.grid) c.self.inside.before) (option_map (λ (l : LevelState). l.grid) c.self.inside.spare) (option_map (λ (l : LevelState). l.grid) c.put_before.new.aside) (option_map (λ (l : LevelState). l.grid) c.self.inside.spare) c.moved_to-self-inside.ensures (ap (option_map (λ (l : LevelState). l.grid)) c.put_before.ensures.aside) c.self.invariant.3,
    )

pub returns : goal.returns
returns c =
    let end = c.in_ok-end.end in
    let b = state_in c.self.inside in
    let there = ap (λ (l : LevelState). record b { level = l.grid; before = option_map (λ (k : LevelState). k.grid) c.put_before.new.aside }) c.put_before.ensures.place
    ∙ ap (λ (o : Option LevelState). record b { level = end.level.grid; before = option_map (λ (k : LevelState). k.grid) o }) c.put_before.ensures.aside
    ∙ ap (λ (s : State). at_level end.level.grid (keeping s)) (c.self.view_is ∙ c.turn.ensures.same) in
    pressed c.args.dir c.args.self.now _ c.take.new.self (record { level = end.level.grid; commands = end.commands; changed = end.changed }) c.take.result c.in_ok-end.ensures.end c.in_ok-end.ensures.cancelled there c.take.ensures
