-- The ticks of a move.
use Rattle.std.proofs.Common.{◌≡◌, ℕ, zero, suc, ◌-◌, ◌<◌, None, refl, ap, arith}
use Rattle.pz_game.specs.declared.game.GameParts.{GameParts}
use Rattle.pz_program.specs.declared.instance.Program.{Program}
use Rattle.pz_sheet.specs.Grid.{Grid}
use Rattle.pz_turn.specs.Step.{step_of}
unfoldable use Rattle.pz_solve.specs.Moves.{ticks}
use Rattle.pz_solve.specs.Moves.{DeadEnd, reached_by_tick}

-- none is left
pub none_left : (game : GameParts) (program : Program) (allowed : ℕ) (level : Grid) → allowed ≡ 0 → ticks game program allowed level ≡ DeadEnd
unfolding ticks
none_left game program zero level none = refl
none_left game program (suc n) level none = absurd (omega (arith, none))

-- one is played
pub one_played : (game : GameParts) (program : Program) (allowed left : ℕ) (level : Grid) → 0 < allowed → left ≡ allowed - 1 →
    ticks game program allowed level ≡ reached_by_tick (ticks game program left) game level (step_of game program level None)
unfolding ticks
one_played game program zero left level some less = absurd (omega (arith, some))
one_played game program (suc n) left level some less =
    let same : n ≡ left = omega (arith, less) in
    ap (λ (m : ℕ). reached_by_tick (ticks game program m) game level (step_of game program level None)) same
