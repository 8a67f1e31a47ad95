use Rattle.std.proofs.Common.{◌≡◌, not, filter, drop}
use Rattle.pz_names.specs.Objects.{is_blank}
use Rattle.pz_source.specs.Wins.{win_at, wins_of}
use Rattle.pz_base.proofs.EachLemmas.{behind, one}
use Rattle.pz_source.proofs.wins.read_wins.Given as goal

abbrev pub invariant-loop-line : goal.invariant-loop-line
invariant-loop-line l = behind one (win_at l.names) l.wins.items (filter (λ line. not (is_blank line)) (drop l.line-index l.lines)) ≡ wins_of l.names l.lines
