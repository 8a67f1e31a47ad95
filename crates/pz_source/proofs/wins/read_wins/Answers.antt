use Rattle.std.proofs.Common.{◌+◌, drop, not, filter, sym, ◌∙◌, ap}
use Rattle.pz_names.specs.Objects.{is_blank}
use Rattle.pz_source.specs.Wins.{win_at}
use Rattle.pz_base.proofs.EachLemmas.{behind_none}
use Rattle.pz_source.proofs.WinLemmas.{from_line, from_line-blank, from_line-read}
use Rattle.pz_source.proofs.wins.read_wins.Goals as goal

pub loop-line-init : goal.loop-line-init
loop-line-init c = rw c.new-wins.ensures.items (behind_none (win_at c.args.names.now) (filter (λ line. not (is_blank line)) c.args.lines.now))

pub loop-line-preserved-then-is_blank : goal.loop-line-preserved-then-is_blank
loop-line-preserved-then-is_blank c =
    let i = c.loop-line.line-index in
    from_line-blank (win_at c.args.names.now) c.loop-line.wins.items c.args.lines.now i c.line-item.result c.loop-line-test.true c.line-item.is (sym c.is_blank.ensures ∙ c.if-is_blank.true)
    ∙ c.loop-line.invariant

pub loop-line-preserved : goal.loop-line-preserved
loop-line-preserved c =
    let lines = c.args.lines.now in
    let i = c.loop-line.line-index in
    let win_of_line = win_at c.args.names.now in
    ap (λ ws. from_line win_of_line ws (drop (i + 1) lines)) c.in_ok-push.ensures.items
    ∙ (from_line-read win_of_line c.loop-line.wins.items lines i c.line-item.result c.in-Ok.found c.loop-line-test.true c.line-item.is (sym c.is_blank.ensures ∙ c.if-is_blank.false) (sym c.in_ok-found.ensures ∙ c.in-Ok.is)
    ∙ c.loop-line.invariant)
