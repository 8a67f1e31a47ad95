use Rattle.std.proofs.Common.{◌≡◌, length, ap, sym, ◌∙◌, true, false}
use Rattle.pz_entries.specs.Reading.{number_of, is_number, below}
use Rattle.pz_entries.proofs.Pieces.{read_new, read_not_new, below_read, new_at}
use Rattle.pz_entries.proofs.reading.read_piece.Goals as goal

pub returns-then-not-writes_number-clause-reads : goal.returns-then-not-writes_number-clause-reads
returns-then-not-writes_number-clause-reads c =
    let count : c.len-count.result ≡ length c.args.sets.now.items = c.len-count.ensures ∙ c.args.sets.now.ok.0 in
    let next : is_number (length c.args.sets.now.items) (number_of c.in-Some.number.now) ≡ false = ap (λ n. is_number n (number_of c.in-Some.number.now)) (sym count) ∙ sym c.writes_number.ensures ∙ c.if-not-writes_number.true in
    read_not_new c.args.sets.now.items c.args.piece.now c.in-Some.names.now c.in-Some.number.now c.in-Some.ensures next

pub returns-in_ok-push-in-Some-clause-reads : goal.returns-in_ok-push-in-Some-clause-reads
returns-in_ok-push-in-Some-clause-reads c =
    let sets = c.args.sets.now.items in
    let count : c.len-count.result ≡ length sets = c.len-count.ensures ∙ c.args.sets.now.ok.0 in
    let next : is_number (length sets) (number_of c.in-Some.number.now) ≡ true = ap (λ n. is_number n (number_of c.in-Some.number.now)) (sym count) ∙ sym c.writes_number.ensures ∙ c.if-not-writes_number.false in
    new_at sets c.push.new.self.items c.args.piece.now c.in_ok-set-in-Some.set c.len-count.result c.in-Some.names.now
    (read_new sets c.args.piece.now c.in-Some.names.now c.in-Some.number.now c.in-Some.ensures next) c.in_ok-set-in-Some.ensures c.in_ok-push-in-Some.ensures.items count

pub returns-in-None-clause-reads : goal.returns-in-None-clause-reads
returns-in-None-clause-reads c =
    let sets = c.args.sets.now.items in
    let count : c.len-count.result ≡ length sets = c.len-count.ensures ∙ c.args.sets.now.ok.0 in
    below_read sets c.args.piece.now c.number_below.result c.in-None.ensures (c.number_below.ensures ∙ ap (λ n. below n (number_of c.args.piece.now)) count)
