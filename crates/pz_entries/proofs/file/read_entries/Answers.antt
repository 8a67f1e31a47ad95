use Rattle.std.proofs.Common.{◌∙◌, sym, rules}
use Rattle.pz_entries.proofs.Entries.{ending_more}
use Rattle.pz_entries.proofs.file.read_entries.Goals as goal

pub loop-number-preserved : goal.loop-number-preserved
loop-number-preserved c =
    record {
      count = search rules;
      whole =
          ending_more c.loop-number.number c.loop-number.entries.items c.push.new.self.items c.args.list.now c.index-list-number.result c.in-Ok.found
          c.loop-number-test.true c.index-list-number.is (sym c.in_ok-found.ensures ∙ c.in-Ok.is) c.in_ok-push.ensures.items
          ∙ c.loop-number.invariant.whole;
    }
