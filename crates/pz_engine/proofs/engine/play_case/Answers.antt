use Rattle.pz_engine.proofs.Taken.{next_taken}
use Rattle.pz_engine.proofs.engine.play_case.Goals as goal

pub items-preserved-in_ok-add_item : goal.items-preserved-in_ok-add_item
items-preserved-in_ok-add_item c =
    next_taken c.cases_close_once.ensures c.args.from c.args.session c.args.case.now c.as_str.result.now c.items.run.items c.next.new.self.items c.in_ok-item.field-0 c.in-Some.item c.items.written c.add_item.new.written
    c.items.invariant c.in_ok-item.ensures.item.2 c.in-Some.is c.as_str.ensures c.in_ok-add_item.ensures.lines c.in_ok-add_item.ensures.frames c.in_ok-add_item.ensures.passed

pub items-preserved : goal.items-preserved
items-preserved c =
    next_taken c.cases_close_once.ensures c.args.from c.args.session c.args.case.now c.as_str.result.now c.items.run.items c.next.new.self.items c.in_ok-item.field-0 c.in-Some.item c.items.written c.add_item.new.written
    c.items.invariant c.in_ok-item.ensures.item.2 c.in-Some.is c.as_str.ensures c.in_ok-add_item.ensures.lines c.in_ok-add_item.ensures.frames c.in_ok-add_item.ensures.passed
