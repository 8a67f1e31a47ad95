use Rattle.pz_cells.proofs.Common.{Some, None, ◌||◌, nat_eq, ap, sym, heads}
use Rattle.std.proofs.Math.Bool.{and-false}
use Rattle.pz_cells.proofs.PlaceLemmas.{piece_put, put_seen}
use Rattle.pz_cells.proofs.cell.Cell.put.Goals as goal

pub returns-in-Some-heading : goal.returns-in-Some-heading
returns-in-Some-heading g c =
    let put = piece_put c.args.layers.now.depth c.args.layers.now.layers c.args.self.now.objects c.args.self.now.movement c.lift.new.objects c.lift.new.movement c.insert.new.words c.set.new.set c.args.layer c.args.place c.in-Some.piece (Some c.in-Some-heading.dir) c.requires.sound c.lift.ensures.cleared c.requires.on_layer c.in-Some.is c.in-Some-heading.is c.insert.ensures c.set.ensures.heads (c.set.ensures.proper c.lift.ensures.cleared.proper) in
    record { sound = put.0; cell = put.1 }

pub returns-in_default-heading : goal.returns-in_default-heading
returns-in_default-heading g c =
    let put = piece_put c.args.layers.now.depth c.args.layers.now.layers c.args.self.now.objects c.args.self.now.movement c.lift.new.objects c.lift.new.movement c.insert.new.words c.lift.new.movement c.args.layer c.args.place c.in-Some.piece None c.requires.sound c.lift.ensures.cleared c.requires.on_layer c.in-Some.is c.in_default-heading.is c.insert.ensures (λ other dir. ap (λ b. b || heads c.lift.new.movement other dir) (sym (and-false (nat_eq other c.args.layer)))) c.lift.ensures.cleared.proper in
    record { sound = put.0; cell = put.1 }

pub returns-in_default : goal.returns-in_default
returns-in_default g c =
    let put = put_seen c.args.layers.now.depth c.args.layers.now.layers c.args.self.now.objects c.args.self.now.movement c.lift.new.objects c.lift.new.movement c.args.layer None c.args.place c.requires.sound c.in_default.is c.lift.ensures.cleared in
    record { sound = put.0; cell = put.1 }
