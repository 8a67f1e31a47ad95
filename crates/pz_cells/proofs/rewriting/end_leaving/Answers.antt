use Rattle.pz_cells.proofs.Common.{arith, get_or}
use Rattle.pz_cells.proofs.rewriting.end_leaving.Goals as goal

pub leaving-preserved : goal.leaving-preserved
leaving-preserved g c =
    let i = c.leaving.invariant in
    let f = c.in-Some.ensures in record {
      low = omega (arith, f.1, c.requires.short);
      ended = λ object dir below e. grind (arith, below, e, c.words.ensures.words, c.layer_of.ensures.layer, c.clear.ensures.heads (get_or c.args.layers.now.layers object 0) dir, i.ended object dir, f.3 object);
      others = λ layer dir apart. grind (arith, c.words.ensures.words, c.layer_of.ensures.layer, c.clear.ensures.heads layer dir, i.others layer dir apart, apart c.in-Some.object, f.2);
      proper = λ p. c.clear.ensures.proper (i.proper p);
    }
