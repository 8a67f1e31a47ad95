use Rattle.std.proofs.Common.{◌≡◌, false, true, None, Some, Option, sym, ◌∙◌}
use Rattle.pz_game.specs.declared.pattern.Item.{Item}
use Rattle.pz_game.specs.Headings.{flag}
use Rattle.pz_game.proofs.masks.Masks.empty.Goals as goal

pub returns : goal.returns
returns c = record {
  present = c.empty.ensures;
  absent = c.empty-2.ensures;
  required = λ layer dir. c.empty-3.ensures (flag layer dir);
  forbidden = λ layer dir. c.empty-4.ensures (flag layer dir);
  told = λ layer dir. c.empty-5.ensures (flag layer dir);
  layers = λ layer. c.empty-6.ensures layer;
  placed = λ layer item e. (let none : Option Item = None in let f : none ≡ Some item = e in cc);
  placed_only = λ object e. absurd (let f : false ≡ true = sym (c.empty-7.ensures object) ∙ e in cc);
  covered = λ layer dir. c.empty-8.ensures (flag layer dir);
  settled = λ layer dir. c.empty-9.ensures (flag layer dir);
  headed = λ layer dir. c.empty-10.ensures (flag layer dir);
  proper_required = λ number high. c.empty-3.ensures number;
  proper_forbidden = λ number high. c.empty-4.ensures number;
  proper_headed = λ number high. c.empty-10.ensures number;
}
