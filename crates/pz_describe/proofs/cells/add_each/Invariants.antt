use Rattle.std.proofs.Common.{◌≡◌, [], drop, fold, get_or, length, map}
use Rattle.pz_describe.specs.Recordings.{AreKnown}
use Rattle.pz_json_text.specs.CellTexts.{with_cell}
use Rattle.pz_describe.proofs.cells.add_each.Given as goal

abbrev pub invariant-loop-place : goal.invariant-loop-place
invariant-loop-place l = record {
  count : length l.noted.items ≡ length l.texts;
  known : AreKnown l.noted.items l.distinct l.texts;
  rest : fold with_cell l.distinct (map (λ place. get_or l.texts place []) (drop l.place-index l.places)) ≡ fold with_cell l.fn.distinct (map (λ place. get_or l.texts place []) l.places);
}
