use Rattle.std.proofs.Common.{◌≡◌, ◌<◌, ◌≤◌, ◌*◌, ◌-◌, length, map}
use Rattle.pz_json_text.specs.declared.draft.TheConstants.{STEP}
use Rattle.pz_json_text.specs.Labels.{text_at}
use Rattle.pz_json_text.specs.Written.{IsBegun}
use Rattle.pz_json_text.proofs.draft.write_cells.Given as goal

abbrev pub invariant-parts : goal.invariant-parts
invariant-parts l = record {
  before : l.draft.at.cells ≤ l.to;
  begun : IsBegun l.width (map (text_at l.texts) l.labels) l.texts l.draft l.numbers.items;
  mark : l.draft.at.cells < l.to → l.draft.at.cells ≡ length l.draft.marks.items * STEP;
}

abbrev pub decreases-parts : goal.decreases-parts
decreases-parts l = l.to - l.draft.at.cells
