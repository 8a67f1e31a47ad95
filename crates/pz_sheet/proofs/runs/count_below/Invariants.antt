use Rattle.pz_sheet.proofs.Common.{◌≡◌, ◌≤◌, count_by, range_with_len, in_word}
use Rattle.pz_sheet.proofs.runs.count_below.Given as goal

abbrev pub invariant-loop-at : goal.invariant-loop-at
invariant-loop-at l = record {
  counted : l.count ≡ count_by (in_word l.set) (range_with_len 0 l.at);
  few : l.count ≤ l.at;
}
