use Rattle.std.proofs.Common.{◌≡◌, ◌++◌, [], map, take, drop}
use Rattle.pz_names.specs.Legend.{line_number, misnames, definitions_of}
use Rattle.pz_base.specs.Fault.{first_fault}
use Rattle.pz_names.proofs.legend.definitions.Given as goal

abbrev pub invariant-loop-line : goal.invariant-loop-line
invariant-loop-line l = record {
  none_yet : first_fault line_number (misnames l.initial.names) (take l.line-index l.lines) (drop l.line-index l.lines) ≡ first_fault line_number (misnames l.initial.names) [] l.lines;
  read : l.definitions.items ≡ definitions_of (take l.line-index l.lines);
  noted : l.names ≡ l.initial.names ++ map (λ d. d.name) l.definitions.items;
}
