use Rattle.std.proofs.Common.{◌≡◌, length, sym, subst}
use Rattle.std.specs.Prelude.{Ok, Err, IfOk}
use Rattle.std.specs.List.{All}
use Rattle.pz_base.specs.Fault.{unless}
use Rattle.pz_game.specs.Denotation.{IsDenoted}
use Rattle.pz_names.specs.Legend.{definitions_of}
use Rattle.pz_names.specs.Denotation.{values_of}
use Rattle.pz_names.specs.Values.{names_of_source, meanings_of_source, fault_of_legend}
use Rattle.pz_names.proofs.DenotedLemmas.{values-denoted}
use Rattle.pz_names.proofs.ObjectLemmas.{found-none, found-later}
use Rattle.pz_source.proofs.FoundLemmas.{found-refused}
use Rattle.pz_source.proofs.GameLemmas.{at_legend, behind_legend}
use Rattle.pz_source.proofs.reading.read_over_objects.Goals as goal

pub returns-in-Err : goal.returns-in-Err
returns-in-Err c =
    let lines = c.args.lines.now in
    let objects = c.args.objects.now in
    let legend = c.lines_in-of_legend.result.now in
    let check = fault_of_legend objects legend in
    let values = values_of (meanings_of_source objects (definitions_of legend)) in
    let refused : Err c.in-Err.fault ≡ unless check (Ok values) = rw c.in-Err.is at c.in_ok-found.ensures.denoted in
    sym (at_legend lines objects legend c.lines_in-of_legend.ensures c.in-Err.fault (found-refused check values c.in-Err.fault refused))

pub read_over-requires-clause-denoted : goal.read_over-requires-clause-denoted
read_over-requires-clause-denoted c =
    let lines = c.args.lines.now in
    let objects = c.args.objects.now in
    let legend = c.lines_in-of_legend.result.now in
    let check = fault_of_legend objects legend in
    let values = values_of (meanings_of_source objects (definitions_of legend)) in
    let found : Ok c.in-Ok.found.items ≡ unless check (Ok values) = rw c.in-Ok.is at c.in_ok-found.ensures.denoted in
    let denoted : c.in-Ok.found.items ≡ values = found-later check c.in-Ok.found.items values found in
    subst (All (IsDenoted (length objects))) (sym denoted) (values-denoted objects legend)

pub returns : goal.returns
returns c =
    let lines = c.args.lines.now in
    let objects = c.args.objects.now in
    let legend = c.lines_in-of_legend.result.now in
    let check = fault_of_legend objects legend in
    let values = values_of (meanings_of_source objects (definitions_of legend)) in
    let found : Ok c.in-Ok.found.items ≡ unless check (Ok values) = rw c.in-Ok.is at c.in_ok-found.ensures.denoted in
    let denoted : c.in-Ok.found.items ≡ values = found-later check c.in-Ok.found.items values found in
    let named : c.read_legend.new.names ≡ names_of_source objects (definitions_of legend) = rw c.in-Ok.is at c.in_ok-found.ensures.named in
    let same = behind_legend lines objects legend c.lines_in-of_legend.ensures c.read_legend.new.names c.in-Ok.found.items (found-none check c.in-Ok.found.items values found) named denoted in
    subst (λ answer. IfOk c.read_over.result (λ game. game ≡ answer)) (sym same) c.read_over.ensures
