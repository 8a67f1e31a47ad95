use Rattle.std.proofs.Common.{◌≡◌, [], ◌∷◌, ◌++◌, map, take, sym, ◌∙◌, ap, append_assoc}
use Rattle.std.specs.Prelude.{None}
use Rattle.std.proofs.lemmas.List.{map-append}
use Rattle.pz_names.proofs.LegendLemmas.{definitions_of-more, misnames-there}
use Rattle.pz_names.specs.Legend.{line_number, misnames, definitions_of, defined_names}
use Rattle.pz_base.proofs.FaultLemmas.{first_fault-pass}
use Rattle.pz_names.specs.declared.legend.Definition.{Definition}
use Rattle.pz_names.proofs.legend.definitions.Goals as goal

pub loop-line-preserved : goal.loop-line-preserved
loop-line-preserved c =
    let xs = c.args.lines.now in
    let i = c.loop-line.line-index in
    let x = c.line-item.result in
    let there = c.args.names.now in
    let names = c.loop-line.names in
    let items = c.loop-line.definitions.items in
    let more = definitions_of (x ∷ []) in
    let name = λ (d : Definition). d.name in
    let before = c.loop-line.invariant in
    let named : names ≡ there ++ defined_names (take i xs) = before.noted ∙ ap (λ ds. there ++ map name ds) before.read in
    let passed : misnames there (take i xs) x ≡ None = misnames-there there names (take i xs) x named ∙ (sym c.in_ok-code.ensures.found ∙ c.in_default.is) in
    let pushed : c.define.new.definitions.items ≡ items ++ more = c.in_ok-code.ensures.definitions c.in_default.is in
    record {
      none_yet = first_fault-pass line_number (misnames there) xs i x c.loop-line-test.true c.line-item.is passed ∙ before.none_yet;
      read = pushed ∙ (ap (λ ds. ds ++ more) before.read ∙ sym (definitions_of-more xs i x c.loop-line-test.true c.line-item.is));
      noted =
          c.in_ok-code.ensures.noted c.in_default.is
          ∙ (ap (λ n. n ++ map name more) before.noted
          ∙ (append_assoc there (map name items) (map name more) ∙ ap (λ ds. there ++ ds) (sym (map-append name items more) ∙ ap (map name) (sym pushed))));
    }
