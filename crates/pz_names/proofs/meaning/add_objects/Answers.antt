use Rattle.std.proofs.Common.{◌≡◌, ◌+◌, ◌++◌, length, map, drop, sym, ◌∙◌, ap, append_assoc, length-append, arith, rules}
use Rattle.std.proofs.lemmas.List.{length-map}
use Rattle.pz_names.specs.Meaning.{object_meanings}
use Rattle.pz_names.specs.declared.meaning.Meaning.TheVariants.{Itself}
use Rattle.pz_base.proofs.ListLemmas.{drop-next}
use Rattle.pz_names.proofs.meaning.add_objects.Goals as goal

pub loop-place-preserved : goal.loop-place-preserved
loop-place-preserved c =
    let xs = c.args.objects.now in
    let i = c.loop-place.place in
    let x = c.index-objects-place.result in
    let items = c.loop-place.meanings.items in
    let first = c.len-first.result in
    let here = map (λ name. Itself i first) x.names in
    let rest = object_meanings (i + 1) (length c.add_object.new.meanings.items) (drop (i + 1) xs) in
    let added : c.add_object.new.meanings.items ≡ items ++ here = c.in_ok-add_object.ensures ∙ ap (λ ns. items ++ map (λ name. Itself i first) ns) c.items.ensures in
    let counted : first ≡ length items = search rules in
    let longer : length c.add_object.new.meanings.items ≡ first + length x.names = omega (arith, ap length added, length-append items here, length-map x.names (λ name. Itself i first), counted) in
    let step : object_meanings i (length items) (drop i xs) ≡ here ++ rest =
    ap (λ n. object_meanings i n (drop i xs)) (sym counted)
    ∙ (ap (object_meanings i first) (drop-next xs i x c.loop-place-test.true c.index-objects-place.is) ∙ ap (λ n. here ++ object_meanings (i + 1) n (drop (i + 1) xs)) (sym longer)) in
    ap (λ m. m ++ rest) added ∙ (append_assoc items here rest ∙ (ap (λ m. items ++ m) (sym step) ∙ c.loop-place.invariant))
