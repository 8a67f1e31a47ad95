use Rattle.std.proofs.Common.{◌≡◌, ◌++◌, ◌∷◌, [], length, take, arith, ap, ap₂, sym, ◌∙◌}
use Rattle.pz_json_text.proofs.Escaping.{escape-number, lent}
use Rattle.pz_json_text.proofs.escaped.put_large.Goals as goal

pub returns-clause-written : goal.returns-clause-written
returns-clause-written c =
    let old = take c.args.end c.args.json.now.items in
    let n = c.args.number in
    let long : length c.put_marked.new.json ≡ c.make_way.new.json.len = c.put_marked.ensures.room ∙ c.as_mut_slice.ensures.len in
    ap (take c.put_marked.result) (lent c.make_way.new.json.len c.put_marked.new.json c.make_way.new.json.items long)
    ∙ c.put_marked.ensures.written
    ∙ ap₂ (λ front text. front ++ (text ++ 44 ∷ [])) (ap (take c.args.end) c.as_mut_slice.ensures.value ∙ c.in_ok-make_way.ensures.kept) (c.as_bytes-text.ensures.value ∙ c.format.ensures.text)
    ∙ ap (λ l. old ++ l) (sym (escape-number n (omega (arith, c.ranges.number.fits))))
