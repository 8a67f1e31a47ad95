use Rattle.std.proofs.Common.{◌≡◌, ◌++◌, ◌∷◌, [], length, take, decimal, ap, ap₂, ◌∙◌}
use Rattle.json.specs.Print.{escape}
use Rattle.pz_json_text.proofs.Escaping.{escape-new, lent}
use Rattle.pz_json_text.proofs.escaped.put_new.Goals as goal

pub returns-clause-written : goal.returns-clause-written
returns-clause-written c =
    let old = take c.args.end c.args.json.now.items in
    let text = c.args.text.now in
    let n = c.args.number in
    let next = c.put_marked-next.result in
    let long : length c.put_marked-next.new.json ≡ c.make_way.new.json.len = c.put_marked-next.ensures.room ∙ c.as_mut_slice.ensures.len in
    let front = ap (take next) (lent c.make_way.new.json.len c.put_marked-next.new.json c.make_way.new.json.items long)
    ∙ c.put_marked-next.ensures.written
    ∙ ap₂ (λ l t. l ++ (t ++ 58 ∷ [])) (ap (take c.args.end) c.as_mut_slice.ensures.value ∙ c.in_ok-make_way.ensures.kept) c.escaped-text.ensures.text in
    c.in_ok-end.ensures.written
    ∙ ap (λ l. l ++ escape (decimal n ++ 44 ∷ [])) front
    ∙ escape-new old text n
