use Rattle.std.proofs.Common.{◌++◌, codes, decimal, ap, ap₂, ◌∙◌}
use Rattle.json.specs.Print.{quoted}
use Rattle.pz_lines.specs.Naming.{cause_name, close_name}
use Rattle.pz_lines.specs.Lines.{close_line, verdict_line, with_cause}
use Rattle.pz_lines.proofs.Texts.{close_in_fields}
use Rattle.pz_lines.proofs.line.write_close.Goals as goal

pub returns : goal.returns
unfolding close_line verdict_line
returns c =
    let one = c.in_ok-extend_from_slice.ensures.items in
    let two = c.in_ok-put_cause.ensures ∙ ap (λ l. l ++ with_cause (cause_name c.args.verdict)) one in
    let three = c.in_ok-put_text.ensures ∙ ap₂ (λ l k. l ++ (codes "\"close\":" ++ quoted k)) two c.close_name.ensures in
    let four = c.in_ok-put_number.ensures ∙ ap (λ l. l ++ (codes ",\"frames\":" ++ decimal c.args.frames)) three in
    let five = c.in_ok-put_text-2.ensures ∙ ap (λ l. l ++ (codes ",\"name\":" ++ quoted c.args.name.now)) four in
    let six = c.in_ok-put_number-2.ensures ∙ ap (λ l. l ++ (codes ",\"session\":" ++ decimal c.args.session)) five in
    c.in_ok-extend_from_slice-2.ensures.items ∙ ap (λ l. l ++ codes "}\n") six
    ∙ close_in_fields c.args.lines.items (codes "{") (with_cause (cause_name c.args.verdict)) (codes "\"close\":") (quoted (close_name c.args.verdict)) (codes ",\"frames\":") (decimal c.args.frames) (codes ",\"name\":") (quoted c.args.name.now) (codes ",\"session\":") (decimal c.args.session) (codes "}\n")
