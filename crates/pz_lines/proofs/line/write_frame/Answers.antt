use Rattle.std.proofs.Common.{◌++◌, codes, decimal, ap, ap₂, ◌∙◌}
use Rattle.json.specs.Print.{quoted}
use Rattle.pz_lines.specs.Naming.{kind_name}
use Rattle.pz_lines.specs.Lines.{frame_line}
use Rattle.pz_lines.proofs.Texts.{frame_in_fields}
use Rattle.pz_lines.proofs.line.write_frame.Goals as goal

pub returns : goal.returns
unfolding frame_line
returns c =
    let one = c.in_ok-put_number.ensures ∙ ap (λ l. l ++ (codes "{\"at\":" ++ decimal c.args.at)) c.in_ok-reserve.ensures.items in
    let two = c.in_ok-put_number-2.ensures ∙ ap (λ l. l ++ (codes ",\"frame\":" ++ decimal c.args.number)) one in
    let three = c.in_ok-put_json.ensures ∙ ap₂ (λ l k. l ++ (codes ",\"kind\":" ++ k)) two c.quoted_kind.ensures in
    let four = c.in_ok-put_quoted.ensures ∙ ap (λ l. l ++ (codes ",\"level\":" ++ quoted c.args.level_text.now)) three in
    let five = c.in_ok-put_number-3.ensures ∙ ap (λ l. l ++ (codes ",\"session\":" ++ decimal c.args.session)) four in
    c.in_ok-extend_from_slice.ensures.items ∙ ap (λ l. l ++ codes "}\n") five
    ∙ frame_in_fields c.args.lines.items (codes "{\"at\":") (decimal c.args.at) (codes ",\"frame\":") (decimal c.args.number) (codes ",\"kind\":") (quoted (kind_name c.args.kind)) (codes ",\"level\":") (quoted c.args.level_text.now) (codes ",\"session\":") (decimal c.args.session) (codes "}\n")
