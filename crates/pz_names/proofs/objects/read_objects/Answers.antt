use Rattle.std.proofs.Common.{◌≡◌, [], Ok, sym, ◌∙◌, map}
use Rattle.pz_base.specs.Fault.{first_fault, unless}
use Rattle.pz_names.specs.Objects.{objects_of, object_names, name_line_of, paragraph_at, misnames}
use Rattle.pz_names.proofs.ObjectLemmas.{objects_of-few, objects_of-named, objects_of-read}
use Rattle.pz_names.proofs.objects.read_objects.Goals as goal

pub returns-clause-few : goal.returns-clause-few
returns-clause-few c =
    let objects = c.in_ok-objects.objects.items in
    let paragraphs = c.in_ok-paragraphs.paragraphs.items in
    let later = object_names (map name_line_of c.as_slice.result.now) in
    let found : Ok c.in-Ok.found ≡ unless (first_fault paragraph_at misnames [] c.as_slice.result.now) (Ok later) = sym c.in-Ok.is ∙ c.in_ok-found.ensures in
    let read : objects_of c.args.lines.now ≡ Ok objects =
    objects_of-read c.args.lines.now paragraphs c.as_slice.result.now objects c.in-Ok.found later c.in_ok-paragraphs.ensures c.as_slice.ensures.value found c.in_ok-objects.ensures in
    objects_of-few c.args.lines.now objects read

pub returns-clause-named : goal.returns-clause-named
returns-clause-named c =
    let objects = c.in_ok-objects.objects.items in
    let paragraphs = c.in_ok-paragraphs.paragraphs.items in
    let later = object_names (map name_line_of c.as_slice.result.now) in
    let found : Ok c.in-Ok.found ≡ unless (first_fault paragraph_at misnames [] c.as_slice.result.now) (Ok later) = sym c.in-Ok.is ∙ c.in_ok-found.ensures in
    let read : objects_of c.args.lines.now ≡ Ok objects =
    objects_of-read c.args.lines.now paragraphs c.as_slice.result.now objects c.in-Ok.found later c.in_ok-paragraphs.ensures c.as_slice.ensures.value found c.in_ok-objects.ensures in
    objects_of-named c.args.lines.now objects read
