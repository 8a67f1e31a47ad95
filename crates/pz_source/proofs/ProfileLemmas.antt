-- The first line outside the profile, in parts of the lines.
use Rattle.std.proofs.Common.{◌≡◌, Bool, true, false, if◌then◌else◌, List, [], ◌∷◌, ◌++◌, refl, ap, ◌∙◌}
use Rattle.std.specs.Prelude.{Option, Some, None}
use Rattle.std.specs.Option.{option_map_or}
use Rattle.pz_base.specs.Fault.{first_fault, or_else}
use Rattle.pz_base.specs.declared.fault.Code.{Code}
use Rattle.pz_base.specs.declared.fault.Code.TheVariants as code
use Rattle.pz_base.specs.declared.fault.SourceFault.{SourceFault}
use Rattle.pz_text.specs.Check.{number_of}
use Rattle.pz_text.specs.declared.line.Line.{Line}
use Rattle.pz_source.specs.Profile.{is_outside, leaves_profile, outside_profile}

-- whatever stands before
anywhere : (before others lines : List Line) → first_fault number_of leaves_profile before lines ≡ first_fault number_of leaves_profile others lines
anywhere before others [] = refl
anywhere before others (line ∷ lines) =
    ap (option_map_or (λ (code : Code). Some (record { code = code; line = number_of line })) (leaves_profile before line)) (anywhere (before ++ line ∷ []) (others ++ line ∷ []) lines)

from : (before lines more : List Line) → first_fault number_of leaves_profile before (lines ++ more) ≡ or_else (first_fault number_of leaves_profile before lines) (outside_profile more)
from before [] more = anywhere before [] more
from before (line ∷ lines) more = by (is_outside line.section line.text) (from (before ++ line ∷ []) lines more)
  where
    at : Bool → Option SourceFault → Option SourceFault
    at b rest = option_map_or (λ (code : Code). Some (record { code = code; line = number_of line })) (if b then Some code.OutsideProfile else None) rest

    by : (b : Bool) → first_fault number_of leaves_profile (before ++ line ∷ []) (lines ++ more) ≡ or_else (first_fault number_of leaves_profile (before ++ line ∷ []) lines) (outside_profile more)
        → at b (first_fault number_of leaves_profile (before ++ line ∷ []) (lines ++ more)) ≡ or_else (at b (first_fault number_of leaves_profile (before ++ line ∷ []) lines)) (outside_profile more)
    by true k = refl
    by false k = k

-- the first of the first part that has one
pub outside_of_parts : (before own behind : List Line) → outside_profile (before ++ (own ++ behind)) ≡ or_else (outside_profile before) (or_else (outside_profile own) (outside_profile behind))
outside_of_parts before own behind = from [] before (own ++ behind) ∙ ap (or_else (outside_profile before)) (from [] own behind)
