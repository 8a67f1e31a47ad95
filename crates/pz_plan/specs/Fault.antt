-- The code by which a source is refused, for what is wrong with one of its rule lines.
use Rattle.pz_base.specs.declared.fault.Code.{Code}
use Rattle.pz_base.specs.declared.fault.Code.TheVariants as code
use Rattle.pz_plan.specs.declared.fault.RuleFault.{RuleFault}
use Rattle.pz_plan.specs.declared.fault.RuleFault.TheVariants as fault

abbrev pub code_of : RuleFault → Code
code_of fault.BadRule = code.BadRule
code_of fault.OutsideProfile = code.OutsideProfile
code_of fault.TooLarge = code.TooLarge
code_of fault.Unknown = code.Unknown
code_of fault.Mixed = code.Mixed
code_of fault.Shape = code.Shape
code_of fault.LateMovement = code.LateMovement
code_of fault.AmbiguousRight = code.AmbiguousRight
code_of fault.TooManyRules = code.TooManyRules
code_of fault.RightClash = code.RightClash
