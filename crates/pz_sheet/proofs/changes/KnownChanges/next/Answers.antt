use Rattle.pz_sheet.proofs.Common.{◌≡◌, ℕ, ◌+◌, ◌-◌, ◌<◌, ◌≤◌, Bool, false, arith, ap, sym, ◌∙◌, in_word}
use Rattle.pz_sheet.specs.Changes.{TellsOf}
use Rattle.pz_sheet.specs.declared.changes.KnownChanges.{KnownChanges}
use Rattle.pz_sheet.proofs.changes.KnownChanges.next.Goals as goal

-- what a cell's bit tells
told : (known : KnownChanges) (test : ℕ → Bool) (end number : ℕ) → TellsOf test end known → known.first ≤ number → number < known.first + known.count → in_word known.places (number - known.first) ≡ false → test number ≡ false
told known test end number tells low high none =
    let is : known.first + (number - known.first) ≡ number = omega (arith, low) in
    ap test (sym is) ∙ (sym (tells.each (number - known.first) (omega (arith, low, high))) ∙ none)

pub returns-in-None : goal.returns-in-None
returns-in-None c test end tells = (
  omega (arith, c.if-from-self-2.false),
  λ number low high. told c.args.self.now test end number tells (omega (arith, c.if-from-self.false, low)) high (c.in-None.ensures (number - c.args.self.now.first) (omega (arith, c.if-from-self.false, low)) (omega (arith, c.if-from-self.false, low, high))),
)

pub returns-in-Some : goal.returns-in-Some
returns-in-Some c test end tells =
    let known = c.args.self.now in
    let behind = c.if-from-self.false in
    let found = c.in-Some.ensures in (
      omega (arith, behind, found.0),
      omega (arith, found.1, tells.within),
      sym (tells.each c.in-Some.place found.1) ∙ found.2,
      λ number low high. told known test end number tells (omega (arith, behind, low)) (omega (arith, found.1, high)) (found.3 (number - known.first) (omega (arith, behind, low)) (omega (arith, behind, low, high))),
    )
