use Rattle.pz_cells.proofs.Common.{◌≡◌, inl, inr, ℕ, ◌+◌, ◌<◌, List, Bool, true, false, length, get_or, sym, ◌∙◌, arith, IsTrue, ◌↔◌, get_or_default, cases_eq, AreSame, Cell, AreAlikeBetween, Differ, AreAlike, HeadNowhere}
use Rattle.pz_cells.proofs.differing.next_differing.Goals as goal

-- a test decides whether the cells of this number are alike
abbrev Decides : {N : ℕ} → List (Cell N) → List (Cell N) → ℕ → Bool → Type 0
Decides {N} a b index test = (cell other : Cell N) → IsTrue test ↔ AreAlike (get_or a index cell) (get_or b index other)

module _ (N : ℕ) (a b : List (Cell N)) (index : ℕ) (test : Bool) (within : index < length a) (long : length a ≡ length b) where
  decides : (x y : Cell N) → x ≡ get_or a index x → y ≡ get_or b index y → (IsTrue test ↔ AreAlike x y) → Decides a b index test
  decides x y is_x is_y same cell other = rw (← get_or_default a index x cell within, ← is_x, ← get_or_default b index y other (omega arith), ← is_y) same

  -- cells that head nowhere are decided by their objects
  decides_still : (x y : Cell N) → HeadNowhere a → HeadNowhere b → (IsTrue test ↔ AreSame (get_or a index x).objects (get_or b index y).objects) → Decides a b index test
  decides_still x y still others_still decided =
      decides (get_or a index x) (get_or b index y) (get_or_default a index x (get_or a index x) within) (get_or_default b index y (get_or b index y) (omega arith))
      (λ t. (decided.0 t, λ number. still index x number within ∙ sym (others_still index y number (omega arith))), λ alike. decided.1 alike.0)

alike_more : {N : ℕ} (a b : List (Cell N)) (index from : ℕ) (test : Bool) → Decides a b index test → test ≡ true → AreAlikeBetween a b from index → AreAlikeBetween a b from (index + 1)
alike_more {N} a b index from test d is before k cell other low h = elim (cases_eq k index) [
  | inl here ↦ rw here ((d cell other).0 is)
  | inr apart ↦ before k cell other low (omega (arith, h, apart))
]

differ_here : {N : ℕ} (a b : List (Cell N)) (index : ℕ) (test : Bool) → Decides a b index test → test ≡ false → Differ a b index
differ_here a b index test d is cell other same = (let f : false ≡ true = sym is ∙ (d cell other).1 same in cc)

pub returns-then-not-same : goal.returns-then-not-same
returns-then-not-same g c = (c.loop-index.auto.index, c.loop-index-test.true, differ_here c.args.cells.now c.args.others.now c.loop-index.index _ (decides_still _ _ _ _ _ c.loop-index-test.true c.requires.long c.index-cells-index.result c.index-others-index.result (c.requires.still c.if-are_still.true).0 (c.requires.still c.if-are_still.true).1 c.same.ensures) c.if-not-same.true, c.loop-index.invariant)

pub loop-index-preserved : goal.loop-index-preserved
loop-index-preserved g c = alike_more c.args.cells.now c.args.others.now c.loop-index.index c.args.from _ (decides_still _ _ _ _ _ c.loop-index-test.true c.requires.long c.index-cells-index.result c.index-others-index.result (c.requires.still c.if-are_still.true).0 (c.requires.still c.if-are_still.true).1 c.same.ensures) c.if-not-same.false c.loop-index.invariant

pub returns-then-not-same-2 : goal.returns-then-not-same-2
returns-then-not-same-2 g c = (c.loop-index-else-are_still.auto.index, c.loop-index-else-are_still-test.true, differ_here c.args.cells.now c.args.others.now c.loop-index-else-are_still.index _ (decides _ _ _ _ _ c.loop-index-else-are_still-test.true c.requires.long c.index-cells-index-in-loop-index-else-are_still.result c.index-others-index-in-loop-index-else-are_still.result c.index-cells-index-in-loop-index-else-are_still.is c.index-others-index-in-loop-index-else-are_still.is c.same-in-loop-index-else-are_still.ensures) c.if-not-same-2.true, c.loop-index-else-are_still.invariant)

pub loop-index-else-are_still-preserved : goal.loop-index-else-are_still-preserved
loop-index-else-are_still-preserved g c = alike_more c.args.cells.now c.args.others.now c.loop-index-else-are_still.index c.args.from _ (decides _ _ _ _ _ c.loop-index-else-are_still-test.true c.requires.long c.index-cells-index-in-loop-index-else-are_still.result c.index-others-index-in-loop-index-else-are_still.result c.index-cells-index-in-loop-index-else-are_still.is c.index-others-index-in-loop-index-else-are_still.is c.same-in-loop-index-else-are_still.ensures) c.if-not-same-2.false c.loop-index-else-are_still.invariant

pub returns-after-loop-index : goal.returns-after-loop-index
returns-after-loop-index g c = λ k cell other low h. c.loop-index.invariant k cell other low (omega (arith, c.loop-index-test.false, h))

pub returns-after-loop-index-else-are_still : goal.returns-after-loop-index-else-are_still
returns-after-loop-index-else-are_still g c = λ k cell other low h. c.loop-index-else-are_still.invariant k cell other low (omega (arith, c.loop-index-else-are_still-test.false, h))
