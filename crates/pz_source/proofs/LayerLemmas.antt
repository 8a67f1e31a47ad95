-- Layers, and objects in none.
use Rattle.std.proofs.Common.{◌≡◌, ◌≢◌, ℕ, ◌<◌, ◌+◌, zero, suc, List, [], ◌∷◌, ◌++◌, length, refl, ap, sym, ◌∙◌, ◌==◌, arith, length-append, append_assoc, zero-add, ◌≤◌, Bool, true, false, not}
use Rattle.std.specs.Prelude.{Option, Some, None, is_some, if◌then◌else◌, nat_le}
use Rattle.std.specs.Option.{option_map_or}
use Rattle.std.specs.List.{All, list_any, filter_map, range_with_len}
use Rattle.std.proofs.lemmas.List.{append-nil}
use Rattle.std.proofs.lemmas.List.Elements.{All-nil, All-cons}
use Rattle.pz_base.specs.Fault.{or_else, first_fault}
use Rattle.pz_base.specs.NameSet.{is_name_of}
use Rattle.pz_text.specs.declared.line.Line.{Line}
use Rattle.pz_base.specs.declared.fault.SourceFault.{SourceFault}
use Rattle.pz_base.proofs.FaultLemmas.{or_else-later}
use Rattle.pz_names.specs.Kinds.{kind_in, is_of_kind}
use Rattle.pz_source.specs.Layers.{misplaces, last_layer, layer_of, layer_names, layer_lines, layers_of, holds, fault_of_layers}
use Rattle.pz_game.specs.declared.denotation.Denotation.{Denotation}
use Rattle.pz_game.specs.declared.denotation.Kind.TheVariants.{Aggregate}
use Rattle.pz_names.proofs.ValueLemmas.{table_length}
use Rattle.std.proofs.lemmas.Bool.{leb-false}
use Rattle.pz_game.specs.declared.limits.TheConstants.{MOST_LAYERS}
use Rattle.pz_source.specs.Layers.{name_line_at, lies_nowhere}
use Rattle.pz_names.specs.declared.name_line.NameLine.{NameLine}
use Rattle.pz_base.specs.declared.fault.Code.TheVariants as code

-- one line more, which may be a layer
pub layer_lines-next : (found : List NameLine) (x : Line) (rest : List Line) → (found ++ layer_lines (x ∷ [])) ++ layer_lines rest ≡ found ++ layer_lines (x ∷ rest)
layer_lines-next found x rest = by (length (layer_names x.text) == 0)
  where
    layer : NameLine
    layer = record { number = x.number; names = layer_names x.text }

    by : (b : Bool) → (found ++ (if b then [] else layer ∷ [])) ++ layer_lines rest ≡ found ++ (if b then layer_lines rest else layer ∷ layer_lines rest)
    by true = ap (λ ls. ls ++ layer_lines rest) (append-nil found)
    by false = append_assoc found (layer ∷ []) (layer_lines rest)

-- tables that agree on the objects name the same line
pub nowhere-same : (f g : ℕ → Option ℕ) (before rest : List NameLine) → ((k : ℕ) → k < length before + length rest → f k ≡ g k)
    → first_fault name_line_at (lies_nowhere f) before rest ≡ first_fault name_line_at (lies_nowhere g) before rest
nowhere-same f g before [] same = refl
nowhere-same f g before (x ∷ rest) same =
    let long = length-append before (x ∷ []) in
    let more = nowhere-same f g (before ++ x ∷ []) rest (λ k lt. same k (omega (arith, long))) in
    let here : f (length before) ≡ g (length before) = same (length before) (omega arith) in
    rw (here, more) refl

-- where no line is named, each object is in a layer
pub nowhere-none : (f : ℕ → Option ℕ) (before rest : List NameLine) → first_fault name_line_at (lies_nowhere f) before rest ≡ None
    → (k : ℕ) → k < length rest → f (length before + k) ≢ None
nowhere-none f before [] none k lt = absurd (omega arith)
nowhere-none f before (x ∷ rest) none k lt = by k lt (f (length before)) refl none (λ n j small. nowhere-none f (before ++ x ∷ []) rest n j small)
  where
    by : (k : ℕ) → k < suc (length rest) → (o : Option ℕ) → f (length before) ≡ o
        → option_map_or (λ c. Some (record { code = c; line = name_line_at x })) (if is_some o then None else Some code.NoLayer) (first_fault name_line_at (lies_nowhere f) (before ++ x ∷ []) rest) ≡ None
        → (first_fault name_line_at (lies_nowhere f) (before ++ x ∷ []) rest ≡ None → (j : ℕ) → j < length rest → f (length (before ++ x ∷ []) + j) ≢ None)
        → f (length before + k) ≢ None
    by k lt None e n rest = cc
    by zero lt (Some y) e n rest = λ none. let same : length before + 0 ≡ length before = omega arith in let h : f (length before) ≡ None = ap f (sym same) ∙ none in cc
    by (suc j) lt (Some y) e n rest = λ none.
        let long = length-append before (x ∷ []) in
        let same : length (before ++ x ∷ []) + j ≡ length before + suc j = omega (arith, long) in
        rest n j (omega arith) (ap f same ∙ none)

-- where no layer is named, there are at most 100
few : (names : List (List ℕ)) (values : List Denotation) (before rest : List NameLine) → length before ≤ 100 → first_fault name_line_at (misplaces names values) before rest ≡ None
    → length before + length rest ≤ 100
few names values before [] low none = omega arith
few names values before (x ∷ rest) low none =
    by (list_any (λ name. not (is_name_of names name)) x.names) (list_any (λ name. is_of_kind Aggregate (kind_in names values name)) x.names) (nat_le MOST_LAYERS (length before)) refl none
    (λ room n. few names values (before ++ x ∷ []) rest room n)
  where
    by : (a b d : Bool) → nat_le MOST_LAYERS (length before) ≡ d
        → option_map_or (λ c. Some (record { code = c; line = name_line_at x })) (if a then Some code.Unknown else (if b then Some code.Mixed else (if d then Some code.TooLarge else None)))
        (first_fault name_line_at (misplaces names values) (before ++ x ∷ []) rest) ≡ None
        → (length (before ++ x ∷ []) ≤ 100 → first_fault name_line_at (misplaces names values) (before ++ x ∷ []) rest ≡ None → length (before ++ x ∷ []) + length rest ≤ 100)
        → length before + suc (length rest) ≤ 100
    by true b d e n more = cc
    by false true d e n more = cc
    by false false true e n more = cc
    by false false false e n more =
        let long = length-append before (x ∷ []) in
        let room = leb-false 100 (length before) e in
        let all = more (omega (arith, long)) n in
        omega (arith, long)

-- the number of a layer that is found is that of a layer
last_below : (holds : NameLine → ℕ → Bool) (number : ℕ) (found : Option ℕ) (layers : List NameLine) (object l : ℕ) → ((k : ℕ) → found ≡ Some k → k < number)
    → last_layer holds number found layers object ≡ Some l → l < number + length layers
last_below holds number found [] object l low e = let lt = low l e in omega arith
last_below holds number found (x ∷ layers) object l low e =
    let next = last_below holds (number + 1) (if holds x object then Some number else found) layers object l (λ k q. by (holds x object) k q) e in
    omega arith
  where
    by : (b : Bool) (k : ℕ) → (if b then Some number else found) ≡ Some k → k < number + 1
    by true k q = let is : number ≡ k = cc in omega arith
    by false k q = let lt = low k q in omega arith

-- values that are found of the numbers in order pass a test that each passes
all_found : (P : ℕ → Type 0) (f : ℕ → Option ℕ) → ((k v : ℕ) → f k ≡ Some v → P v) → (n s : ℕ) → All P (filter_map f (range_with_len s n))
all_found P f each zero s = All-nil P
all_found P f each (suc n) s = by (f s) refl (all_found P f each n (s + 1))
  where
    by : (o : Option ℕ) → f s ≡ o → All P (filter_map f (range_with_len (s + 1) n)) → All P (filter_map f (range_with_len s (suc n)))
    by None q rest = rw q rest
    by (Some v) q rest = rw q (All-cons P v (filter_map f (range_with_len (s + 1) n)) (each s v q) rest)

module _ (objects : List NameLine) (names : List (List ℕ)) (values : List Denotation) (lines : List Line) (sound : fault_of_layers objects names values lines ≡ None) where
  misplaced_none : first_fault name_line_at (misplaces names values) [] (layer_lines lines) ≡ None
  misplaced_none = by (first_fault name_line_at (misplaces names values) [] (layer_lines lines)) refl sound
    where
      by : (o : Option SourceFault) → first_fault name_line_at (misplaces names values) [] (layer_lines lines) ≡ o
          → or_else o (first_fault name_line_at (lies_nowhere (layer_of (holds names values) (layer_lines lines))) [] objects) ≡ None
          → first_fault name_line_at (misplaces names values) [] (layer_lines lines) ≡ None
      by None q h = q
      by (Some fault) q h = cc

  nowhere_none : first_fault name_line_at (lies_nowhere (layer_of (holds names values) (layer_lines lines))) [] objects ≡ None
  nowhere_none =
      sym (or_else-later (first_fault name_line_at (misplaces names values) [] (layer_lines lines))
      (first_fault name_line_at (lies_nowhere (layer_of (holds names values) (layer_lines lines))) [] objects) misplaced_none) ∙ sound

  pub shallow : length (layer_lines lines) ≤ 100
  shallow = let all = few names values [] (layer_lines lines) (omega arith) misplaced_none in omega arith

  pub layered : All (λ layer. layer < length (layer_lines lines)) (layers_of objects names values lines)
  layered =
      all_found (λ layer. layer < length (layer_lines lines)) (layer_of (holds names values) (layer_lines lines))
      (λ k v e. let lt = last_below (holds names values) 0 None (layer_lines lines) k v (λ j q. absurd (none_some j q)) e in omega arith) (length objects) 0
    where
      none_some : (j : ℕ) → (let none : Option ℕ = None in none) ≡ Some j → ⊥
      none_some j q = cc

  pub laid : length (layers_of objects names values lines) ≡ length objects
  laid =
      table_length (layer_of (holds names values) (layer_lines lines)) (length objects)
      (λ k lt e. nowhere-none (layer_of (holds names values) (layer_lines lines)) [] objects nowhere_none k lt (ap (layer_of (holds names values) (layer_lines lines)) (zero-add k) ∙ e))
