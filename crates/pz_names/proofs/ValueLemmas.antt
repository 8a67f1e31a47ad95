-- Lines that pass the checks give every name a value.
use Rattle.std.proofs.Common.{◌≡◌, ◌≢◌, ℕ, ◌<◌, ◌≤◌, ◌+◌, ◌-◌, zero, suc, Bool, true, false, not, cond, ◌||◌, List, [], ◌∷◌, ◌++◌, length, map, refl, ap, sym, subst, ◌∙◌, arith, rules, length-append, zero-add}
use Rattle.std.specs.Prelude.{Option, Some, None, option_and_then, slice_get, nat_lt, ◌==◌, if◌then◌else◌}
use Rattle.std.specs.Option.{option_map_or}
use Rattle.std.specs.Str.{bytes_eq}
use Rattle.std.specs.List.{list_any, filter_map, range_with_len, position_or_len}
use Rattle.std.proofs.lemmas.List.{length-map}
use Rattle.std.proofs.lemmas.Bool.{eqb-true}
use Rattle.std.proofs.lemmas.Option.{slice_get_past}
use Rattle.pz_names.proofs.CycleLemmas.{value_at-some}
use Rattle.pz_names.specs.Cycles.{reaches, is_on_cycle, reaches_itself}
use Rattle.pz_names.specs.Denotation.{value_at, values_of, known_at}
use Rattle.pz_names.specs.Legend.{line_at, speaks_of_unknown, names_in}
use Rattle.pz_names.specs.Meaning.{parts_of, parts_at, StaysInside, number_or_end, meaning_by, object_meanings}
use Rattle.pz_names.specs.Values.{names_of_source, meanings_of_source}
use Rattle.pz_names.specs.Objects.{object_names}
use Rattle.pz_base.specs.Fault.{first_fault}
use Rattle.pz_base.specs.NameSet.{is_name_of}
use Rattle.pz_names.specs.declared.meaning.Meaning.{Meaning}
use Rattle.pz_names.specs.declared.meaning.Meaning.TheVariants.{Itself}
use Rattle.pz_game.specs.declared.denotation.Denotation.{Denotation}
use Rattle.pz_names.specs.declared.name_line.NameLine.{NameLine}
use Rattle.pz_names.specs.declared.legend.Definition.{Definition}
use Rattle.pz_names.specs.declared.legend.Said.{Said}
use Rattle.pz_names.specs.declared.legend.Said.TheVariants.{Same, AllOf, AnyOf}
use Rattle.pz_base.specs.declared.fault.Code.TheVariants as code
use borrow.Author.Tests.{ltb-true, ltb-false}

-- a name that is there has a number
place_below : {A : Type 0} (p : A → Bool) (xs : List A) → list_any p xs ≡ true → position_or_len p xs < length xs
place_below p [] h = cc
place_below p (x ∷ xs) h = by (p x) h (place_below p xs)
  where
    by : (b : Bool) → (b || list_any p xs) ≡ true → (list_any p xs ≡ true → position_or_len p xs < length xs) → cond (not b) (1 + position_or_len p xs) 0 < suc (length xs)
    by true h rest = omega arith
    by false h rest = let low = rest h in omega arith

number_below : (names : List (List ℕ)) (name : List ℕ) → is_name_of names name ≡ true → number_or_end names name < length names
number_below names name there =
    let low = place_below (bytes_eq name) names there in
    let test : nat_lt (position_or_len (bytes_eq name) names) (length names) ≡ true = search rules in
    rw test low

-- the parts of what a line says are the numbers of its names
parts_by : (names : List (List ℕ)) (said : Said) → parts_of (meaning_by names said) ≡ map (number_or_end names) (names_in said)
parts_by names (Same name) = refl
parts_by names (AllOf parts) = refl
parts_by names (AnyOf parts) = refl

numbers_below : (names parts : List (List ℕ)) → list_any (λ part. not (is_name_of names part)) parts ≡ false
    → (p : ℕ) → list_any (λ q. q == p) (map (number_or_end names) parts) ≡ true → p < length names
numbers_below names [] known p h = cc
numbers_below names (part ∷ parts) known p h = by (is_name_of names part) refl known (number_or_end names part == p) refl h (λ k. numbers_below names parts k p)
  where
    by : (a : Bool) → is_name_of names part ≡ a → (not a || list_any (λ q. not (is_name_of names q)) parts) ≡ false
        → (b : Bool) → (number_or_end names part == p) ≡ b → (b || list_any (λ q. q == p) (map (number_or_end names) parts)) ≡ true
        → (list_any (λ q. not (is_name_of names q)) parts ≡ false → list_any (λ q. q == p) (map (number_or_end names) parts) ≡ true → p < length names)
        → p < length names
    by false there known b e h rest = cc
    by true there known true e h rest = subst (λ n. n < length names) (eqb-true (number_or_end names part) p e) (number_below names part there)
    by true there known false e h rest = rest known h

-- where the check names no line, it names none there
stays : (names : List (List ℕ)) (before definitions : List Definition) → first_fault line_at (speaks_of_unknown names) before definitions ≡ None
    → (k p : ℕ) → list_any (λ q. q == p) (parts_at (map (λ d. meaning_by names d.said) definitions) k) ≡ true → p < length names
stays names before [] none k p h = cc
stays names before (d ∷ ds) none zero p h =
    by (list_any (λ part. not (is_name_of names part)) (names_in d.said)) refl none
  where
    by : (b : Bool) → list_any (λ part. not (is_name_of names part)) (names_in d.said) ≡ b
        → option_map_or (λ c. Some (record { code = c; line = line_at d })) (if b then Some code.Unknown else None) (first_fault line_at (speaks_of_unknown names) (before ++ d ∷ []) ds) ≡ None
        → p < length names
    by true e h = cc
    by false e n = numbers_below names (names_in d.said) e p (rw parts_by at h)
stays names before (d ∷ ds) none (suc k) p h =
    by (list_any (λ part. not (is_name_of names part)) (names_in d.said)) none (λ n. stays names (before ++ d ∷ []) ds n k p h)
  where
    by : (b : Bool)
        → option_map_or (λ c. Some (record { code = c; line = line_at d })) (if b then Some code.Unknown else None) (first_fault line_at (speaks_of_unknown names) (before ++ d ∷ []) ds) ≡ None
        → (first_fault line_at (speaks_of_unknown names) (before ++ d ∷ []) ds ≡ None → p < length names) → p < length names
    by true e rest = cc
    by false e rest = rest e

-- no line's name reaches itself
free : (first : ℕ) (meanings : List Meaning) (before definitions : List Definition) → first_fault line_at (reaches_itself first meanings) before definitions ≡ None
    → (k : ℕ) → k < length definitions → is_on_cycle meanings (first + (length before + k)) ≡ false
free first meanings before [] none k lt = absurd (omega arith)
free first meanings before (d ∷ ds) none k lt = by k lt (is_on_cycle meanings (first + length before)) refl none (λ n j small. free first meanings (before ++ d ∷ []) ds n j small)
  where
    by : (k : ℕ) → k < suc (length ds) → (b : Bool) → is_on_cycle meanings (first + length before) ≡ b
        → option_map_or (λ c. Some (record { code = c; line = line_at d })) (if b then Some code.BadLegend else None) (first_fault line_at (reaches_itself first meanings) (before ++ d ∷ []) ds) ≡ None
        → (first_fault line_at (reaches_itself first meanings) (before ++ d ∷ []) ds ≡ None → (j : ℕ) → j < length ds → is_on_cycle meanings (first + (length (before ++ d ∷ []) + j)) ≡ false)
        → is_on_cycle meanings (first + (length before + k)) ≡ false
    by k lt true e n rest = cc
    by zero lt false e n rest = let same : first + (length before + 0) ≡ first + length before = omega arith in ap (is_on_cycle meanings) same ∙ e
    by (suc j) lt false e n rest =
        let long = length-append before (d ∷ []) in
        let same : first + (length before + suc j) ≡ first + (length (before ++ d ∷ []) + j) = omega (arith, long) in
        ap (is_on_cycle meanings) same ∙ rest n j (omega arith)

-- a line of OBJECTS leads nowhere
object_parts : (place first : ℕ) (names : List (List ℕ)) (rest : List Meaning) → ((k : ℕ) → parts_at rest k ≡ []) → (k : ℕ) → parts_at (map (λ name. Itself place first) names ++ rest) k ≡ []
object_parts place first [] rest none k = none k
object_parts place first (name ∷ names) rest none zero = refl
object_parts place first (name ∷ names) rest none (suc k) = object_parts place first names rest none k

objects_parts : (place first : ℕ) (objects : List NameLine) → (k : ℕ) → parts_at (object_meanings place first objects) k ≡ []
objects_parts place first [] k = refl
objects_parts place first (line ∷ lines) k =
    object_parts place first line.names (object_meanings (place + 1) (first + length line.names) lines) (objects_parts (place + 1) (first + length line.names) lines) k

length-objects : (place first : ℕ) (objects : List NameLine) → length (object_meanings place first objects) ≡ length (object_names objects)
length-objects place first [] = refl
length-objects place first (line ∷ lines) =
    let more_meanings = object_meanings (place + 1) (first + length line.names) lines in
    let here = length-append (map (λ name. Itself place first) line.names) more_meanings in
    let there = length-append line.names (object_names lines) in
    let same = length-map line.names (λ name. Itself place first) in
    let more = length-objects (place + 1) (first + length line.names) lines in
    omega arith

parts_at-left : (xs ys : List Meaning) (k : ℕ) → k < length xs → parts_at (xs ++ ys) k ≡ parts_at xs k
parts_at-left [] ys k lt = absurd (omega arith)
parts_at-left (x ∷ xs) ys zero lt = refl
parts_at-left (x ∷ xs) ys (suc k) lt = parts_at-left xs ys k (omega arith)

parts_at-right : (xs ys : List Meaning) (k : ℕ) → parts_at (xs ++ ys) (length xs + k) ≡ parts_at ys k
parts_at-right [] ys k = ap (parts_at ys) (zero-add k)
parts_at-right (x ∷ xs) ys k = ap (parts_at (x ∷ (xs ++ ys))) (let e : suc (length xs) + k ≡ suc (length xs + k) = omega arith in e) ∙ parts_at-right xs ys k

reaches-stuck : (n : ℕ) (meanings : List Meaning) (k t : ℕ) → parts_at meanings k ≡ [] → reaches n meanings k t ≡ false
unfolding reaches
reaches-stuck zero meanings k t none = refl
reaches-stuck (suc n) meanings k t none = rw none refl

parts_at-past : (meanings : List Meaning) (k : ℕ) → length meanings ≤ k → parts_at meanings k ≡ []
parts_at-past meanings k past = ap (λ o. option_map_or parts_of o []) (slice_get_past meanings k past)

-- lists with equal elements at each place
pub same_list : {A : Type 0} (xs ys : List A) → ((k : ℕ) → slice_get xs k ≡ slice_get ys k) → xs ≡ ys
same_list [] [] same = refl
same_list [] (y ∷ ys) same = let e = same 0 in cc
same_list (x ∷ xs) [] same = let e = same 0 in cc
same_list (x ∷ xs) (y ∷ ys) same =
    let first : x ≡ y = let e = same 0 in cc in
    let rest = same_list xs ys (λ k. same (suc k)) in
    cc

-- where each number has a value, the values are those of the numbers in order
values_from : {A : Type 0} (f : ℕ → Option A) (n s : ℕ) → ((k : ℕ) → k < n → f (s + k) ≢ None)
    → (k : ℕ) → k < n → slice_get (filter_map f (range_with_len s n)) k ≡ f (s + k)
values_from f zero s some k lt = absurd (omega arith)
values_from {A = A} f (suc n) s some k lt = by k lt (f s) refl (values_from f n (s + 1) (λ j small e. some (suc j) (omega arith) (ap f (shift j) ∙ e)))
  where
    shift : (j : ℕ) → s + suc j ≡ (s + 1) + j
    shift j = omega arith

    by : (k : ℕ) → k < suc n → (o : Option A) → f s ≡ o → ((j : ℕ) → j < n → slice_get (filter_map f (range_with_len (s + 1) n)) j ≡ f ((s + 1) + j))
        → slice_get (filter_map f (range_with_len s (suc n))) k ≡ f (s + k)
    by k lt None e rest = absurd (some 0 (omega arith) (ap f (let z : s + 0 ≡ s = omega arith in z) ∙ e))
    by zero lt (Some x) e rest = rw e (sym e ∙ ap f (let z : s ≡ s + 0 = omega arith in z))
    by (suc j) lt (Some x) e rest = rw e (rest j (omega arith) ∙ ap f (sym (shift j)))

length-values : {A : Type 0} (f : ℕ → Option A) (n s : ℕ) → ((k : ℕ) → k < n → f (s + k) ≢ None) → length (filter_map f (range_with_len s n)) ≡ n
length-values f zero s some = refl
length-values {A = A} f (suc n) s some = by (f s) refl (length-values f n (s + 1) (λ j small e. some (suc j) (omega arith) (ap f (shift j) ∙ e)))
  where
    shift : (j : ℕ) → s + suc j ≡ (s + 1) + j
    shift j = omega arith

    by : (o : Option A) → f s ≡ o → length (filter_map f (range_with_len (s + 1) n)) ≡ n → length (filter_map f (range_with_len s (suc n))) ≡ suc n
    by None e rest = absurd (some 0 (omega arith) (ap f (let z : s + 0 ≡ s = omega arith in z) ∙ e))
    by (Some x) e rest = rw e (ap suc rest)

-- where each entry of a table is there, its values are the entries
entries_get : {A : Type 0} (known : List (Option A)) → ((k : ℕ) → k < length known → option_and_then (λ entry. entry) (slice_get known k) ≢ None)
    → (k : ℕ) → slice_get (filter_map (λ entry. entry) known) k ≡ option_and_then (λ entry. entry) (slice_get known k)
entries_get [] some k = refl
entries_get (None ∷ known) some k = absurd (some 0 (omega arith) refl)
entries_get (Some x ∷ known) some zero = refl
entries_get (Some x ∷ known) some (suc k) = entries_get known (λ j small. some (suc j) (omega arith)) k

module _ (meanings : List Meaning) (inside : StaysInside meanings) (acyclic : (k : ℕ) → is_on_cycle meanings k ≡ false) where
  value : ℕ → Option Denotation
  value k = value_at (length meanings) meanings k

  some : (k : ℕ) → k < length meanings → value_at (length meanings) meanings k ≢ None
  some = value_at-some meanings inside acyclic

  some_from : (k : ℕ) → k < length meanings → value_at (length meanings) meanings (0 + k) ≢ None
  some_from k lt = subst (λ j. value_at (length meanings) meanings j ≢ None) (sym (zero-add k)) (some k lt)

  value-past : (n : ℕ) (k : ℕ) → length meanings ≤ k → value_at n meanings k ≡ None
  unfolding value_at
  value-past zero k past = refl
  value-past (suc n) k past = rw (slice_get_past meanings k past) refl

  pub values-length : length (values_of meanings) ≡ length meanings
  values-length = length-values (value_at (length meanings) meanings) (length meanings) 0 some_from

  pub values-each : (k : ℕ) → slice_get (values_of meanings) k ≡ value_at (length meanings) meanings k
  values-each k = by (nat_lt k (length meanings)) refl
    where
      by : (b : Bool) → nat_lt k (length meanings) ≡ b → slice_get (values_of meanings) k ≡ value_at (length meanings) meanings k
      by true e = values_from (value_at (length meanings) meanings) (length meanings) 0 some_from k (ltb-true k (length meanings) e) ∙ ap (value_at (length meanings) meanings) (zero-add k)
      by false e =
          let past : length meanings ≤ k = ltb-false k (length meanings) e in
          let long = values-length in
          let out : length (values_of meanings) ≤ k = omega arith in
          slice_get_past (values_of meanings) k out ∙ sym (value-past (length meanings) k past)

  -- what a table knows that has the values is their list
  pub values-known : (known : List (Option Denotation)) → length known ≤ length meanings → ((k : ℕ) → known_at known k ≡ value_at (length meanings) meanings k)
      → filter_map (λ entry. entry) known ≡ values_of meanings
  values-known known long each =
      let there : (k : ℕ) → k < length known → known_at known k ≢ None = λ k lt none. some k (omega arith) (sym (each k) ∙ none) in
      same_list (filter_map (λ entry. entry) known) (values_of meanings) (λ k. entries_get known there k ∙ (each k ∙ sym (values-each k)))

module _ (objects : List NameLine) (definitions : List Definition) where
  pub length-meanings : length (meanings_of_source objects definitions) ≡ length (names_of_source objects definitions)
  length-meanings =
      let names = names_of_source objects definitions in
      let os = length-objects 0 0 objects in
      let left = length-append (object_meanings 0 0 objects) (map (λ d. meaning_by names d.said) definitions) in
      let right = length-append (object_names objects) (map (λ (d : Definition). d.name) definitions) in
      let here = length-map definitions (λ d. meaning_by names d.said) in
      let there = length-map definitions (λ (d : Definition). d.name) in
      omega arith

  -- the number of a name is that of a line of OBJECTS or of a definition
  split : (P : ℕ → Type 0) (k : ℕ) → (k < length (object_meanings 0 0 objects) → P k) → ((j : ℕ) → P (length (object_meanings 0 0 objects) + j)) → P k
  split P k left right = by (nat_lt k first) refl
    where
      first : ℕ
      first = length (object_meanings 0 0 objects)

      by : (b : Bool) → nat_lt k (length (object_meanings 0 0 objects)) ≡ b → P k
      by true e = left (ltb-true k (length (object_meanings 0 0 objects)) e)
      by false e =
          let past : length (object_meanings 0 0 objects) ≤ k = ltb-false k (length (object_meanings 0 0 objects)) e in
          let sum : length (object_meanings 0 0 objects) + (k - length (object_meanings 0 0 objects)) ≡ k = omega arith in
          subst P sum (right (k - length (object_meanings 0 0 objects)))

  pub stays_inside : first_fault line_at (speaks_of_unknown (names_of_source objects definitions)) [] definitions ≡ None → StaysInside (meanings_of_source objects definitions)
  stays_inside none k p h =
      let names = names_of_source objects definitions in
      let os = object_meanings 0 0 objects in
      let ds = map (λ (d : Definition). meaning_by names d.said) definitions in
      let long = length-meanings in
      let low : p < length names = split (λ k. list_any (λ q. q == p) (parts_at (os ++ ds) k) ≡ true → p < length names) k
      (λ lt h. let none : parts_at (os ++ ds) k ≡ [] = parts_at-left os ds k lt ∙ objects_parts 0 0 objects k in let h2 : false ≡ true = rw none at h in cc)
      (λ j h. stays names [] definitions none j p (rw (parts_at-right os ds j) at h)) h in
      omega arith

  pub no_circle : first_fault line_at (reaches_itself (length (object_names objects)) (meanings_of_source objects definitions)) [] definitions ≡ None
      → (k : ℕ) → is_on_cycle (meanings_of_source objects definitions) k ≡ false
  no_circle none k =
      let names = names_of_source objects definitions in
      let meanings = meanings_of_source objects definitions in
      let os = object_meanings 0 0 objects in
      let ds = map (λ (d : Definition). meaning_by names d.said) definitions in
      let n = length meanings in
      split (λ k. is_on_cycle meanings k ≡ false) k
      (λ lt. reaches-stuck n meanings k k (parts_at-left os ds k lt ∙ objects_parts 0 0 objects k))
      (λ j. later j)
    where
      later : (j : ℕ) → is_on_cycle (meanings_of_source objects definitions) (length (object_meanings 0 0 objects) + j) ≡ false
      later j = by (nat_lt j (length definitions)) refl
        where
          by : (b : Bool) → nat_lt j (length definitions) ≡ b → is_on_cycle (meanings_of_source objects definitions) (length (object_meanings 0 0 objects) + j) ≡ false
          by true e =
              let first = length-objects 0 0 objects in
              let same : length (object_meanings 0 0 objects) + j ≡ length (object_names objects) + (0 + j) = omega arith in
              ap (is_on_cycle (meanings_of_source objects definitions)) same
              ∙ free (length (object_names objects)) (meanings_of_source objects definitions) [] definitions none j (ltb-true j (length definitions) e)
          by false e =
              let names = names_of_source objects definitions in
              let past : length definitions ≤ j = ltb-false j (length definitions) e in
              let left = length-append (object_meanings 0 0 objects) (map (λ d. meaning_by names d.said) definitions) in
              let here = length-map definitions (λ d. meaning_by names d.said) in
              let out : length (meanings_of_source objects definitions) ≤ length (object_meanings 0 0 objects) + j = omega arith in
              reaches-stuck (length (meanings_of_source objects definitions)) (meanings_of_source objects definitions) (length (object_meanings 0 0 objects) + j) (length (object_meanings 0 0 objects) + j)
              (parts_at-past (meanings_of_source objects definitions) (length (object_meanings 0 0 objects) + j) out)

-- a table that has what f gives of each number below n, where that is something, holds the values of those numbers
pub table_values : {A : Type 0} (f : ℕ → Option A) (n : ℕ) (known : List (Option A)) → length known ≡ n → ((k : ℕ) → k < n → f k ≢ None)
    → ((k : ℕ) → k < n → option_and_then (λ entry. entry) (slice_get known k) ≡ f k)
    → filter_map (λ entry. entry) known ≡ filter_map f (range_with_len 0 n)
table_values f n known long some each =
    let there : (k : ℕ) → k < length known → option_and_then (λ entry. entry) (slice_get known k) ≢ None = λ k lt none. some k (omega arith) (sym (each k (omega arith)) ∙ none) in
    same_list (filter_map (λ entry. entry) known) (filter_map f (range_with_len 0 n)) (λ k. entries_get known there k ∙ split k (nat_lt k n) refl)
  where
    some_from : (k : ℕ) → k < n → f (0 + k) ≢ None
    some_from k lt none = some k lt (ap f (sym (zero-add k)) ∙ none)

    split : (k : ℕ) (b : Bool) → nat_lt k n ≡ b → option_and_then (λ entry. entry) (slice_get known k) ≡ slice_get (filter_map f (range_with_len 0 n)) k
    split k true e = each k (ltb-true k n e) ∙ (ap f (sym (zero-add k)) ∙ sym (values_from f n 0 some_from k (ltb-true k n e)))
    split k false e =
        let past : n ≤ k = ltb-false k n e in
        let count = length-values f n 0 some_from in
        let out : length (filter_map f (range_with_len 0 n)) ≤ k = omega arith in
        let over : length known ≤ k = omega arith in
        ap (λ o. option_and_then (λ entry. entry) o) (slice_get_past known k over) ∙ sym (slice_get_past (filter_map f (range_with_len 0 n)) k out)

pub table_length : {A : Type 0} (f : ℕ → Option A) (n : ℕ) → ((k : ℕ) → k < n → f k ≢ None) → length (filter_map f (range_with_len 0 n)) ≡ n
table_length f n some = length-values f n 0 (λ k lt none. some k lt (ap f (sym (zero-add k)) ∙ none))
