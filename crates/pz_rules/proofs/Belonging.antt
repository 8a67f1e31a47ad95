-- The items of a rule's instances are of objects of the game.
use Rattle.std.proofs.Common.{◌≡◌, ℕ, ◌+◌, ◌<◌, nat_lt, Bool, true, false, ◌&&◌, ◌==◌, if◌then◌else◌, List, [], ◌∷◌, map, length, Option, Some, None, IfSome, option_map, Result, Ok, Err, refl}
use Rattle.std.specs.List.{list_all, flat_map, slice_get}
use Rattle.std.specs.Option.{option_map_or}
use Rattle.std.proofs.lemmas.Bool.{and_parts, and_from, lt-ltb, eq-eqb}
use Rattle.pz_game.specs.declared.denotation.Denotation.{Denotation}
use Rattle.pz_game.specs.declared.direction.Dir.{Dir}
use Rattle.pz_plan.specs.declared.fault.RuleFault.{RuleFault}
use Rattle.pz_program.specs.declared.instance.Instance.{Instance}
use Rattle.pz_rules.specs.declared.plan_instances.Pick.{Pick}
use Rattle.pz_rules.specs.declared.plan_instances.Pick.TheVariants as pick
use Rattle.pz_game.specs.declared.pattern.Item.{Item}
use Rattle.pz_plan.specs.declared.plan.Asked.{Asked}
use Rattle.pz_plan.specs.declared.plan.Asked.TheVariants as asked
use Rattle.pz_plan.specs.declared.plan.Choice.{Choice}
use Rattle.pz_plan.specs.declared.plan.Mention.{Mention}
use Rattle.pz_plan.specs.declared.plan.Plan.{Plan}
use Rattle.pz_plan.specs.declared.plan.PlanRow.{PlanRow}
use Rattle.pz_plan.specs.declared.plan.Spot.{Spot}
use Rattle.pz_plan.specs.declared.plan.Subject.{Subject}
use Rattle.pz_plan.specs.declared.plan.Subject.TheVariants as subject
use Rattle.pz_plan.specs.declared.plan.Term.{Term}
use Rattle.pz_plan.specs.declared.plan.TermName.{TermName}
use Rattle.pz_plan.specs.declared.plan.TermName.TheVariants as name
use Rattle.pz_grammar.specs.declared.rule.Cell.{Cell}
use Rattle.pz_grammar.specs.declared.rule.Cell.TheVariants as cell
use Rattle.pz_grammar.specs.declared.rule.Phrase.{Phrase}
use Rattle.pz_grammar.specs.declared.rule.Rule.{Rule}
use Rattle.pz_plan.specs.declared.spelling.Side.{Side}
use Rattle.pz_plan.specs.declared.spelling.Side.TheVariants as side
use Rattle.pz_grammar.specs.declared.token.Class.{Class}
use Rattle.pz_grammar.specs.declared.token.Lead.{Lead}
use Rattle.pz_plan.specs.Checks.{fault_of}
use Rattle.pz_plan.specs.Deciding.{both_or_none, with_lead, decided_lead, decided_name, decided_term, decided_terms, decided_cells, decided_row, decided_rows, member_choice}
use Rattle.pz_instances.specs.Equal.{same_instance}
use Rattle.pz_rules.specs.PlanInstances.{members_at, options_of, picked_object, object_of, layer_of, item_of, cell_of, row_of, rows_of, instance_of, is_possible, picks_of, possible_of, instances_of}
use Rattle.pz_base.specs.Lists.{firsts}
use Rattle.pz_plan.specs.Numbering as numbering
use Rattle.pz_plan.specs.Numbering.{choices_in_rows, name_of, term_of, terms_of, cells_of, asked_by, asked_in, asked_count, asked_by_mark}
use Rattle.pz_game.specs.Pattern.{RuleRow}
use Rattle.pz_plan.specs.Planning.{with_right, plan_of_spelled, plan_of}
use Rattle.pz_plan.specs.Same.{says_the_same}
use Rattle.pz_plan.specs.Spelling as spelling
use Rattle.pz_plan.specs.Spelling.{is_chosen, mentions_of, denotation_if_any, mentions_at, spelled_out, row_spelled_out, rows_spelled_out}
use Rattle.pz_rules.specs.Turning.{class_directions}
use Rattle.pz_plan.proofs.EachOf.{each-map, each-map_all, each-flat_map_all, each-filter, each-firsts, each-get, each-product}

-- one of n objects
abbrev pub below : ℕ → ℕ → Bool
below n object = nat_lt object n

abbrev pub denotes : ℕ → Denotation → Bool
denotes n d = list_all (below n) d.members

-- the mentions of a rule

abbrev subject_fits : ℕ → Subject → Bool
subject_fits n (subject.Object object) = below n object
subject_fits n (subject.Property property) = true

abbrev mention_fits : ℕ → Mention → Bool
mention_fits n m = subject_fits n m.subject

abbrev said_fits : ℕ → PlanRow Mention → Bool
said_fits n row = list_all (list_all (mention_fits n)) row.cells

mentions_of-fit : (n : ℕ) (w : Option (Lead Class)) (d : Denotation) → denotes n d ≡ true → list_all (mention_fits n) (mentions_of w d) ≡ true
unfolding mentions_of
mentions_of-fit n w d h =
    let mention : ℕ → Mention = λ object. record { lead = w; subject = subject.Object object } in
    let one = record { lead = w; subject = subject.Property d.number } ∷ [] in
    let by : (b : Bool) → list_all (mention_fits n) (if b then one else map mention d.members) ≡ true = λ b. elim b as (λ b. list_all (mention_fits n) (if b then one else map mention d.members) ≡ true) [
      | true ↦ refl
      | false ↦ each-map (below n) (mention_fits n) mention (λ x e. e) d.members h
    ] in
    by (is_chosen w d)

denoted-fits : (n : ℕ) (table : List Denotation) (o : Option ℕ) → list_all (denotes n) table ≡ true → IfSome (denotation_if_any table o) (λ d. denotes n d ≡ true)
unfolding denotation_if_any
denoted-fits n table None h = tt
denoted-fits n table (Some k) h = each-get (denotes n) table k h

mentions_at-fit : (n : ℕ) (table : List Denotation) → list_all (denotes n) table ≡ true → (p : Phrase) → list_all (mention_fits n) (mentions_at table p) ≡ true
unfolding mentions_at
mentions_at-fit n table h p =
    let by : (o : Option Denotation) → IfSome o (λ d. denotes n d ≡ true) → list_all (mention_fits n) (option_map_or (mentions_of p.lead) o []) ≡ true = λ o. elim o as (λ o. IfSome o (λ d. denotes n d ≡ true) → list_all (mention_fits n) (option_map_or (mentions_of p.lead) o []) ≡ true) [
      | None ↦ λ e. refl
      | Some d ↦ λ e. mentions_of-fit n p.lead d e
    ] in
    by (denotation_if_any table p.name) (denoted-fits n table p.name h)

said_cell-fits : (n : ℕ) (s : Side) (table : List Denotation) → list_all (denotes n) table ≡ true → (c : Cell) → list_all (list_all (mention_fits n)) (spelling.cell_of s table c) ≡ true
unfolding spelling.cell_of spelled_out
said_cell-fits n s table h cell.Gap = refl
said_cell-fits n s table h (cell.Items ps) =
    let said = flat_map (mentions_at table) ps in
    and_from (list_all (mention_fits n) (firsts (says_the_same s) said)) true
    (each-firsts (mention_fits n) (says_the_same s) said (each-flat_map_all (mention_fits n) (mentions_at table) (mentions_at-fit n table h) ps))
    refl

said_row-fits : (n : ℕ) (s : Side) (table : List Denotation) → list_all (denotes n) table ≡ true → (row : List Cell) → said_fits n (row_spelled_out s table row) ≡ true
unfolding row_spelled_out
said_row-fits n s table h row = each-flat_map_all (list_all (mention_fits n)) (spelling.cell_of s table) (said_cell-fits n s table h) row

said-fits : (n : ℕ) (s : Side) (table : List Denotation) → list_all (denotes n) table ≡ true → (rows : List (List Cell)) → list_all (said_fits n) (rows_spelled_out s table rows) ≡ true
unfolding rows_spelled_out
said-fits n s table h rows = each-map_all (said_fits n) (row_spelled_out s table) (said_row-fits n s table h) rows

-- the terms of a plan

abbrev name_fits : ℕ → TermName → Bool
name_fits n (name.Object object) = below n object
name_fits n (name.Chosen k) = true

abbrev term_fits : ℕ → Term → Bool
term_fits n term = name_fits n term.name

abbrev row_fits : ℕ → PlanRow Term → Bool
row_fits n row = list_all (list_all (term_fits n)) row.cells

name_of-fits : (n k : ℕ) (s : Subject) → subject_fits n s ≡ true → name_fits n (name_of k s) ≡ true
name_of-fits n k (subject.Object object) h = h
name_of-fits n k (subject.Property property) h = refl

terms_of-fit : (n k : ℕ) (ms : List Mention) → list_all (mention_fits n) ms ≡ true → list_all (term_fits n) (terms_of k ms) ≡ true
unfolding terms_of term_of
terms_of-fit n k [] h = refl
terms_of-fit n k (m ∷ ms) h =
    let a = and_parts (mention_fits n m) (list_all (mention_fits n) ms) h in
    let j = k + length (asked_by_mark m.lead m.subject) in
    and_from (name_fits n (name_of j m.subject)) (list_all (term_fits n) (terms_of (k + length (asked_by m)) ms)) (name_of-fits n j m.subject a.0) (terms_of-fit n (k + length (asked_by m)) ms a.1)

cells_of-fit : (n k : ℕ) (cells : List (List Mention)) → list_all (list_all (mention_fits n)) cells ≡ true → list_all (list_all (term_fits n)) (cells_of k cells) ≡ true
unfolding cells_of
cells_of-fit n k [] h = refl
cells_of-fit n k (c ∷ cells) h =
    let a = and_parts (list_all (mention_fits n) c) (list_all (list_all (mention_fits n)) cells) h in
    and_from (list_all (term_fits n) (terms_of k c)) (list_all (list_all (term_fits n)) (cells_of (k + asked_in c) cells)) (terms_of-fit n k c a.0) (cells_of-fit n (k + asked_in c) cells a.1)

left-fits : (n k : ℕ) (rows : List (PlanRow Mention)) → list_all (said_fits n) rows ≡ true → list_all (row_fits n) (numbering.rows_of k rows) ≡ true
unfolding numbering.rows_of
left-fits n k [] h = refl
left-fits n k (row ∷ rows) h =
    let a = and_parts (said_fits n row) (list_all (said_fits n) rows) h in
    and_from (list_all (list_all (term_fits n)) (cells_of k row.cells)) (list_all (row_fits n) (numbering.rows_of (k + asked_count row.cells) rows)) (cells_of-fit n k row.cells a.0) (left-fits n (k + asked_count row.cells) rows a.1)

joined-fits : {X : Type 0} (p : X → Bool) (o : Option X) (q : Option (List X)) → IfSome o (λ x. p x ≡ true) → IfSome q (λ xs. list_all p xs ≡ true) → IfSome (both_or_none o q) (λ xs. list_all p xs ≡ true)
joined-fits p (Some x) (Some xs) h k = and_from (p x) (list_all p xs) h k
joined-fits p (Some x) None h k = tt
joined-fits p None q h k = tt

decided_name-fits : (n : ℕ) (cs : List Choice) (at : Spot) (s : Subject) → subject_fits n s ≡ true → IfSome (decided_name cs at s) (λ x. name_fits n x ≡ true)
unfolding decided_name
decided_name-fits n cs at (subject.Object object) h = h
decided_name-fits n cs at (subject.Property property) h =
    let by : (o : Option ℕ) → IfSome (option_map name.Chosen o) (λ x. name_fits n x ≡ true) = λ o. elim o as (λ o. IfSome (option_map name.Chosen o) (λ x. name_fits n x ≡ true)) [ None ↦ tt | Some k ↦ refl ] in
    by (member_choice cs at property)

with_lead-fits : (n : ℕ) (w : Option (Option (Lead ℕ))) (x : Option TermName) → IfSome x (λ x. name_fits n x ≡ true) → IfSome (with_lead w x) (λ t. term_fits n t ≡ true)
with_lead-fits n (Some w) (Some x) h = h
with_lead-fits n (Some w) None h = tt
with_lead-fits n None x h = tt

decided_terms-fit : (n : ℕ) (cs : List Choice) (at : Spot) (ms : List Mention) → list_all (mention_fits n) ms ≡ true → IfSome (decided_terms cs at ms) (λ ts. list_all (term_fits n) ts ≡ true)
unfolding decided_terms decided_term
decided_terms-fit n cs at [] h = refl
decided_terms-fit n cs at (m ∷ ms) h =
    let a = and_parts (mention_fits n m) (list_all (mention_fits n) ms) h in
    let x = decided_name cs at m.subject in
    joined-fits (term_fits n) (with_lead (decided_lead cs at m.lead m.subject) x) (decided_terms cs at ms)
    (with_lead-fits n (decided_lead cs at m.lead m.subject) x (decided_name-fits n cs at m.subject a.0))
    (decided_terms-fit n cs at ms a.1)

decided_cells-fit : (n : ℕ) (cs : List Choice) (r k : ℕ) (cells : List (List Mention)) → list_all (list_all (mention_fits n)) cells ≡ true → IfSome (decided_cells cs r k cells) (λ out. list_all (list_all (term_fits n)) out ≡ true)
unfolding decided_cells
decided_cells-fit n cs r k [] h = refl
decided_cells-fit n cs r k (c ∷ cells) h =
    let a = and_parts (list_all (mention_fits n) c) (list_all (list_all (mention_fits n)) cells) h in
    joined-fits (list_all (term_fits n)) (decided_terms cs (record { row = r; cell = k }) c) (decided_cells cs r (k + 1) cells)
    (decided_terms-fit n cs (record { row = r; cell = k }) c a.0)
    (decided_cells-fit n cs r (k + 1) cells a.1)

abbrev row_with : Option ℕ → List (List Term) → PlanRow Term
row_with gap_at cs = record { cells = cs; gap_at = gap_at }

decided_row-fits : (n : ℕ) (cs : List Choice) (k : ℕ) (row : PlanRow Mention) → said_fits n row ≡ true → IfSome (decided_row cs k row) (λ row. row_fits n row ≡ true)
unfolding decided_row
decided_row-fits n cs k row h =
    let by : (o : Option (List (List Term))) → IfSome o (λ out. list_all (list_all (term_fits n)) out ≡ true) → IfSome (option_map (row_with row.gap_at) o) (λ row. row_fits n row ≡ true) = λ o. elim o as (λ o. IfSome o (λ out. list_all (list_all (term_fits n)) out ≡ true) → IfSome (option_map (row_with row.gap_at) o) (λ row. row_fits n row ≡ true)) [
      | None ↦ λ e. tt
      | Some out ↦ λ e. e
    ] in
    by (decided_cells cs k 0 row.cells) (decided_cells-fit n cs k 0 row.cells h)

right-fits : (n : ℕ) (cs : List Choice) (k : ℕ) (rows : List (PlanRow Mention)) → list_all (said_fits n) rows ≡ true → IfSome (decided_rows cs k rows) (λ out. list_all (row_fits n) out ≡ true)
unfolding decided_rows
right-fits n cs k [] h = refl
right-fits n cs k (row ∷ rows) h =
    let a = and_parts (said_fits n row) (list_all (said_fits n) rows) h in
    joined-fits (row_fits n) (decided_row cs k row) (decided_rows cs (k + 1) rows) (decided_row-fits n cs k row a.0) (right-fits n cs (k + 1) rows a.1)

abbrev plan_fits : ℕ → Plan → Bool
plan_fits n plan = list_all (row_fits n) plan.left && list_all (row_fits n) plan.right

abbrev pub PlanFits : ℕ → Result Plan RuleFault → Type 0
PlanFits n (Ok plan) = plan_fits n plan ≡ true
PlanFits n (Err fault) = Unit {0}

with_right-fits : (n : ℕ) (rule : Rule) (left : List (PlanRow Mention)) (right : Option (List (PlanRow Term))) → list_all (said_fits n) left ≡ true → IfSome right (λ rows. list_all (row_fits n) rows ≡ true) → PlanFits n (with_right rule left right)
unfolding with_right
with_right-fits n rule left None h k = tt
with_right-fits n rule left (Some right) h k = and_from (list_all (row_fits n) (numbering.rows_of 0 left)) (list_all (row_fits n) right) (left-fits n 0 left h) k

pub plan-fits : (n : ℕ) (table : List Denotation) (late : Bool) (rule : Rule) → list_all (denotes n) table ≡ true → PlanFits n (plan_of table late rule)
unfolding plan_of plan_of_spelled
plan-fits n table late rule h =
    let left = rows_spelled_out side.Left table rule.left in
    let right = rows_spelled_out side.Right table rule.right in
    let cs = choices_in_rows left in
    let by : (o : Option RuleFault) → PlanFits n (elim o [ Some fault ↦ Err fault | None ↦ with_right rule left (decided_rows cs 0 right) ]) = λ o. elim o as (λ o. PlanFits n (elim o [ Some fault ↦ Err fault | None ↦ with_right rule left (decided_rows cs 0 right) ])) [
      | Some fault ↦ tt
      | None ↦ with_right-fits n rule left (decided_rows cs 0 right) (said-fits n side.Left table h rule.left) (right-fits n cs 0 right (said-fits n side.Right table h rule.right))
    ] in
    by (fault_of table late rule)

-- the picks

abbrev pick_fits : ℕ → Pick → Bool
pick_fits n (pick.Object object) = below n object
pick_fits n (pick.Toward direction) = true

options-fit : (n : ℕ) (table : List Denotation) (d : Dir) → list_all (denotes n) table ≡ true → (c : Choice) → list_all (pick_fits n) (options_of table d c) ≡ true
unfolding options_of
options-fit n table d h c =
    let members : (o : Option Denotation) → IfSome o (λ d. denotes n d ≡ true) → list_all (below n) (option_map_or (λ d. d.members) o []) ≡ true = λ o. elim o as (λ o. IfSome o (λ d. denotes n d ≡ true) → list_all (below n) (option_map_or (λ d. d.members) o []) ≡ true) [
      | None ↦ λ e. refl
      | Some d ↦ λ e. e
    ] in
    let by : (a : Asked) → list_all (pick_fits n) (elim a [ asked.Member property ↦ map pick.Object (members_at table property) | asked.Direction class on ↦ map pick.Toward (class_directions d class) ]) ≡ true = λ a. elim a as (λ a. list_all (pick_fits n) (elim a [ asked.Member property ↦ map pick.Object (members_at table property) | asked.Direction class on ↦ map pick.Toward (class_directions d class) ]) ≡ true) [
      | asked.Member property ↦ each-map (below n) (pick_fits n) pick.Object (λ x e. e) (members_at table property) (members (slice_get table property) (each-get (denotes n) table property h))
      | asked.Direction class on ↦ each-map_all (pick_fits n) pick.Toward (λ x. refl) (class_directions d class)
    ] in
    by c.asked

picks-fit : (n : ℕ) (table : List Denotation) (plan : Plan) (d : Dir) → list_all (denotes n) table ≡ true → list_all (list_all (pick_fits n)) (picks_of table plan d) ≡ true
unfolding picks_of
picks-fit n table plan d h = each-product (pick_fits n) (map (options_of table d) plan.choices) (each-map_all (list_all (pick_fits n)) (options_of table d) (options-fit n table d h) plan.choices)

-- the items of instances

picked-below : (n : ℕ) (o : Option Pick) → 0 < n → IfSome o (λ p. pick_fits n p ≡ true) → below n (picked_object o) ≡ true
picked-below n None some h = lt-ltb 0 n some
picked-below n (Some (pick.Object object)) some h = h
picked-below n (Some (pick.Toward direction)) some h = lt-ltb 0 n some

object-below : (n : ℕ) (picks : List Pick) (x : TermName) → 0 < n → list_all (pick_fits n) picks ≡ true → name_fits n x ≡ true → below n (object_of picks x) ≡ true
object-below n picks (name.Object object) some h k = k
object-below n picks (name.Chosen i) some h k = picked-below n (slice_get picks i) some (each-get (pick_fits n) picks i h)

-- an item is of an object of the game, whose objects have these layers
abbrev pub item_is_of : List ℕ → Item → Bool
item_is_of layers item = below (length layers) item.object && (layer_of layers item.object == item.layer)

abbrev pub row_is_of : List ℕ → RuleRow → Bool
row_is_of layers row = list_all (list_all (item_is_of layers)) row.cells

abbrev pub instance_is_of : List ℕ → Instance → Bool
instance_is_of layers instance = list_all (row_is_of layers) instance.left && list_all (row_is_of layers) instance.right

item-is_of : (layers : List ℕ) (d : Dir) (picks : List Pick) → 0 < length layers → list_all (pick_fits (length layers)) picks ≡ true → (t : Term) → term_fits (length layers) t ≡ true → item_is_of layers (item_of layers d picks t) ≡ true
unfolding item_of
item-is_of layers d picks some h t k =
    let object = object_of picks t.name in
    and_from (below (length layers) object) (layer_of layers object == layer_of layers object) (object-below (length layers) picks t.name some h k) (eq-eqb (layer_of layers object) (layer_of layers object) refl)

cell-is_of : (layers : List ℕ) (d : Dir) (picks : List Pick) → 0 < length layers → list_all (pick_fits (length layers)) picks ≡ true → (ts : List Term) → list_all (term_fits (length layers)) ts ≡ true → list_all (item_is_of layers) (cell_of layers d picks ts) ≡ true
unfolding cell_of
cell-is_of layers d picks some h ts k = each-map (term_fits (length layers)) (item_is_of layers) (item_of layers d picks) (item-is_of layers d picks some h) ts k

rows-are_of : (layers : List ℕ) (d : Dir) (picks : List Pick) → 0 < length layers → list_all (pick_fits (length layers)) picks ≡ true → (rows : List (PlanRow Term)) → list_all (row_fits (length layers)) rows ≡ true → list_all (row_is_of layers) (rows_of layers d picks rows) ≡ true
unfolding rows_of row_of
rows-are_of layers d picks some h rows k =
    each-map (row_fits (length layers)) (row_is_of layers) (row_of layers d picks)
    (λ row e. each-map (list_all (term_fits (length layers))) (list_all (item_is_of layers)) (cell_of layers d picks) (cell-is_of layers d picks some h) row.cells e)
    rows k

instance-is_of : (layers : List ℕ) (below : ℕ) (plan : Plan) (d : Dir) → 0 < length layers → plan_fits (length layers) plan ≡ true → (picks : List Pick) → list_all (pick_fits (length layers)) picks ≡ true → instance_is_of layers (instance_of layers below plan d picks) ≡ true
unfolding instance_of
instance-is_of layers below plan d some fits picks h =
    let n = length layers in
    let a = and_parts (list_all (row_fits n) plan.left) (list_all (row_fits n) plan.right) fits in
    and_from (list_all (row_is_of layers) (rows_of layers d picks plan.left)) (list_all (row_is_of layers) (rows_of layers d picks plan.right))
    (rows-are_of layers d picks some h plan.left a.0)
    (rows-are_of layers d picks some h plan.right a.1)

pub instances-are_of : (table : List Denotation) (layers : List ℕ) (below : ℕ) (plan : Plan) → 0 < length layers → list_all (denotes (length layers)) table ≡ true → plan_fits (length layers) plan ≡ true → list_all (instance_is_of layers) (instances_of table layers below plan) ≡ true
unfolding instances_of possible_of
instances-are_of table layers below plan some h fits =
    let n = length layers in
    each-firsts (instance_is_of layers) same_instance (flat_map (possible_of table layers below plan) plan.directions)
    (each-flat_map_all (instance_is_of layers) (possible_of table layers below plan)
    (λ d. each-filter (instance_is_of layers) is_possible (map (instance_of layers below plan d) (picks_of table plan d))
    (each-map (list_all (pick_fits n)) (instance_is_of layers) (instance_of layers below plan d) (instance-is_of layers below plan d some fits) (picks_of table plan d) (picks-fit n table plan d h)))
    plan.directions)
