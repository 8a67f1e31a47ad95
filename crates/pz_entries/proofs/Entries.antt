-- The entries of a file, case by case and one after the other.
use Rattle.std.proofs.Common.{◌≡◌, ℕ, suc, ◌+◌, ◌<◌, ◌≤◌, List, [], ◌∷◌, ◌++◌, map, length, drop, get_or, Some, None, Result, Ok, Err, refl, ap, sym, ◌∙◌, add-one}
use Rattle.std.specs.Prelude.{IfOk, IfErr}
use Rattle.std.specs.Result.{result_map_both}
use Rattle.std.proofs.lemmas.Bool.{lt-ltb, le-ltb}
use Rattle.std.proofs.lemmas.List.{length-map, append_assoc, at_drop_more}
use Rattle.serde_json.specs.Data.{Data}
use Rattle.serde_json.specs.Read.{read}
use Rattle.serde_json.specs.Find.{as_array}
use Rattle.serde_json.specs.View.{view as data_of, items_view}
use Rattle.serde_json.specs.declared.value.Value.{Value}
use Rattle.pz_entries.specs.declared.entry.Entry.{Entry}
use Rattle.pz_entries.specs.declared.fault.FileFault.{FileFault}
use Rattle.pz_entries.specs.declared.fault.FileFault.TheVariants.{NotJson, TooMany}
use Rattle.pz_entries.specs.Entry.{entry_of, ◌>=>◌}
use Rattle.pz_entries.specs.File.{entries_from, entries_of}
use Rattle.pz_entries.proofs.Gather.{list_of-array, list_of-none}

-- what the file says in the end, behind these entries
abbrev pub ending : ℕ → List Entry → List Value → Result (List Entry) FileFault
ending n done rest = entries_from n (map data_of rest) >=> (λ es. Ok (done ++ es))

behind : (done : List Entry) (e : Entry) (r : Result (List Entry) FileFault) → (r >=> (λ es. Ok (e ∷ es))) >=> (λ es. Ok (done ++ es)) ≡ r >=> (λ es. Ok ((done ++ e ∷ []) ++ es))
behind done e (Ok es) = ap Ok (sym (append_assoc done (e ∷ []) es))
behind done e (Err fault) = refl

ending_cons : (n : ℕ) (done : List Entry) (v : Value) (e : Entry) (rest : List Value) → entry_of n (data_of v) ≡ Ok e → ending n done (v ∷ rest) ≡ ending (n + 1) (done ++ e ∷ []) rest
ending_cons n done v e rest h = rw (h, add-one) (behind done e (entries_from (suc n) (map data_of rest)))

-- one more entry
pub ending_more : (n : ℕ) (done after : List Entry) (vs : List Value) (v : Value) (e : Entry) → n < length vs → v ≡ get_or vs n v → entry_of n (data_of v) ≡ Ok e → after ≡ done ++ e ∷ []
    → ending (n + 1) after (drop (n + 1) vs) ≡ ending n done (drop n vs)
ending_more n done after vs v e h is read pushed =
    let first : ending n done (v ∷ drop (n + 1) vs) ≡ ending (n + 1) (done ++ e ∷ []) (drop (n + 1) vs) = ending_cons n done v e (drop (n + 1) vs) read in
    ap (λ l. ending (n + 1) l (drop (n + 1) vs)) pushed ∙ sym first ∙ sym (at_drop_more (ending n done) vs n v h ∙ ap (λ x. ending n done (x ∷ drop (n + 1) vs)) (sym is))

pub too_long : (text : List ℕ) → 16777216 < length text → entries_of text ≡ Err TooMany
unfolding entries_of
too_long text h = rw (lt-ltb 16777216 (length text) h) refl

pub not_read : (text : List ℕ) → length text ≤ 16777216 → read text ≡ None → entries_of text ≡ Err NotJson
unfolding entries_of
not_read text h e = rw (le-ltb 16777216 (length text) h, e) refl

pub no_list : (text : List ℕ) (d : Data) → length text ≤ 16777216 → read text ≡ Some d → None ≡ as_array d → entries_of text ≡ Err NotJson
unfolding entries_of
no_list text d h e absent = rw (le-ltb 16777216 (length text) h, e, list_of-none d absent) refl

pub too_many : (text : List ℕ) (d : Data) (vs : List Value) → length text ≤ 16777216 → read text ≡ Some d → Some (items_view vs) ≡ as_array d → 65536 < length vs → entries_of text ≡ Err TooMany
unfolding entries_of
too_many text d vs h e list many = rw (le-ltb 16777216 (length text) h, e, list_of-array d vs list, length-map vs data_of, lt-ltb 65536 (length vs) many) refl

pub listed_so : (text : List ℕ) (d : Data) (vs : List Value) → length text ≤ 16777216 → read text ≡ Some d → Some (items_view vs) ≡ as_array d → length vs ≤ 65536 → entries_of text ≡ entries_from 0 (map data_of vs)
unfolding entries_of
listed_so text d vs h e list few = rw (le-ltb 16777216 (length text) h, e, list_of-array d vs list, length-map vs data_of, le-ltb 65536 (length vs) few) refl

-- what was read is what a definition says, seen by a view
pub seen_ok : {A B E : Type 0} (view : A → B) (r : Result A E) (said : Result B E) → result_map_both view (λ fault. fault) r ≡ said → IfOk r (λ x. said ≡ Ok (view x))
seen_ok view (Ok x) said e = sym e
seen_ok view (Err fault) said e = tt

pub seen_err : {A B E : Type 0} (view : A → B) (r : Result A E) (said : Result B E) → result_map_both view (λ fault. fault) r ≡ said → IfErr r (λ fault. said ≡ Err fault)
seen_err view (Ok x) said e = tt
seen_err view (Err fault) said e = sym e
