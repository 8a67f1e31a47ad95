-- What is kept of the sources that were read, after one more.
use Rattle.std.proofs.Common.{◌≡◌, ℕ, Bool, true, false, cond, List, Some, Result, Ok, Err, String, Global, unwrap_or, refl, ap, sym, ◌∙◌}
use Rattle.std.specs.Prelude.{OnOk, OnErr}
use Rattle.std.specs.String.{string_bytes, string_eq}
use Rattle.std.specs.Str.{bytes_eq}
use Rattle.std.specs.Cmp.Lexicographic.{bytes_decides}
use Rattle.std.specs.Map.{update, lookup}
use Rattle.std.specs.HashMap.{HashMap, get_by_text, IsUnchanged, Updates}
use Rattle.std.specs.declared.sync.Arc.{Arc}
use Rattle.std.proofs.lemmas.Map.Text.{hash_map_updates_text}
use Rattle.pz_case.specs.declared.item.Refusal.{Refusal}
use Rattle.pz_case.specs.Rulebook.{RulebookState}
use Rattle.pz_job.specs.Rulebooks.{rulebook_of, shared_in, AreKept}

abbrev Answer : Type 0
Answer = Result (Arc RulebookState Global) Refusal

module _ {S : Type 0} (old new : HashMap (String Global) Answer S) (kept : AreKept old) where
  -- of the source that is added its own answer is kept, of any other what was kept before
  kept_one_more : (source : List ℕ) (answer : Answer) → shared_in answer ≡ rulebook_of source
      → ((text : List ℕ) → get_by_text new text ≡ update bytes_eq (get_by_text old) source (Some answer) text) → AreKept new
  kept_one_more source answer is after text found there = by (bytes_eq source text) refl
    where
      by : (b : Bool) → bytes_eq source text ≡ b → shared_in found ≡ rulebook_of text
      by true same =
          let now : Some found ≡ Some answer = sym there ∙ after text ∙ ap (λ b. cond b (Some answer) (get_by_text old text)) same in
          ap (λ o. shared_in (unwrap_or o found)) now ∙ is ∙ ap rulebook_of ((bytes_decides source text).0 same)
      by false other = kept text found (sym (after text ∙ ap (λ b. cond b (Some answer) (get_by_text old text)) other) ∙ there)

  -- whether the answer was put there or memory was refused
  pub kept_after : {R E : Type 0} (result : Result R E) (text : String Global) (answer : Answer) → shared_in answer ≡ rulebook_of (string_bytes text)
      → OnOk result (Updates string_eq old new text (Some answer)) → OnErr result (IsUnchanged old new) → AreKept new
  kept_after (Ok _) text answer is updates same = kept_one_more (string_bytes text) answer is (hash_map_updates_text (string_bytes text) old new (Some answer) updates)
  kept_after (Err _) text answer is updates same =
      λ source found there. kept source found (ap (λ entries. lookup (λ key. bytes_eq source (string_bytes key)) entries) (sym same) ∙ there)
