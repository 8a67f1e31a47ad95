-- A line, packed: what is kept of it makes it again.
use Rattle.std.proofs.Common.{◌≡◌, ℕ, ◌+◌, ◌*◌, ◌<◌, ◌≤◌, suc, List, [], ◌∷◌, ◌++◌, length, take, drop, refl, sym, ap, ap₂, subst, ◌∙◌, inl, inr, arith}
use borrow.Rule.Slice.PartMut.{put_mid}
use Rattle.std.specs.List.{All, fold}
use Rattle.std.specs.Prelude.{nat_le}
use Rattle.std.proofs.lemmas.Bool.{cases_Bool, leb-true, le-leb, lt-leb}
use Rattle.std.proofs.lemmas.List.{append_assoc, append-nil, drop-append-le, drop-drop, drop_all, length-append, length-drop, length-take, take-append-drop, take-append-le, take_all}
use Rattle.std.proofs.Math.Seq.{take-append_seam}
use Rattle.std.proofs.lemmas.List.Elements.{All-push}
use Rattle.std.proofs.lemmas.List.Sums.{fold_push}
use Rattle.pz_lines.specs.declared.packed.Part.{Part}
use Rattle.pz_lines.specs.declared.packed.TheConstants.{CHUNK}
use Rattle.pz_lines.specs.Packed.{ArePacked, AreChanges, HaveGrown, IsPartOf, with_chunks, line_of, next_line, with_bytes, tail_of, lines_of_parts}
use Rattle.pz_lines.proofs.Cut.{take_more_of}

-- other bytes from a place on, if so many are there
pub replaced_at : (line : List ℕ) (place : ℕ) (own : List ℕ) → place + length own ≤ length line → with_bytes line place own ≡ take place line ++ own ++ drop (place + length own) line
unfolding with_bytes
replaced_at line place own within = rw (le-leb (place + length own) (length line) within) refl

-- bytes that were copied over a part of a line
pub replaced_by : (line own new : List ℕ) (place count : ℕ) → place + length own ≤ length line → count ≡ length own → new ≡ own → put_mid place count line new ≡ with_bytes line place own
replaced_by line own new place count within many is =
    rw (replaced_at line place own within, is, many) (ap (λ rest. take place line ++ (own ++ rest)) (drop-drop (length own) place line) ∙ sym (append_assoc (take place line) own (drop (place + length own) line)))

pub replaced_past : (line : List ℕ) (place : ℕ) (own : List ℕ) → length line < place + length own → line ≡ with_bytes line place own
unfolding with_bytes
replaced_past line place own past = rw (lt-leb (place + length own) (length line) past) refl

-- a line is as long with other bytes
length-replaced : (line : List ℕ) (place : ℕ) (own : List ℕ) → length (with_bytes line place own) ≡ length line
unfolding with_bytes
length-replaced line place own = elim (cases_Bool (nat_le (place + length own) (length line))) [
  | inl is ↦ rw is (let h = leb-true _ _ is in simp (length-append, length-take, length-drop) (omega arith))
  | inr is ↦ rw is refl
]

-- what is replaced stands before what follows
replaced_before : (line more : List ℕ) (place : ℕ) (own : List ℕ) → place + length own ≤ length line → with_bytes (line ++ more) place own ≡ with_bytes line place own ++ more
replaced_before line more place own within =
    let here : place ≤ length line = omega arith in
    let wider : place + length own ≤ length (line ++ more) = omega (arith, length-append line more) in
    replaced_at (line ++ more) place own wider
    ∙ rw (take-append-le place line more here, drop-append-le (place + length own) line more within, replaced_at line place own within)
    (sym (append_assoc (take place line ++ own) (drop (place + length own) line) more))

-- what is replaced stands behind a front
replaced_behind : (front old own : List ℕ) → length old ≡ length own → with_bytes (front ++ old) (length front) own ≡ front ++ own
replaced_behind front old own long =
    let within : length front + length own ≤ length (front ++ old) = omega (arith, length-append front old) in
    replaced_at (front ++ old) (length front) own within
    ∙ rw (take-append_seam front old, drop_all (length front + length own) (front ++ old) (omega (arith, length-append front old))) (append-nil (front ++ own))

module _ (size : ℕ) where
  changed_before : (line more places own : List ℕ) → All (λ place. place + size ≤ length line) places → with_chunks size (line ++ more) places own ≡ with_chunks size line places own ++ more
  changed_before line more [] own within = refl
  changed_before line more (place ∷ places) own within =
      let chunk = take size own in
      let here : place + length chunk ≤ length line = omega (arith, within 0 place (omega arith), length-take size own) in
      rw (replaced_before line more place chunk here)
      (changed_before (with_bytes line place chunk) more places (drop size own) (λ k d l. omega (arith, within (suc k) d (omega arith), length-replaced line place chunk)))

  -- a change more
  changed_more : (line places own chunk : List ℕ) (place : ℕ) → length own ≡ length places * size → length chunk ≡ size → with_chunks size line (places ++ place ∷ []) (own ++ chunk) ≡ with_bytes (with_chunks size line places own) place chunk
  changed_more line [] [] chunk place long whole = rw (take_all size chunk (omega arith)) refl
  changed_more line [] (b ∷ own) chunk place long whole = absurd (omega arith)
  changed_more line (first ∷ places) own chunk place long whole =
      let enough : size ≤ length own = omega arith in
      ap₂ (λ one rest. with_chunks size (with_bytes line first one) (places ++ place ∷ []) rest) (take-append-le size own chunk enough) (drop-append-le size own chunk enough)
      ∙ changed_more (with_bytes line first (take size own)) places (drop size own) chunk place (omega (arith, length-drop size own)) whole

  -- a tail behind the chunks
  changed_still : (line places own tail : List ℕ) → length own ≡ length places * size → (with_chunks size line places (own ++ tail) ≡ with_chunks size line places own) × (tail_of size places (own ++ tail) ≡ tail)
  changed_still line [] [] tail long = (refl, refl)
  changed_still line [] (b ∷ own) tail long = absurd (omega arith)
  changed_still line (place ∷ places) own tail long =
      let enough : size ≤ length own = omega arith in
      let rest = changed_still (with_bytes line place (take size own)) places (drop size own) tail (omega (arith, length-drop size own)) in
      (rw (take-append-le size own tail enough, drop-append-le size own tail enough) rest.0, rw (drop-append-le size own tail enough) rest.1)

-- up to here the line has these changes, and so many bytes more are the same
pub alike_more : (last line places bytes : List ℕ) (at n : ℕ) → AreChanges last line at places bytes → at + n ≤ length last → take n (drop at last) ≡ take n (drop at line) → AreChanges last line (at + n) places bytes
alike_more last line places bytes at n are here same =
    let long : length (take at last) ≡ at = omega (arith, length-take at last) in
    record {
      same = rw (take_more_of at n last, take_more_of at n line)
          (changed_before CHUNK (take at last) (take n (drop at last)) places bytes (λ k d l. omega (arith, are.before k d l)) ∙ ap₂ (λ xs ys. xs ++ ys) are.same same);
      before = λ k d l. omega (arith, are.before k d l);
      chunks = are.chunks;
      few = omega (arith, are.few);
    }

-- and the next chunk is another
pub chunk_more : (last line places bytes chunk : List ℕ) (at : ℕ) → AreChanges last line at places bytes → at + CHUNK ≤ length last → at + CHUNK ≤ length line → chunk ≡ take CHUNK (drop at line) → AreChanges last line (at + CHUNK) (places ++ at ∷ []) (bytes ++ chunk)
chunk_more last line places bytes chunk at are here there is =
    let long : length chunk ≡ CHUNK = omega (arith, ap length is, length-take CHUNK (drop at line), length-drop at line) in
    let front : length (take at line) ≡ at = omega (arith, length-take at line) in
    let old : length (take CHUNK (drop at last)) ≡ length chunk = omega (arith, length-take CHUNK (drop at last), length-drop at last) in
    let placed : with_bytes (take at line ++ take CHUNK (drop at last)) at chunk ≡ take at line ++ chunk = subst (λ n. with_bytes (take at line ++ take CHUNK (drop at last)) n chunk ≡ take at line ++ chunk) front (replaced_behind (take at line) (take CHUNK (drop at last)) chunk old) in
    let before : with_chunks CHUNK (take (at + CHUNK) last) places bytes ≡ take at line ++ take CHUNK (drop at last) =
    ap (λ xs. with_chunks CHUNK xs places bytes) (take_more_of at CHUNK last)
    ∙ (changed_before CHUNK (take at last) (take CHUNK (drop at last)) places bytes (λ k d l. omega (arith, are.before k d l, length-take at last)) ∙ ap (λ xs. xs ++ take CHUNK (drop at last)) are.same) in
    record {
      same = changed_more CHUNK (take (at + CHUNK) last) places bytes chunk at are.chunks long
          ∙ (ap (λ xs. with_bytes xs at chunk) before ∙ (placed ∙ (ap (λ xs. take at line ++ xs) is ∙ sym (take_more_of at CHUNK line))));
      before = All-push (λ place. place + CHUNK ≤ at + CHUNK) places at (λ k d l. omega (arith, are.before k d l)) (omega arith);
      chunks = omega (arith, are.chunks, length-append bytes chunk, length-append places (at ∷ []));
      few = omega (arith, are.few, length-append bytes chunk);
    }

-- what was kept of a line makes it again
pub line_made : (last line places bytes : List ℕ) (front : ℕ) → AreChanges last line front places bytes → line_of last places (bytes ++ drop front line) front ≡ line
unfolding line_of
line_made last line places bytes front are =
    let still = changed_still CHUNK (take front last) places bytes (drop front line) are.chunks in
    ap₂ (λ xs ys. xs ++ ys) (still.0 ∙ are.same) still.1 ∙ take-append-drop front line

-- what a part has of its own stays the same where more is kept behind it
part_stays : {X : Type 0} (from count : ℕ) (kept more : List X) → from + count ≤ length kept → take count (drop from (kept ++ more)) ≡ take count (drop from kept)
part_stays from count kept more within = rw (drop-append-le from kept more (omega arith)) (take-append-le count (drop from kept) more (omega (arith, length-drop from kept)))

module _ (places kept more bytes : List ℕ) where
  line_stays : (last : List ℕ) (part : Part) → part.place + part.changes ≤ length places → part.from + part.own ≤ length kept → next_line (places ++ more) (kept ++ bytes) last part ≡ next_line places kept last part
  line_stays last part placed within = ap₂ (λ here own. line_of last here own part.front) (part_stays part.place part.changes places more placed) (part_stays part.from part.own kept bytes within)

  lines_stay : (last : List ℕ) (parts : List Part) → All (λ part. part.place + part.changes ≤ length places) parts → All (λ part. part.from + part.own ≤ length kept) parts
      → (lines_of_parts (places ++ more) (kept ++ bytes) last parts ≡ lines_of_parts places kept last parts) × (fold (next_line (places ++ more) (kept ++ bytes)) last parts ≡ fold (next_line places kept) last parts)
  lines_stay last [] placed within = (refl, refl)
  lines_stay last (part ∷ parts) placed within =
      let here = line_stays last part (placed 0 part (omega arith)) (within 0 part (omega arith)) in
      let rest = lines_stay (next_line places kept last part) parts (λ k d l. placed (suc k) d (omega arith)) (λ k d l. within (suc k) d (omega arith)) in
      (rw here (ap (λ xs. next_line places kept last part ++ xs) rest.0), rw here rest.1)

lines_more : (places kept last : List ℕ) (parts : List Part) (part : Part) → lines_of_parts places kept last (parts ++ part ∷ []) ≡ lines_of_parts places kept last parts ++ next_line places kept (fold (next_line places kept) last parts) part
lines_more places kept last [] part = append-nil (next_line places kept last part)
lines_more places kept last (first ∷ parts) part =
    ap (λ xs. next_line places kept last first ++ xs) (lines_more places kept (next_line places kept last first) parts part)
    ∙ sym (append_assoc (next_line places kept last first) (lines_of_parts places kept (next_line places kept last first) parts) (next_line places kept (fold (next_line places kept) (next_line places kept last first) parts) part))

module _ (places kept places_now kept_now last : List ℕ) (parts : List Part) (grown : HaveGrown places kept places_now kept_now) (are : ArePacked places kept parts last) where
  stay : (lines_of_parts places_now kept_now [] parts ≡ lines_of_parts places kept [] parts) × (fold (next_line places_now kept_now) [] parts ≡ fold (next_line places kept) [] parts)
  stay = rw (grown.placed, grown.grown) (lines_stay places kept grown.more_places grown.more_bytes [] parts are.placed are.within)

  -- more is kept, but for no part yet
  pub packed_still : ArePacked places_now kept_now parts last
  packed_still = record {
    placed = λ k d l. omega (arith, are.placed k d l, ap length grown.placed, length-append places grown.more_places);
    within = λ k d l. omega (arith, are.within k d l, ap length grown.grown, length-append kept grown.more_bytes);
    at_hand = are.at_hand ∙ sym stay.1;
  }

  pub same_lines : lines_of_parts places_now kept_now [] parts ≡ lines_of_parts places kept [] parts
  same_lines = stay.0

  module _ (line found bytes : List ℕ) (front : ℕ) (part : Part) (changes : AreChanges last line front found bytes) (is : IsPartOf places_now kept_now found (bytes ++ drop front line) front part) where
    made : next_line places_now kept_now last part ≡ line
    made = rw (is.changes, is.own, is.front) (line_made last line found bytes front changes)

    -- a part more
    pub one_packed : ArePacked places_now kept_now (parts ++ part ∷ []) line
    one_packed = record {
      placed = All-push (λ part. part.place + part.changes ≤ length places_now) parts part packed_still.placed is.placed;
      within = All-push (λ part. part.from + part.own ≤ length kept_now) parts part packed_still.within is.within;
      at_hand = sym made ∙ (ap (λ xs. next_line places_now kept_now xs part) packed_still.at_hand ∙ sym (fold_push (next_line places_now kept_now) [] parts part));
    }

    pub one_line_more : lines_of_parts places_now kept_now [] (parts ++ part ∷ []) ≡ lines_of_parts places kept [] parts ++ line
    one_line_more = lines_more places_now kept_now [] parts part ∙ ap₂ (λ xs ys. xs ++ ys) same_lines (ap (λ xs. next_line places_now kept_now xs part) (sym packed_still.at_hand) ∙ made)
