-- Packed lines, unpacked one by one: some went out, some are kept back, and some are left to be unpacked.
use Rattle.std.proofs.Common.{◌≡◌, ℕ, ◌+◌, ◌<◌, ◌≤◌, List, [], ◌++◌, length, drop, get_or, sym, ap, ◌∙◌}
use Rattle.std.specs.List.{concat}
use Rattle.std.proofs.lemmas.List.{append_assoc, at_drop_more, drop_all}
use Rattle.pz_lines.specs.declared.packed.Part.{Part}
use Rattle.pz_lines.specs.Packed.{next_line, lines_of_parts}

-- the next line is put behind those that are kept back
pub next_unpacked : (places kept last line held more : List ℕ) (parts items : List Part) (i : ℕ) (none : Part) → items ≡ parts → i < length items
    → more ≡ held ++ next_line places kept last (get_or items i none) → line ≡ next_line places kept last (get_or items i none)
    → held ++ lines_of_parts places kept last (drop i parts) ≡ more ++ lines_of_parts places kept line (drop (i + 1) parts)
next_unpacked places kept last line held more parts items i none p within m l =
    let next = next_line places kept last (get_or parts i none) in
    let rest = drop (i + 1) parts in
    let here : i < length parts = rw p at within in
    rw (m, l, p) (ap (λ xs. held ++ xs) (at_drop_more (lines_of_parts places kept last) parts i none here) ∙ sym (append_assoc held next (lines_of_parts places kept next rest)))

-- some of what is kept back goes out
pub more_out : (whole sent now held left rest : List ℕ) → whole ≡ sent ++ (held ++ rest) → held ≡ now ++ left → whole ≡ (sent ++ now) ++ (left ++ rest)
more_out whole sent now held left rest w h = w ∙ (ap (λ xs. sent ++ (xs ++ rest)) h ∙ (ap (λ xs. sent ++ xs) (append_assoc now left rest) ∙ sym (append_assoc sent now (left ++ rest))))

-- the next text is put behind what is kept back
pub next_text : (texts : List (List ℕ)) (text held : List ℕ) (i : ℕ) → i < length texts → text ≡ get_or texts i text → held ++ concat (drop i texts) ≡ (held ++ text) ++ concat (drop (i + 1) texts)
next_text texts text held i within is =
    ap (λ xs. held ++ xs) (at_drop_more concat texts i text within ∙ ap (λ xs. xs ++ concat (drop (i + 1) texts)) (sym is)) ∙ sym (append_assoc held text (concat (drop (i + 1) texts)))

-- no text is left
pub no_text : (texts : List (List ℕ)) (held : List ℕ) (i : ℕ) → length texts ≤ i → held ++ concat (drop i texts) ≡ held ++ []
no_text texts held i past = ap (λ xs. held ++ concat xs) (drop_all i texts past)
