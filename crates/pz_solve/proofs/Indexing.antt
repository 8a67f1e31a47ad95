-- Digests with one more.
use Rattle.std.proofs.Common.{◌≡◌, ◌≢◌, ℕ, ◌≤◌, ◌⊎◌, inl, inr, List, [], ◌∷◌, ◌++◌, length, length-append, Option, Some, None, sym, ◌∙◌, subst, arith}
use Rattle.std.proofs.lemmas.Option.{slice_get_within}
use Rattle.pz_solve.specs.Indexed.{IsIndexed, IsNewest}
use Rattle.pz_store.proofs.Listing.{last_there, still_there, there_before}

-- below the places that there were, nothing changes
newest_still : (digests : List ℕ) (more below digest : ℕ) (newest : Option ℕ) → below ≤ length digests → IsNewest digests below digest newest → IsNewest (digests ++ more ∷ []) below digest newest
newest_still digests more below digest None within none = λ place low is. elim (there_before digests more place digest is) [
  | inl was ↦ none place low was
  | inr last ↦ omega (arith, last.0, low, within)
]
newest_still digests more below digest (Some newest) within (low, there, greatest) = (
  low,
  still_there digests more newest digest there,
  λ place less is. elim (there_before digests more place digest is) [
    | inl was ↦ greatest place less was
    | inr last ↦ absurd (omega (arith, last.0, less, within))
  ],
)

-- what is last once a digest was added: its own place, or what was last
newest_now : (digests : List ℕ) (more digest : ℕ) (newest : Option ℕ) → (digest ≡ more → ⊥) → IsNewest digests (length digests) digest newest → IsNewest (digests ++ more ∷ []) (length (digests ++ more ∷ [])) digest newest
newest_now digests more digest None other none = λ place low is. elim (there_before digests more place digest is) [
  | inl was ↦ none place (slice_get_within digests place digest was) was
  | inr last ↦ other (sym last.1)
]
newest_now digests more digest (Some newest) other (low, there, greatest) = (
  omega (arith, low, length-append digests (more ∷ [])),
  still_there digests more newest digest there,
  λ place less is. elim (there_before digests more place digest is) [
    | inl was ↦ greatest place (slice_get_within digests place digest was) was
    | inr last ↦ absurd (other (sym last.1))
  ],
)

its_own : (digests : List ℕ) (more : ℕ) → IsNewest (digests ++ more ∷ []) (length (digests ++ more ∷ [])) more (Some (length digests))
its_own digests more = (
  omega (arith, length-append digests (more ∷ [])),
  last_there digests more,
  λ place less is. omega (arith, less, length-append digests (more ∷ [])),
)

pub one_more_indexed : (digests : List ℕ) (olders : List (Option ℕ)) (newest after : ℕ → Option ℕ) (more : ℕ) (older : Option ℕ) → IsIndexed digests olders newest → older ≡ newest more →
    after more ≡ Some (length digests) → ((digest : ℕ) → (digest ≡ more → ⊥) → after digest ≡ newest digest) → IsIndexed (digests ++ more ∷ []) (olders ++ older ∷ []) after
one_more_indexed digests olders newest after more older indexed was own others = record {
  long = omega (arith, length-append digests (more ∷ []), length-append olders (older ∷ []), indexed.long);
  last = λ digest. by digest (same digest);
  before = λ place digest o is there. elim (there_before digests more place digest is) [
    | inl earlier ↦
        let within = slice_get_within digests place digest earlier in
        elim (there_before olders older place o there) [
          | inl it ↦ newest_still digests more place digest o (omega (arith, within)) (indexed.before place digest o earlier it)
          | inr past ↦ absurd (omega (arith, past.0, within, indexed.long))
        ]
    | inr last ↦
        elim (there_before olders older place o there) [
          | inl it ↦ absurd (omega (arith, last.0, slice_get_within olders place o it, indexed.long))
          | inr it ↦
              let here : IsNewest (digests ++ more ∷ []) (length digests) more (newest more) = newest_still digests more (length digests) more (newest more) (omega arith) (indexed.last more) in
              subst (λ (n : ℕ). IsNewest (digests ++ more ∷ []) n digest o) (sym last.0)
              (subst (λ (d : ℕ). IsNewest (digests ++ more ∷ []) (length digests) d o) last.1 (subst (λ (p : Option ℕ). IsNewest (digests ++ more ∷ []) (length digests) more p) (sym was ∙ it.1) here))
        ]
  ];
} where
  same : (digest : ℕ) → (digest ≡ more) ⊎ (digest ≢ more)
  same digest = grind arith

  by : (digest : ℕ) → (digest ≡ more) ⊎ (digest ≢ more) → IsNewest (digests ++ more ∷ []) (length (digests ++ more ∷ [])) digest (after digest)
  by digest (inl is) =
      subst (λ (d : ℕ). IsNewest (digests ++ more ∷ []) (length (digests ++ more ∷ [])) d (after d)) (sym is)
      (subst (λ (o : Option ℕ). IsNewest (digests ++ more ∷ []) (length (digests ++ more ∷ [])) more o) (sym own) (its_own digests more))
  by digest (inr other) = subst (λ (o : Option ℕ). IsNewest (digests ++ more ∷ []) (length (digests ++ more ∷ [])) digest o) (sym (others digest other)) (newest_now digests more digest (newest digest) other (indexed.last digest))
