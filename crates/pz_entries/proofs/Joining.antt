-- The text of a set of names reads as the set.
use Rattle.std.proofs.Common.{◌≡◌, ℕ, suc, ◌<◌, ◌==◌, not, List, [], ◌∷◌, ◌++◌, length, fold, true, false, All, refl, ap, sym, ◌∙◌, arith}
use Rattle.std.specs.declared.cmp.Ordering.{Ordering}
use Rattle.std.specs.declared.cmp.Ordering.TheVariants.{Less, Equal, Greater}
use Rattle.std.specs.Ordering.{nat_cmp, match_ordering, ordering_reverse}
use Rattle.std.specs.Cmp.Lexicographic.{slice_cmp}
use Rattle.std.specs.BTreeSet.{insert_key}
use Rattle.std.specs.List.{slice_split, list_all}
use Rattle.pz_base.specs.Name.{lower_case}
use Rattle.std.proofs.lemmas.Cmp.{nat_list_cmp_total}
use Rattle.std.proofs.lemmas.List.{append_assoc, append-nil}
use Rattle.std.proofs.lemmas.List.Elements.{All-nil, All-cons}
use Rattle.std.proofs.lemmas.List.Splits.{slice_split_at, slice_split_none}
use Rattle.std.proofs.lemmas.Bool.{and_parts, not-true, ne_eqb}
use Rattle.pz_record.specs.CellNames.{with_name, set_of}
use Rattle.pz_json_text.specs.CellTexts.{text_of_names}
use Rattle.pz_entries.specs.Names.{with_word, name_set, is_space}

-- a name as a game keeps it: not empty, with no space, folded
pub record IsGameName (name : List ℕ) : Type 0 where
  pub some : 0 < length name
  pub one_word : list_all (λ b. not (is_space b)) name ≡ true
  pub is_folded : lower_case name ≡ name

abbrev pub AreGameNames : List (List ℕ) → Type 0
AreGameNames [] = Unit {0}
AreGameNames (name ∷ names) = IsGameName name × AreGameNames names

abbrev order : List ℕ → List ℕ → Ordering
order = slice_cmp nat_cmp

-- each of the names comes before this one
abbrev Before : List (List ℕ) → List ℕ → Type 0
Before [] k = Unit {0}
Before (x ∷ xs) k = (order k x ≡ Greater) × Before xs k

-- this one comes before each of the names
abbrev After : List ℕ → List (List ℕ) → Type 0
After x [] = Unit {0}
After x (y ∷ ys) = (order y x ≡ Greater) × After x ys

abbrev pub Ascends : List (List ℕ) → Type 0
Ascends [] = Unit {0}
Ascends (x ∷ xs) = After x xs × Ascends xs

reversed : (o p : Ordering) → o ≡ ordering_reverse p → p ≡ Less → o ≡ Greater
reversed o p e f = e ∙ ap ordering_reverse f

less : (o p : Ordering) → o ≡ ordering_reverse p → p ≡ Greater → o ≡ Less
less o p e f = e ∙ ap ordering_reverse f

-- z after y after x
trans : (x y z : List ℕ) → order y x ≡ Greater → order z y ≡ Greater → order z x ≡ Greater
trans x y z h k =
    let t = nat_list_cmp_total in
    reversed (order z x) (order x z) (t.antisymm z x) (t.trans x y z (less (order x y) (order y x) (t.antisymm x y) h) (less (order y z) (order z y) (t.antisymm y z) k))

after_all : (x y : List ℕ) (ys : List (List ℕ)) → order y x ≡ Greater → After y ys → After x ys
after_all x y [] h a = tt
after_all x y (z ∷ zs) h a = (trans x y z h a.0, after_all x y zs h a.1)

-- a name that comes after x, put among names that do
after_put : (x k : List ℕ) (ys : List (List ℕ)) → order k x ≡ Greater → After x ys → After x (insert_key order ys k)
after_put x k [] h a = (h, tt)
after_put x k (y ∷ ys) h a = by (after_put x k ys h a.1) (order k y)
  where
    by : After x (insert_key order ys k) → (o : Ordering) → After x (match_ordering o (k ∷ y ∷ ys) (y ∷ ys) (y ∷ insert_key order ys k))
    by rest Less = (h, a)
    by rest Equal = a
    by rest Greater = (a.0, rest)

put_ascends : (k : List ℕ) (ys : List (List ℕ)) → Ascends ys → Ascends (insert_key order ys k)
put_ascends k [] a = (tt, tt)
put_ascends k (y ∷ ys) a = by (put_ascends k ys a.1) (order k y) refl
  where
    by : Ascends (insert_key order ys k) → (o : Ordering) → order k y ≡ o → Ascends (match_ordering o (k ∷ y ∷ ys) (y ∷ ys) (y ∷ insert_key order ys k))
    by rest Less e =
        let behind : order y k ≡ Greater = reversed (order y k) (order k y) (nat_list_cmp_total.antisymm y k) e in
        ((behind, after_all k y ys behind a.0), a)
    by rest Equal e = a
    by rest Greater e = (after_put y k ys e a.0, rest)

-- a set of names ascends
pub set_ascends : (done names : List (List ℕ)) → Ascends done → Ascends (fold with_name done names)
unfolding with_name
set_ascends done [] a = a
set_ascends done (n ∷ names) a = set_ascends (with_name done n) names (put_ascends n done a)

put_last : (xs : List (List ℕ)) (k : List ℕ) → Before xs k → insert_key order xs k ≡ xs ++ k ∷ []
put_last [] k b = refl
put_last (x ∷ xs) k b = rw (b.0, put_last xs k b.1) refl

before_more : (xs : List (List ℕ)) (x k : List ℕ) → Before xs k → order k x ≡ Greater → Before (xs ++ x ∷ []) k
before_more [] x k b h = (h, tt)
before_more (y ∷ ys) x k b h = (b.0, before_more ys x k b.1 h)

abbrev AllBefore : List (List ℕ) → List (List ℕ) → Type 0
AllBefore done [] = Unit {0}
AllBefore done (n ∷ names) = Before done n × AllBefore done names

all_before_more : (done : List (List ℕ)) (n : List ℕ) (names : List (List ℕ)) → AllBefore done names → After n names → AllBefore (done ++ n ∷ []) names
all_before_more done n [] b a = tt
all_before_more done n (m ∷ names) b a = (before_more done n m b.0 a.0, all_before_more done n names b.1 a.1)

word_put : (done : List (List ℕ)) (n : List ℕ) → IsGameName n → Before done n → with_word done n ≡ done ++ n ∷ []
unfolding with_word with_name
word_put done [] g b = absurd (let h : 0 < length {A = ℕ} [] = g.some in omega arith)
word_put done (c ∷ n) g b =
    let some : (suc (length n) == 0) ≡ false = ne_eqb (suc (length n)) 0 (λ e. cc) in
    rw some (ap (insert_key order done) g.is_folded ∙ put_last done (c ∷ n) b)

words_put : (done names : List (List ℕ)) → AreGameNames names → Ascends names → AllBefore done names → fold with_word done names ≡ done ++ names
words_put done [] g a b = sym (append-nil done)
words_put done (n ∷ names) g a b =
    ap (λ d. fold with_word d names) (word_put done n g.0 b.0) ∙ words_put (done ++ n ∷ []) names g.1 a.1 (all_before_more done n names b.1 a.0) ∙ append_assoc done (n ∷ []) names

no_space : (n : List ℕ) → list_all (λ b. not (is_space b)) n ≡ true → All (λ b. is_space b ≡ false) n
no_space [] h = All-nil (λ b. is_space b ≡ false)
no_space (c ∷ n) h =
    let parts = and_parts (not (is_space c)) (list_all (λ b. not (is_space b)) n) h in
    All-cons (λ b. is_space b ≡ false) c n (not-true (is_space c) parts.0) (no_space n parts.1)

-- names that are joined are parted again
pub parted : (n : List ℕ) (names : List (List ℕ)) → AreGameNames (n ∷ names) → slice_split is_space (text_of_names (n ∷ names)) ≡ n ∷ names
parted n [] g = slice_split_none is_space n (no_space n g.0.one_word)
parted n (m ∷ names) g = slice_split_at is_space n 32 (text_of_names (m ∷ names)) (no_space n g.0.one_word) refl ∙ ap (λ l. n ∷ l) (parted m names g.1)

none_before : (names : List (List ℕ)) → AllBefore [] names
none_before [] = tt
none_before (n ∷ names) = (tt, none_before names)

-- the text of names in order reads as the names
pub joined_reads : (names : List (List ℕ)) → AreGameNames names → Ascends names → name_set (text_of_names names) ≡ names
unfolding name_set with_word
joined_reads [] g a = refl
joined_reads (n ∷ names) g a = ap (fold with_word []) (parted n names g) ∙ words_put [] (n ∷ names) g a (none_before (n ∷ names))

game_put : (k : List ℕ) (ys : List (List ℕ)) → IsGameName k → AreGameNames ys → AreGameNames (insert_key order ys k)
game_put k [] g a = (g, tt)
game_put k (y ∷ ys) g a = by (game_put k ys g a.1) (order k y)
  where
    by : AreGameNames (insert_key order ys k) → (o : Ordering) → AreGameNames (match_ordering o (k ∷ y ∷ ys) (y ∷ ys) (y ∷ insert_key order ys k))
    by rest Less = (g, a)
    by rest Equal = a
    by rest Greater = (a.0, rest)

set_of_game : (done names : List (List ℕ)) → AreGameNames done → AreGameNames names → AreGameNames (fold with_name done names)
unfolding with_name
set_of_game done [] d g = d
set_of_game done (n ∷ names) d g = set_of_game (with_name done n) names (game_put n done g.0 d) g.1

-- the text of a set of a game's names reads as the set
pub set_reads : (names : List (List ℕ)) → AreGameNames names → name_set (text_of_names (set_of names)) ≡ set_of names
set_reads names g = joined_reads (set_of names) (set_of_game [] names tt g) (set_ascends [] names tt)
