use Rattle.std.proofs.Common.{◌≡◌, ◌*◌, ◌+◌, ◌++◌, [], ◌∷◌, suc, List, ℕ, length, length-append, ap, sym, ◌∙◌, arith}
use Rattle.pz_store.specs.Rows.{RowsState, rows_in}
use Rattle.pz_store.proofs.RowLemmas.{rows_more}
use Rattle.pz_store.proofs.rows.Rows.push.Goals as goal

pub invariant_of-self-2 : goal.invariant_of-self-2
invariant_of-self-2 c =
    let fits : length c.args.row.now ≡ c.self.inside.long = c.requires.long ∙ sym (ap (λ (r : RowsState). r.long) c.self.view_is) in
    let one : c.in-Some.count ≡ c.self.inside.count + 1 = c.in-Some.ensures.1 in
    let far : (c.self.inside.count + 1) * c.self.inside.long ≡ c.self.inside.count * c.self.inside.long + c.self.inside.long = omega arith in
    ap (λ (l : List ℕ). length l) c.in_ok-extend.ensures.ok ∙ length-append c.self.inside.numbers c.args.row.now ∙ omega (arith, fits, c.self.invariant, far) ∙ ap (λ (n : ℕ). n * c.self.inside.long) (sym one)

pub returns-clause-pushed : goal.returns-clause-pushed
returns-clause-pushed c =
    let long = c.self.inside.long in
    let count = c.self.inside.count in
    let numbers = c.self.inside.numbers in
    let row = c.args.row.now in
    let fits : length row ≡ long = c.requires.long ∙ sym (ap (λ (r : RowsState). r.long) c.self.view_is) in
    let one : c.in-Some.count ≡ suc count = omega (arith, c.in-Some.ensures.1) in
    ap (λ (n : ℕ). rows_in long n c.extend.new.self) one ∙ ap (λ (l : List ℕ). rows_in long (suc count) l) c.in_ok-extend.ensures.ok
    ∙ rows_more long count numbers row c.self.invariant fits ∙ ap (λ (r : RowsState). r.rows ++ row ∷ []) c.self.view_is
