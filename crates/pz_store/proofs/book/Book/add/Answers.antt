use Rattle.std.proofs.Common.{◌≡◌, ℕ, ◌-◌, ◌<◌, ◌++◌, [], ◌∷◌, List, length, map, ap, sym, ◌∙◌, subst, arith}
use Rattle.std.specs.Prelude.{slice_get}
use Rattle.pz_sheet.specs.Grid.{BareState, Grid, IsLawful, SameSize}
use Rattle.pz_sheet.specs.Presence.{cell_of}
use Rattle.pz_store.specs.declared.book.Place.{Place}
use Rattle.pz_store.specs.Book.{BookState, CellSeen, HasMore, IsBook, IsInLast, IsUnknown, cell_from, cell_in}
use Rattle.pz_store.specs.Digest.{cell_word}
use Rattle.pz_store.proofs.Books.{as_many, cells_more, placed_more, still_book}
use Rattle.pz_store.proofs.Listing.{last_there, still_there}
use Rattle.pz_store.proofs.book.Book.add.Goals as goal
use Rattle.pz_store.proofs.book.Book.add.Goals.{After-keep, In_ok-push}

-- what the book is once the level is kept
ready : (frame grid : Grid) (levels news : List BareState) (places : List Place) (objects : ℕ) (old : BookState) → record { frame = frame; objects = objects; cells = map (cell_in levels) places } ≡ old →
    SameSize old.frame grid → IsLawful frame → IsLawful grid → IsBook frame levels places objects → HasMore levels news grid → IsBook frame news places objects × (map (cell_in news) places ≡ old.cells)
ready frame grid levels news places objects old view size law other book more =
    let alike : SameSize frame grid = subst (λ (b : BookState). SameSize b.frame grid) (sym view) size in
    let it = still_book frame grid levels news places objects book alike (as_many frame grid law other alike) more in
    (it.0, it.1 ∙ ap (λ (b : BookState). b.cells) view)

kept : (c : After-keep) → IsBook c.self.inside.frame.grid c.keep.new.kept.items c.self.inside.places.items c.self.inside.objects × (map (cell_in c.keep.new.kept.items) c.self.inside.places.items ≡ c.args.self.now.cells)
kept c = ready c.self.inside.frame.grid c.args.level.now.grid c.self.inside.levels.items c.keep.new.kept.items c.self.inside.places.items c.self.inside.objects c.args.self.now c.self.view_is c.requires.size c.width.ensures.lawful c.width-2.ensures.lawful
    c.self.invariant c.keep.ensures.more

pub invariant_of-self : goal.invariant_of-self
invariant_of-self c = (kept (goal.at.invariant_of-self c).After-keep).0

pub returns-in_err-keep-clause-extends : goal.returns-in_err-keep-clause-extends
returns-in_err-keep-clause-extends c = λ number cell is. ap (λ (all : List CellSeen). slice_get all number) (kept (goal.at.returns-in_err-keep-clause-extends c).After-keep).1 ∙ is

pub invariant_of-self-in_err-push : goal.invariant_of-self-in_err-push
invariant_of-self-in_err-push c =
    subst (λ (p : List Place). IsBook c.self.inside.frame.grid c.keep.new.kept.items p c.self.inside.objects) (sym c.in_err-push.ensures.items) (kept (goal.at.invariant_of-self-in_err-push c).After-keep).0

pub returns-in_err-push-clause-extends : goal.returns-in_err-push-clause-extends
returns-in_err-push-clause-extends c = λ number cell is.
    ap (λ (p : List Place). slice_get (map (cell_in c.keep.new.kept.items) p) number) c.in_err-push.ensures.items ∙ ap (λ (all : List CellSeen). slice_get all number) (kept (goal.at.returns-in_err-push-clause-extends c).After-keep).1 ∙ is

-- the book with a cell more
more : (frame grid : Grid) (kept : List BareState) (places news : List Place) (objects index len word : ℕ) (old : BookState) → IsBook frame kept places objects × (map (cell_in kept) places ≡ old.cells) → IsInLast kept index (cell_of grid index) →
    len ≡ length kept → index < length frame.cells → word ≡ cell_word objects (cell_of grid index) → IsUnknown old.cells (cell_of grid index) → news ≡ places ++ record { level = len - 1; index = index; word = word } ∷ [] →
    IsBook frame kept news objects × (map (cell_in kept) news ≡ old.cells ++ cell_of grid index ∷ [])
more frame grid kept places news objects index len word old (book, cells) (some, is) long within is_word unknown added =
    let place : Place = record { level = len - 1; index = index; word = word } in
    let there : cell_in kept place ≡ cell_of grid index = ap (λ (n : ℕ). cell_from (slice_get kept (n - 1)) index) long ∙ is in (
      subst (λ (p : List Place). IsBook frame kept p objects) (sym added) (placed_more frame kept places objects place (cell_of grid index) book there (omega (arith, some, long)) within is_word (subst (λ (all : List CellSeen). IsUnknown all (cell_of grid index)) (sym cells) unknown)),
      ap (λ (p : List Place). map (cell_in kept) p) added ∙ cells_more frame kept places objects place (cell_of grid index) book there ∙ ap (λ (all : List CellSeen). all ++ cell_of grid index ∷ []) cells,
    )

added : (c : In_ok-push) → IsBook c.self.inside.frame.grid c.keep.new.kept.items c.push.new.self.items c.self.inside.objects × (map (cell_in c.keep.new.kept.items) c.push.new.self.items ≡ c.args.self.now.cells ++ cell_of c.args.level.now.grid c.args.index ∷ [])
added c =
    let within = subst (λ (b : BookState). c.args.index < length b.frame.cells) (sym c.self.view_is) c.requires.within in
    more c.self.inside.frame.grid c.args.level.now.grid c.keep.new.kept.items c.self.inside.places.items c.push.new.self.items c.self.inside.objects c.args.index c.len.result c.cell_word.result c.args.self.now (ready c.self.inside.frame.grid c.args.level.now.grid c.self.inside.levels.items c.keep.new.kept.items c.self.inside.places.items c.self.inside.objects c.args.self.now c.self.view_is c.requires.size c.width.ensures.lawful c.width-2.ensures.lawful c.self.invariant c.keep.ensures.more) c.in_ok-keep.ensures.last
    (c.len.ensures ∙ c.keep.new.kept.ok.0) within c.cell_word.ensures c.requires.new c.in_ok-push.ensures.items

pub invariant_of-self-2 : goal.invariant_of-self-2
invariant_of-self-2 c = (added (goal.at.invariant_of-self-2 c).In_ok-push).0

pub returns-clause-extends : goal.returns-clause-extends
returns-clause-extends c = λ number cell is.
    ap (λ (all : List CellSeen). slice_get all number) (added (goal.at.returns-clause-extends c).In_ok-push).1 ∙ still_there c.args.self.now.cells (cell_of c.args.level.now.grid c.args.index) number cell is

pub returns-clause-added : goal.returns-clause-added
returns-clause-added c =
    ap (λ (all : List CellSeen). slice_get all (length c.args.self.now.cells)) (added (goal.at.returns-clause-added c).In_ok-push).1 ∙ last_there c.args.self.now.cells (cell_of c.args.level.now.grid c.args.index)
