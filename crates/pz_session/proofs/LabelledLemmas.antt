-- The labels that a writer keeps stay those of a level, wherever the level goes.
use Rattle.pz_session.proofs.Common.{arith, ◌≡◌, Option, Some, Grid, HasLabels, WriterView}
use Rattle.pz_session.specs.declared.labelled.Labelled.{Labelled}
use Rattle.pz_session.specs.declared.labelled.Labelled.TheVariants.{Before, Spare}
use Rattle.pz_session.specs.Labelled.{labelled_of, moved_to}

abbrev Keeps : WriterView → Labelled → Grid → Option Grid → Option Grid → Type 0
Keeps texts labelled level before spare = HasLabels texts (labelled_of labelled level before spare)

pub kept_before : (texts : WriterView) (labelled next : Labelled) (old new : Grid) (before spare aside more : Option Grid) → next ≡ moved_to labelled Before → aside ≡ Some old → Keeps texts labelled old before spare → Keeps texts next new aside more
kept_before texts labelled next old new before spare aside more is there h = rw (is, there) (grind (arith, h))

pub kept_spare : (texts : WriterView) (labelled next : Labelled) (old new : Grid) (before spare other aside : Option Grid) → next ≡ moved_to labelled Spare → aside ≡ Some old → Keeps texts labelled old before spare → Keeps texts next new other aside
kept_spare texts labelled next old new before spare other aside is there h = rw (is, there) (grind (arith, h))
