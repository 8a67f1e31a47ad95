-- The lines of a section, where they stand among all lines.
use Rattle.std.proofs.Common.{◌≡◌, suc, ◌-◌, ◌≤◌, Bool, true, false, if◌then◌else◌, List, [], ◌∷◌, length, take, drop, refl, ap, ◌∙◌, arith}
use Rattle.pz_text.specs.Section.{before_heading, behind_heading, is_heading_of}
use Rattle.pz_text.specs.declared.line.Line.{Line}
use Rattle.pz_text.specs.declared.line.Section.{Section}

-- the lines before a heading begin the lines
pub before_short : (lines : List Line) → length (before_heading lines) ≤ length lines
before_short [] = omega arith
before_short (line ∷ lines) = by line.is_heading (before_short lines)
  where
    by : (b : Bool) → length (before_heading lines) ≤ length lines → length (if b then [] else line ∷ before_heading lines) ≤ length (line ∷ lines)
    by true k = omega arith
    by false k = omega arith

pub before_begins : (lines : List Line) → take (length (before_heading lines)) lines ≡ before_heading lines
before_begins [] = refl
before_begins (line ∷ lines) = by line.is_heading (before_begins lines)
  where
    by : (b : Bool) → take (length (before_heading lines)) lines ≡ before_heading lines
        → take (length (if b then [] else line ∷ before_heading lines)) (line ∷ lines) ≡ (if b then [] else line ∷ before_heading lines)
    by true k = refl
    by false k = ap (λ rest. line ∷ rest) k

-- the lines behind a heading end them
pub behind_short : (section : Section) (lines : List Line) → length (behind_heading section lines) ≤ length lines
behind_short section [] = omega arith
behind_short section (line ∷ lines) = by (is_heading_of section line) (behind_short section lines)
  where
    by : (b : Bool) → length (behind_heading section lines) ≤ length lines → length (if b then lines else behind_heading section lines) ≤ length (line ∷ lines)
    by true k = omega arith
    by false k = omega arith

pub behind_ends : (section : Section) (lines : List Line) → drop (length lines - length (behind_heading section lines)) lines ≡ behind_heading section lines
behind_ends section [] = refl
behind_ends section (line ∷ lines) = by (is_heading_of section line) (behind_short section lines) (behind_ends section lines)
  where
    by : (b : Bool) → length (behind_heading section lines) ≤ length lines → drop (length lines - length (behind_heading section lines)) lines ≡ behind_heading section lines
        → drop (length (line ∷ lines) - length (if b then lines else behind_heading section lines)) (line ∷ lines) ≡ (if b then lines else behind_heading section lines)
    by true k e =
        let one : length (line ∷ lines) - length lines ≡ suc 0 = omega arith in
        ap (λ n. drop n (line ∷ lines)) one
    by false k e =
        let more : length (line ∷ lines) - length (behind_heading section lines) ≡ suc (length lines - length (behind_heading section lines)) = omega arith in
        ap (λ n. drop n (line ∷ lines)) more ∙ e
