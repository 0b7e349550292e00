-- Why patterns weren't made of texts.
use Rattle.std.specs.Prelude.{◌≡◌, ℕ, List, take, slice_get, IsSomeAnd}
use Rattle.std.specs.List.{All}
use Rattle.cov_outside.specs.Counts.{Rose}
use Rattle.cov_exclude.specs.Texts.{IsPatternText, IsNoPattern}
use Rattle.cov_exclude.specs.declared.patterns.PatternError.{PatternError}
use Rattle.cov_exclude.specs.declared.patterns.PatternError.TheVariants.{BadPattern, PatternSize, NoMemory}

-- the texts before a place are patterns
abbrev pub ArePatternsBefore : List (List ℕ) → ℕ → Type 0
ArePatternsBefore texts at = All IsPatternText (take at texts)

-- a call that found this text too large led a maker to its state
abbrev pub FoundLarge : {M : Type 0} → (M → List ℕ → M → Type 0) → M → List ℕ → Type 0
FoundLarge {M} leads new text = (mid : M) × leads mid text new

-- Of these texts, with what was found too large at last, and the maker's counts before and after:
-- those before the named one are patterns; it is none, or it is what was found too large.
abbrev pub IsCauseOf : List (List ℕ) → (List ℕ → Type 0) → ℕ → ℕ → PatternError → Type 0
IsCauseOf texts large before after (BadPattern at) =
    ArePatternsBefore texts at × IsSomeAnd (slice_get texts at) IsNoPattern
IsCauseOf texts large before after (PatternSize at) =
    ArePatternsBefore texts at × IsSomeAnd (slice_get texts at) large × Rose before after
IsCauseOf texts large before after NoMemory = Unit {0}

-- of the text at a place
abbrev pub IsCauseAt : ℕ → List ℕ → (List ℕ → Type 0) → ℕ → ℕ → PatternError → Type 0
IsCauseAt place text large before after (BadPattern at) = (at ≡ place) × IsNoPattern text
IsCauseAt place text large before after (PatternSize at) =
    (at ≡ place) × large text × Rose before after
IsCauseAt place text large before after NoMemory = Unit {0}
