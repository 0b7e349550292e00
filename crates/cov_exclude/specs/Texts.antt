-- Patterns as texts, and the lines that they match. (the documentation of the regex crate,
-- "Syntax")
--     IsPatternText, IsNoPattern     a text that is a pattern, and one that is none
--     IsMadeOf, IsPlainlyMade        a pattern is what the grammar reads in a text, or in its own;
--                                    ArePlainlyMade of several
--     is_matched_by, is_matched      a pattern or one of several matches a line
--     matched_lines                  the numbers of the physical lines of a text that are matched
use Rattle.std.specs.Prelude.{◌≡◌, ℕ, List, map, Bool, false, is_some, option_map, unwrap_or, chars}
use Rattle.std.specs.List.{list_any, All}
use Rattle.std.specs.Str.Lines.{lines}
use Rattle.regex.specs.Patterns.{find_str, default_config}
use Rattle.regex.specs.Failures.{IsPattern}
use Rattle.regex.specs.Strings.{regex_source, regex_config, IsReadFromSource}
use Rattle.regex.specs.declared.string.regex.Regex.{Regex}
use Rattle.regex_syntax.specs.Grammar.{read}
use Rattle.cov_exclude.specs.Touched.{numbers_from}

-- the grammar reads a pattern in the text, one that doesn't nest too deeply
abbrev pub IsPatternText : List ℕ → Type 0
IsPatternText text = IsPattern default_config text

-- the grammar reads no pattern in the text, or one that nests too deeply
abbrev pub IsNoPattern : List ℕ → Type 0
IsNoPattern text = ¬ IsPatternText text

-- the pattern is what the grammar reads in its own text, with the options of the crate
pub record IsPlainlyMade (made : Regex) : Type 0 where
  pub config : regex_config made ≡ default_config
  pub read : IsReadFromSource made

-- the pattern is what the grammar reads in the text
pub record IsMadeOf (text : List ℕ) (made : Regex) : Type 0 where
  pub source : regex_source made ≡ text
  pub plainly : IsPlainlyMade made

-- each of these patterns is what the grammar reads in its own text
pub record ArePlainlyMade (made : List Regex) : Type 0 where
  pub each : All IsPlainlyMade made

-- the texts of patterns
abbrev pub texts_of : List Regex → List (List ℕ)
texts_of made = map regex_source made

-- whether the pattern that the grammar reads in a text matches somewhere in a line
abbrev pub is_matched_by : List ℕ → List ℕ → Bool
is_matched_by text line =
    unwrap_or
    (option_map (λ found. is_some (find_str found.0.value line 0))
    (read default_config (chars text))) false

-- whether one of the patterns of these texts does
abbrev pub is_matched : List (List ℕ) → List ℕ → Bool
is_matched texts line = list_any (λ text. is_matched_by text line) texts

-- The numbers of the physical lines that one of the patterns matches, counted from 1. A line ends
-- with a line feed, and may have a carriage return before it. (Python Language Reference, "Physical
-- lines")
abbrev pub matched_lines : List (List ℕ) → List ℕ → List ℕ
matched_lines texts source = numbers_from (is_matched texts) 1 (lines source)
