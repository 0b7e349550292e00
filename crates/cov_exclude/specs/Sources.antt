-- The lines that patterns find in the source of a module.
use Rattle.std.specs.Prelude.{ℕ, List}
use Rattle.py_syntax.specs.Tree.{Stmts}
use Rattle.cov_exclude.specs.Excluded.{excluded_lines}
use Rattle.cov_exclude.specs.NoBranch.{no_branch_lines}
use Rattle.cov_exclude.specs.Texts.{matched_lines}

-- the excluded lines of a module with this source, by the patterns of these texts
abbrev pub excluded_in : List (List ℕ) → Stmts → List ℕ → List ℕ
excluded_in texts m source = excluded_lines (matched_lines texts source) m

-- its no-branch lines
abbrev pub no_branch_in : List (List ℕ) → Stmts → List ℕ → List ℕ
no_branch_in texts m source = no_branch_lines (matched_lines texts source) m
