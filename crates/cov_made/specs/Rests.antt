-- The parts of `make`, and what follows each.
--     usual            its patterns
--     sourced          its source
--     with_patterns    the rest after its patterns
--     tried            the run of its source
--     with_source      the rest after its source
use Rattle.std.specs.Prelude.{ℕ, List, [], ◌∷◌}
use Rattle.cov_config.specs.Settings.{no_cover, no_branch}
use Rattle.cov_make.specs.Source.{source}
use Rattle.cov_programs.specs.Programs.{give, ask, bind, ◌>>=◌}
use Rattle.cov_step.specs.Answers.{tree_of}
use Rattle.cov_step.specs.Calls.{Answered, PlainSource, Patterns, Ran, checks, tries, Step}
use Rattle.cov_step.specs.Commands.{words_of, usual_steps}
use Rattle.cov_step.specs.Making.{made_path, made_module, made_line, ran_if_any}
use Rattle.cov_step.specs.Phases.{patterns_by, done, write_last}

-- the patterns of settings that set none
abbrev pub usual : Step Patterns
usual = patterns_by (no_cover ∷ []) (no_branch ∷ [])

-- the source of a seed and a size, read
abbrev pub sourced : (seed size : ℕ) → Step PlainSource
sourced seed size = do
  reading ← ask (checks (source seed size)) give
  tree_of made_path (source seed size) reading

-- its run
abbrev pub tried : PlainSource → Step Ran
tried f = do
  answer ← ask (tries (made_module f ∷ []) (words_of f.path []) usual_steps) give
  ran_if_any answer

-- the run, and its line
abbrev pub with_source : (seed size : ℕ) → Patterns → PlainSource → Step Answered
with_source seed size p f = do
  r ← tried f
  write_last (made_line seed size p f r) done

-- the source, its run and its line
abbrev pub with_patterns : (seed size : ℕ) → Patterns → Step Answered
with_patterns seed size p = do
  f ← sourced seed size
  with_source seed size p f
