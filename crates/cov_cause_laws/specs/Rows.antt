-- Causes that are worked out.
--     NoWords            no words are no command
--     NothingReported    a report of data that aren't there
--     BadLimit           settings whose limit is a text
--     ManyPatterns       33 patterns that exclude lines
use Rattle.std.specs.Prelude.{◌≡◌, ℕ, false, List, [], ◌++◌, length, Some, None, codes}
use Rattle.std.specs.FinMap.{get}
use Rattle.cov_config.specs.Settings.{Settings}
use Rattle.cov_outside.specs.Files.{Files}
use Rattle.cov_vault.specs.Contents.{Contents}
use Rattle.cov_why.specs.Answers.{usage, limit, bad_config, no_data}
use Rattle.cov_why.specs.declared.why.LimitKind.TheVariants as limits
use Rattle.cov_words.specs.Commands as plain
use Rattle.cov_complete_laws.specs.Premises.{usual, AreSettings}
use Rattle.cov_cause_laws.specs.Causes.{IsRefusedIn, IsRefusedFor}

-- no words at all are refused by `Usage(0)`
abbrev pub NoWords : Type 0
NoWords = (files : Files) (contents : Contents) → IsRefusedFor files contents [] (usage 0)

-- where no settings and no data are there, `report` is refused by `NoData`, as behind `erase`
abbrev pub NothingReported : Type 0
NothingReported =
    (files : Files) (contents : Contents) → files usual ≡ None
    → get contents (codes ".coverage") ≡ None
    → IsRefusedIn files contents (plain.report false None None None)
    (no_data (codes ".coverage"))

-- a limit that is a text
abbrev pub bad_limit : List ℕ
bad_limit = codes "[tool.coverage.report]\nfail_under = \"x\"\n"

-- is refused by its whole key
abbrev pub BadLimit : Type 0
BadLimit =
    (files : Files) (contents : Contents) → files usual ≡ Some bad_limit
    → IsRefusedIn files contents (plain.report false None None None)
    (bad_config (codes "tool.coverage.report.fail_under"))

-- settings with 33 patterns that exclude lines are refused by their count
abbrev pub ManyPatterns : Type 0
ManyPatterns =
    (files : Files) (contents : Contents) (s : Settings) → AreSettings files None s
    → length (s.report.exclude_lines ++ s.report.exclude_also) ≡ 33
    → IsRefusedIn files contents (plain.report false None None None) (limit limits.Patterns 33)
