-- Programs of a report under other names of the same lists.
use Rattle.std.proofs.Common.{◌≡◌, List, map, String, Global, string_bytes, subst, Result}
use Rattle.cov_config.specs.Settings.{Settings}
use Rattle.cov_data.specs.DataSet.{DataSet}
use Rattle.cov_words.specs.Values.{Word}
use Rattle.cov_outside.specs.declared.shelf.Shelf.{Ghosts as ShelfOf}
use Rattle.cov_programs.specs.Objects.{nobody}
use Rattle.cov_programs.specs.Programs.{give}
use Rattle.cov_programs.specs.Ends.{Follows}
use Rattle.cov_why.specs.Answers.{PlainWhy}
use Rattle.cov_step.specs.Calls.{Call, Answer, IsNoMemory, Patterns}
use Rattle.cov_step.specs.Objects.{on_shelf}
use Rattle.cov_step.specs.Phases.{Report, reported_paths}
use Rattle.cov_reports.specs.Reports.{report_of, with_paths}
use Rattle.cov_reports.specs.Views.{source_view}
use Rattle.cov_reports.specs.declared.sources.ReportedSource.{ReportedSource}

pub paths-so : (own : Word) (d : DataSet) {omit also : List (String Global)} {e : Result (List Word) PlainWhy} → omit ≡ also
    → Follows (nobody Call Answer) IsNoMemory (reported_paths own (map string_bytes omit) d) tt e tt → Follows (nobody Call Answer) IsNoMemory (reported_paths own (map string_bytes also) d) tt e tt
paths-so own d {e = e} is f = subst (λ (o : List (String Global)). Follows (nobody Call Answer) IsNoMemory (reported_paths own (map string_bytes o) d) tt e tt) is f

pub with_paths-so : {H : Type 0} (shelf : ShelfOf H) (s : Settings) (p : Patterns) (d : DataSet) {paths also : List (String Global)} {old new : H} {e : Result Report PlainWhy} → paths ≡ also
    → Follows (on_shelf shelf) IsNoMemory (with_paths s p d (map string_bytes paths)) old e new → Follows (on_shelf shelf) IsNoMemory (with_paths s p d (map string_bytes also)) old e new
with_paths-so shelf s p d {old = old} {new = new} {e = e} is f = subst (λ (ps : List (String Global)). Follows (on_shelf shelf) IsNoMemory (with_paths s p d (map string_bytes ps)) old e new) is f

pub report_of-so : (s : Settings) (p : Patterns) (d : DataSet) {sources also : List ReportedSource} {e : Result Report PlainWhy} → sources ≡ also
    → Follows (nobody Call Answer) IsNoMemory (give (report_of s p d (map source_view sources))) tt e tt → Follows (nobody Call Answer) IsNoMemory (give (report_of s p d (map source_view also))) tt e tt
report_of-so s p d {e = e} is f = subst (λ (ss : List ReportedSource). Follows (nobody Call Answer) IsNoMemory (give (report_of s p d (map source_view ss))) tt e tt) is f
