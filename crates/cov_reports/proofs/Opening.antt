-- Memory may be wanting where the parts of a report begin.
use Rattle.std.proofs.Common.{ℕ, Bool, true, false, nat_le, length, if◌then◌else◌, List, [], ◌∷◌, ◌++◌, Option, Err, refl}
use Rattle.std.specs.Prelude.{codes}
use Rattle.std.specs.Str.{bytes_eq}
use Rattle.cov_programs.specs.Programs.{give, each}
use Rattle.cov_programs.specs.Ends.{Follows, IsOpen}
use Rattle.cov_programs.specs.Objects.{Moves}
use Rattle.cov_programs.proofs.Composing.{starves}
use Rattle.cov_programs.proofs.Each.{then-open, each-open}
use Rattle.cov_why.specs.Answers.{Refusal, no_memory}
use Rattle.cov_words.specs.Values.{Word}
use Rattle.cov_config.specs.Settings.{Settings, ReportSettings}
use Rattle.cov_data.specs.DataSet.{DataSet}
use Rattle.cov_step.specs.Calls.{Call, Answer, Answered, IsNoMemory, Patterns, Step, refuse}
use Rattle.cov_step.specs.Phases.{Report, few, most_pattern_bytes, own_name, patterns, reported_in, reported_paths, short, some_path, source}
use Rattle.cov_reports.specs.Reports.{put_text, with_choice, with_data, with_marks, with_paths, with_settings}

-- a choice between a value and a refusal
choice-open : {A : Type 0} (b : Bool) (a : A) (r : Refusal) → IsOpen {A = A} (if b then give a else refuse r)
choice-open true a r = tt
choice-open false a r = tt

few-open : (texts : List (List ℕ)) → IsOpen (few texts)
few-open texts = choice-open (nat_le (length texts) 32) tt _

else-open : {A : Type 0} (b : Bool) (p : Step A) (r : Refusal) → IsOpen p → IsOpen {A = A} (if b then p else refuse r)
else-open true p r o = o
else-open false p r o = tt

short-open : (texts : List (List ℕ)) → IsOpen (short texts)
short-open [] = tt
short-open (text ∷ texts) = else-open (nat_le (length text) most_pattern_bytes) (short texts) _ (short-open texts)

pub patterns-open : (s : ReportSettings) → IsOpen (patterns s)
patterns-open s =
    let exclude = s.exclude_lines ++ s.exclude_also in
    let partial = s.partial_branches in
    then-open (few exclude) _ (few-open exclude) (λ a. then-open (few partial) _ (few-open partial)
    (λ b. then-open (short exclude) _ (short-open exclude) (λ c. then-open (short partial) _ (short-open partial) (λ d. tt))))

pub with_settings-open : (data_file : Option Word) (s : Settings) → IsOpen (with_settings data_file s)
with_settings-open data_file s = then-open (patterns s.report) (λ p. reported_in s p (own_name data_file s)) (patterns-open s.report) (λ p. tt)

pub with_choice-open : (data_file : Option Word) (path : Word) (s : Settings) → IsOpen (with_choice data_file path s)
with_choice-open data_file path s = then-open (patterns s.report) (with_marks s data_file path) (patterns-open s.report) (λ p. tt)

some_path-open : (name : Word) (paths : List Word) → IsOpen (some_path name paths)
some_path-open name [] = tt
some_path-open name (p ∷ ps) = tt

source-open : (path : Word) → IsOpen (source path)
source-open path = tt

pub with_paths-open : (s : Settings) (p : Patterns) (d : DataSet) (paths : List Word) → IsOpen (with_paths s p d paths)
with_paths-open s p d paths = then-open (each source paths) _ (each-open source source-open paths) (λ sources. tt)

pub with_data-open : (s : Settings) (p : Patterns) (own : Word) (d : DataSet) → IsOpen (with_data s p own d)
with_data-open s p own d = then-open (reported_paths own s.report.omit d) (with_paths s p d) (some_path-open own _) (with_paths-open s p d)

put_last-open : (b : Bool) (p q : Step Answered) → IsOpen p → IsOpen q → IsOpen (if b then p else q)
put_last-open true p q o h = o
put_last-open false p q o h = h

pub put_text-open : (name : Word) (text : List ℕ) (fail_under : Option ℕ) (r : Report) → IsOpen (put_text name text fail_under r)
put_text-open name text fail_under r = put_last-open (bytes_eq name (codes "-")) _ _ tt tt

-- memory is wanting where a program begins
pub wants-memory : {W A : Type 0} {moves : Moves Call Answer W} {old : W} (p : Step A) → IsOpen p → Follows moves IsNoMemory p old (Err (Err no_memory)) old
wants-memory p o = starves o refl
