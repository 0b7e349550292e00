-- What follows in a report, after its settings, its patterns and its data.
--     with_settings, report_of, with_paths, with_data    the rest of a report, from there on
--     write_text, write_report, put_text, put_json, put_lcov    the last call of a command
--     write_source, with_source, with_marks, with_choice    the rest of `annotate`
use Rattle.std.specs.Prelude.{ℕ, Bool, ◌||◌, List, Option, map, codes}
use Rattle.cov_text.specs.Report.{text_bytes}
use Rattle.cov_json.specs.Json.{json_bytes}
use Rattle.cov_lcov.specs.Lcov.{lcov_bytes}
use Rattle.cov_lcov.specs.Annotated.{annotated_bytes}
use Rattle.cov_words.specs.Values.{Word}
use Rattle.cov_config.specs.Settings.{Settings}
use Rattle.cov_data.specs.DataSet.{DataSet}
use Rattle.cov_programs.specs.Programs.{give, ◌>>=◌, each}
use Rattle.cov_step.specs.Calls.{Answered, Patterns, PlainSource, Step}
use Rattle.cov_step.specs.Phases.{Report, analysed, done, judged, needed, own_name, patterns, reported_in, reported_paths, source, write_last, put_last}
use Rattle.cov_step.specs.Names.{or_else}

-- after the settings
abbrev pub with_settings : Option Word → Settings → Step Report
with_settings data_file s = do
  p ← patterns s.report
  reported_in s p (own_name data_file s)

-- the report of these sources
abbrev pub report_of : Settings → Patterns → DataSet → List PlainSource → Report
report_of s p d sources =
    record { settings = s; arcs = d.arcs; files = map (analysed p d) sources }

-- after the paths
abbrev pub with_paths : Settings → Patterns → DataSet → List Word → Step Report
with_paths s p d paths = do
  sources ← each source paths
  give (report_of s p d sources)

-- after the data
abbrev pub with_data : Settings → Patterns → Word → DataSet → Step Report
with_data s p own d = do
  paths ← reported_paths own s.report.omit d
  with_paths s p d paths

-- a text of a report is written
abbrev pub write_text : List ℕ → Option ℕ → Report → Step Answered
write_text text fail_under r =
    write_last text (judged (or_else fail_under r.settings.report.fail_under) r.files)

-- its table
abbrev pub write_report : Bool → Option ℕ → Report → Step Answered
write_report show_missing fail_under r =
    write_text (text_bytes r.files r.arcs (show_missing || r.settings.report.show_missing))
    fail_under r

-- a text of a report is put under a name
abbrev pub put_text : Word → List ℕ → Option ℕ → Report → Step Answered
put_text name text fail_under r =
    put_last name text (judged (or_else fail_under r.settings.report.fail_under) r.files)

-- its JSON text
abbrev pub put_json : Option Word → Option ℕ → Report → Step Answered
put_json name fail_under r =
    put_text (or_else name (codes "coverage.json")) (json_bytes r.files r.arcs) fail_under r

-- its text in LCOV's format
abbrev pub put_lcov : Option Word → Option ℕ → Report → Step Answered
put_lcov name fail_under r =
    put_text (or_else name (codes "coverage.lcov")) (lcov_bytes r.files r.arcs) fail_under r

-- a source is written with its marks
abbrev pub write_source : Patterns → DataSet → PlainSource → Step Answered
write_source p d f = write_last (annotated_bytes (analysed p d f) f.text) done

-- after the data of `annotate`
abbrev pub with_source : Patterns → Word → DataSet → Step Answered
with_source p path d = do
  f ← source path
  write_source p d f

-- after its patterns
abbrev pub with_marks : Settings → Option Word → Word → Patterns → Step Answered
with_marks s data_file path p = do
  d ← needed (own_name data_file s)
  with_source p path d

-- after its settings
abbrev pub with_choice : Option Word → Word → Settings → Step Answered
with_choice data_file path s = do
  p ← patterns s.report
  with_marks s data_file path p
