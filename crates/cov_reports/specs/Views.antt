-- What the types of the code stand for.
--     read_source, source_view    a source
--     findings_view               what is reported
use Rattle.std.specs.Prelude.{map, string_bytes}
use Rattle.cov_analysis.specs.Analyses.{analysis_view}
use Rattle.cov_config.specs.Plain.{settings_view}
use Rattle.cov_run.specs.Alone as alone
use Rattle.cov_step.specs.Calls.{PlainSource}
use Rattle.cov_step.specs.Phases.{Report}
use Rattle.cov_reports.specs.declared.sources.ReportedSource.{ReportedSource}
use Rattle.py_syntax.specs.View.{plain_module}
use Rattle.cov_reports.specs.declared.findings.Findings.{Findings}

-- a source that was read, as commands take it
abbrev pub read_source : alone.PlainSource → PlainSource
read_source s = record { path = s.path; text = s.text; body = s.body }

-- a source in memory
abbrev pub source_view : ReportedSource → PlainSource
source_view s = record {
  path = string_bytes s.path;
  text = string_bytes s.text;
  body = plain_module s.module;
}

-- what is reported
abbrev pub findings_view : Findings → Report
findings_view r = record {
  settings = settings_view r.settings;
  arcs = r.arcs;
  files = map analysis_view r.files.items;
}
