-- What the values of the sections stand for.
use Rattle.std.specs.Prelude.{string_bytes}
use Rattle.cov_config.specs.declared.sections.RunKeys.{RunKeys}
use Rattle.cov_config.specs.declared.sections.ReportKeys.{ReportKeys}
use Rattle.cov_config.specs.Plain.{texts_view, hook_view}
use Rattle.cov_config.specs.Settings.{RunSettings, ReportSettings}

-- what the keys of `run` hold
abbrev pub run_view : RunKeys → RunSettings
run_view k = record {
  branch = k.branch;
  context = string_bytes k.context;
  data_file = string_bytes k.data_file;
  dynamic_context = k.dynamic_context;
  budget = k.budget;
  hook = hook_view k.hook;
}

-- what the keys of `report` hold
abbrev pub report_view : ReportKeys → ReportSettings
report_view k = record {
  fail_under = k.fail_under;
  show_missing = k.show_missing;
  omit = texts_view k.omit;
  exclude_lines = texts_view k.exclude_lines;
  exclude_also = texts_view k.exclude_also;
  partial_branches = texts_view k.partial_branches;
}
