use Rattle.std.proofs.Common.{◌≡◌, map, filter, string_bytes}
use Rattle.cov_step.specs.Phases.{is_reported}
use Rattle.cov_reports.proofs.paths.kept_paths.Given as goal

abbrev pub invariant-loop-path : goal.invariant-loop-path
invariant-loop-path l = map string_bytes l.paths.items ≡ filter (is_reported (map string_bytes l.omit)) (map string_bytes l.yielded)
