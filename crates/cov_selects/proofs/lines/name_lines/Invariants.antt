use Rattle.std.proofs.Common.{◌≡◌, ◌++◌, drop, map, string_bytes}
use Rattle.std.specs.List.{flat_map}
use Rattle.cov_step.specs.Selecting.{name_line}
use Rattle.cov_selects.specs.Views.{name_view}
use Rattle.cov_selects.proofs.lines.name_lines.Given as goal

abbrev pub invariant-loop-name : goal.invariant-loop-name
invariant-loop-name l =
    string_bytes l.text ++ flat_map name_line (map name_view (drop l.name-index l.names)) ≡ flat_map name_line (map name_view l.names)
