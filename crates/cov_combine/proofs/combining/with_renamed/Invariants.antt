use Rattle.std.proofs.Common.{◌≡◌, map, take, string_bytes}
use Rattle.std.specs.List.{fold}
use Rattle.cov_data.specs.DataSet.{with_file, file_of}
use Rattle.cov_combine.specs.Aliases.{alias_of}
use Rattle.cov_combine.proofs.combining.with_renamed.Given as goal

abbrev pub invariant-loop-path : goal.invariant-loop-path
invariant-loop-path l = record {
  flag : l.more.arcs ≡ l.input.arcs;
  so_far : l.more ≡ fold (λ m p. with_file m (alias_of l.rules p) (file_of l.input p)) l.fn.all (map string_bytes (take l.path-index l.path-items));
}
