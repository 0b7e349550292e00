use Rattle.std.proofs.Common.{◌≡◌, map, string_bytes}
use Rattle.cov_data.specs.DataSet.{rekeyed}
use Rattle.cov_data.specs.Stored.{both_counts}
use Rattle.cov_data.proofs.SideBySide.{entry_of}
use Rattle.cov_data.proofs.Unions.{entry_by}
use Rattle.cov_data.proofs.file.FileCounts.united.Given as goal

abbrev pub invariant-loop-side : goal.invariant-loop-side
invariant-loop-side l = rekeyed string_bytes l.contexts.items ≡ map (entry_of (entry_by string_bytes) both_counts) l.yielded
