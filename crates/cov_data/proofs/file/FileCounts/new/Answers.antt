use Rattle.std.proofs.Common.{ap, ◌∙◌}
use Rattle.cov_data.specs.Stored.{file_from}
use Rattle.cov_data.proofs.Nested.{no_contexts}
use Rattle.cov_data.proofs.file.FileCounts.new.Goals as goal

pub returns : goal.returns
returns c = ap file_from c.new.ensures.empty ∙ no_contexts
