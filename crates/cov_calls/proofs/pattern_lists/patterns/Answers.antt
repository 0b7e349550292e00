use Rattle.std.proofs.Common.{◌++◌, refl}
use Rattle.cov_config.specs.Plain.{texts_view}
use Rattle.cov_programs.proofs.Composing.{starves}
use Rattle.cov_calls.proofs.Patterning.{patterns-open}
use Rattle.cov_calls.proofs.pattern_lists.patterns.Goals as goal

pub returns-in-Err : goal.returns-in-Err
returns-in-Err g c = starves (patterns-open (texts_view c.args.settings.now.exclude_lines ++ texts_view c.args.settings.now.exclude_also) (texts_view c.args.settings.now.partial_branches)) refl
