use Rattle.py_syntax.specs.View.{plain_module}
use Rattle.cov_calls.specs.Views.{lists_view}
use Rattle.cov_step.specs.Making.{made_path}
use Rattle.cov_made.specs.Views.{source_view}
use Rattle.cov_made.proofs.Telling.{analysed-so, reportable-so}
use Rattle.cov_made.proofs.lines.analysed.Goals as goal

pub module-requires : goal.module-requires
module-requires c = c.requires.one

pub returns-clause-analysis : goal.returns-clause-analysis
returns-clause-analysis c =
    analysed-so c.analyse.result (lists_view c.args.patterns.now) c.args.ran.now.rows
    made_path (plain_module c.module.result.now) (source_view c.args.source.now).body
    c.as_str.result.now (source_view c.args.source.now).text
    c.module.ensures c.as_str.ensures.value c.analyse.ensures.analysis

pub returns-clause-reportable : goal.returns-clause-reportable
returns-clause-reportable c =
    reportable-so c.analyse.result (lists_view c.args.patterns.now) c.args.ran.now.rows
    made_path (plain_module c.module.result.now) (source_view c.args.source.now).body
    c.as_str.result.now (source_view c.args.source.now).text
    c.module.ensures c.as_str.ensures.value c.requires.of_text c.analyse.ensures.of_text
