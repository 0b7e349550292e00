use Rattle.std.proofs.Common.{ap, ◌∙◌}
use Rattle.py_syntax.specs.declared.stmt.Case as cases
use Rattle.py_syntax.specs.View.{plain_cases}
use Rattle.py_statements.proofs.View.OneMore.{cases_snoc}
use Rattle.py_statements.proofs.suite_of.add_case.Goals as goal

pub returns : goal.returns
returns c = ap plain_cases c.in_ok-push.ensures.items ∙ cases_snoc c.args.cases.items _ ∙ search cases.the_lemmas
