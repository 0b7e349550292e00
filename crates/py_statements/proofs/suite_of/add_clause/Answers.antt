use Rattle.std.proofs.Common.{ap, ◌∙◌}
use Rattle.py_syntax.specs.declared.stmt.Clause as clauses
use Rattle.py_syntax.specs.View.{plain_clauses}
use Rattle.py_statements.proofs.View.OneMore.{clauses_snoc}
use Rattle.py_statements.proofs.suite_of.add_clause.Goals as goal

pub returns : goal.returns
returns c = ap plain_clauses c.in_ok-push.ensures.items ∙ clauses_snoc c.args.clauses.items _ ∙ search clauses.the_lemmas
