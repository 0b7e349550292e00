use Rattle.std.proofs.Common.{ap, ◌∙◌}
use Rattle.py_syntax.specs.declared.stmt.Arm as arms
use Rattle.py_syntax.specs.View.{plain_arms}
use Rattle.py_statements.proofs.View.OneMore.{arms_snoc}
use Rattle.py_statements.proofs.suite_of.add_arm.Goals as goal

pub returns : goal.returns
returns c = ap plain_arms c.in_ok-push.ensures.items ∙ arms_snoc c.args.arms.items _ ∙ search arms.the_lemmas
