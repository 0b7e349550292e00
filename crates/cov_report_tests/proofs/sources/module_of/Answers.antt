use Rattle.std.proofs.Common.{List, subst}
use Rattle.py_token.specs.View.{view_tokens}
use Rattle.py_token.specs.declared.token.Token.{Token}
use Rattle.py_syntax.specs.Spelling.{Spells}
use Rattle.py_syntax.specs.View.{plain_module}
use Rattle.cov_report_tests.proofs.sources.module_of.Goals as goal

pub returns-in-Ok : goal.returns-in-Ok
returns-in-Ok c = record {
  tokens = view_tokens c.in_ok-tokens.tokens.items;
  on_lines = c.in_ok-tokens.ensures;
  spelled = subst (λ (ts : List Token). Spells (plain_module c.in-Ok.module) (view_tokens ts)) c.deref.ensures.value c.in-Ok.ensures.0;
}
