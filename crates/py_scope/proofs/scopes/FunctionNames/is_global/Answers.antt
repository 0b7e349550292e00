use Rattle.std.proofs.Common.{ap, ◌∙◌}
use Rattle.py_scope.specs.Scopes.{Names, is_global}
use Rattle.py_scope.proofs.Scoped.{global_of}
use Rattle.py_scope.proofs.scopes.FunctionNames.is_global.Goals as goal

pub returns-clause-function : goal.returns-clause-function
returns-clause-function c = λ params body e.
    c.contains.ensures ∙ ap (λ (n : Names). is_global n c.args.name.now) c.self.view_is ∙ global_of c.args.self.now params body c.args.name.now e
