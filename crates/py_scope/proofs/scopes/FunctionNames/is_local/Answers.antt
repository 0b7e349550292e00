use Rattle.std.proofs.Common.{◌≡◌, Bool, ◌∙◌, rules}
use Rattle.py_scope.specs.Scopes.{is_local}
use Rattle.py_scope.proofs.Scoped.{local_of}
use Rattle.py_scope.proofs.scopes.FunctionNames.is_local.Goals as goal

through : (r p q : Bool) → p ≡ q → r ≡ p → r ≡ q
through r p q e h = h ∙ e

pub returns-then-contains-clause-function : goal.returns-then-contains-clause-function
returns-then-contains-clause-function c = λ params body e.
    through _ (is_local c.args.self.now c.args.name.now) _ (local_of c.args.self.now params body c.args.name.now e) (search rules)

pub returns-else-contains-clause-function : goal.returns-else-contains-clause-function
returns-else-contains-clause-function c = λ params body e.
    through _ (is_local c.args.self.now c.args.name.now) _ (local_of c.args.self.now params body c.args.name.now e) (search rules)
