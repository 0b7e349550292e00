use Rattle.std.proofs.Common.{◌≡◌, List, Result, IfOk, Ok, Err, ap, ◌∙◌}
use Rattle.py_syntax.specs.Tree.{Text}
use Rattle.py_scope.specs.Scopes.{own_names}
use Rattle.py_scope.proofs.Scoped.{own_of}
use Rattle.py_scope.proofs.scopes.FunctionNames.locals.Goals as goal

said : {V E : Type 0} (f : V → List Text) (r : Result V E) (xs ys : List Text) → IfOk r (λ v. f v ≡ xs) → xs ≡ ys → IfOk r (λ v. f v ≡ ys)
said f (Ok v) xs ys h e = h ∙ e
said f (Err x) xs ys h e = tt

pub returns-clause-function : goal.returns-clause-function
returns-clause-function c = λ params body e. said (λ v. v.items) c.without.result _ _ c.without.ensures (ap own_names c.self.view_is ∙ own_of c.args.self.now params body e)
