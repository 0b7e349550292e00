use Rattle.std.proofs.Common.{◌≡◌, ℕ, false, List, [], ◌∷◌, ◌++◌, Option, refl, sym, ap, subst, ◌∙◌}
use Rattle.py_syntax.specs.declared.expr.Expr.{Expr as Node}
use Rattle.py_syntax.specs.Tree.{Text, Exprs}
use Rattle.py_syntax.specs.Kinds.{Kind}
use Rattle.py_syntax.specs.View.{plain_exprs}
use Rattle.py_statements.specs.Open.{SuiteStack}
use Rattle.py_statements.specs.Machine.{Span, State, ParamRead, act, after_default}
use Rattle.py_statements.specs.ViewLists.{is_equal_sign, some_exprs}
use Rattle.py_statements.specs.ViewStates.{kind_at, first_at, last_at, view_span, view_suites, Made, Makes}
use Rattle.py_statements.proofs.View.Acts.{param_default, param_late, param_ends}
use Rattle.py_statements.proofs.after_expression.after_param.Goals as goal

makes : (x x' : Text) (ps qs : List Text) (ds es : Exprs) (y : Text) (n : Span) (b : SuiteStack) (k : Kind) (f l : ℕ) (r : Made) → is_equal_sign k ≡ false → some_exprs ds ≡ false → x' ≡ x → qs ≡ ps ++ y ∷ [] → es ≡ ds → Makes (after_default x' qs es n b k l) r → Makes (act (ParamRead x ps ds y) n b k f l) r
makes x x' ps qs ds es y n b k f l r h i same more with_same m = subst (λ (o : Option State). Makes o r) (sym (param_ends x x' ps qs ds es y n b k f l (after_default x' qs es n b k l) h i same more with_same refl)) m

pub returns-then-is_a : goal.returns-then-is_a
returns-then-is_a c =
    let a = c.args in
    let t = a.token.now in
    param_default a.signature.name a.signature.params.items (plain_exprs a.signature.defaults.items) a.param (view_span a.span) (view_suites a.suites) (kind_at t) (first_at t) (last_at t) (view_span c.onward.result) (sym c.is_a.ensures ∙ c.if-is_a.true) c.onward.ensures

pub returns-then-has_exprs : goal.returns-then-has_exprs
returns-then-has_exprs c =
    let a = c.args in
    let t = a.token.now in
    param_late a.signature.name a.signature.params.items (plain_exprs a.signature.defaults.items) a.param (view_span a.span) (view_suites a.suites) (kind_at t) (first_at t) (last_at t) (sym c.is_a.ensures ∙ c.if-is_a.false) (sym (c.has_exprs.ensures ∙ ap (λ (xs : List Node). some_exprs (plain_exprs xs)) c.deref.ensures.value) ∙ c.if-has_exprs.true)

pub returns : goal.returns
returns c =
    let a = c.args in
    let s = c.in_ok-signature.signature in
    let t = a.token.now in
    makes a.signature.name s.name a.signature.params.items s.params.items (plain_exprs a.signature.defaults.items) (plain_exprs s.defaults.items) a.param (view_span a.span) (view_suites a.suites) (kind_at t) (first_at t) (last_at t) c.after_default.result (sym c.is_a.ensures ∙ c.if-is_a.false) (sym (c.has_exprs.ensures ∙ ap (λ (xs : List Node). some_exprs (plain_exprs xs)) c.deref.ensures.value) ∙ c.if-has_exprs.false) c.in_ok-signature.ensures.name c.in_ok-signature.ensures.params c.in_ok-signature.ensures.defaults c.after_default.ensures
