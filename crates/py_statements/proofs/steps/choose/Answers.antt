use Rattle.std.proofs.Common.{◌≡◌, ◌∙◌, Bool, List, sym, ap}
use Rattle.py_syntax.specs.declared.stmt.Case.{Case}
use Rattle.py_syntax.specs.View.{plain_expr, plain_cases}
use Rattle.py_statements.specs.declared.suite_of.PartialMatch.{PartialMatch}
use Rattle.py_statements.specs.ViewLists.{some_cases}
use Rattle.py_statements.specs.ViewSuiteOf.{boxed_kind}
use Rattle.py_statements.specs.ViewStates.{kind_at, first_at, last_at, view_suites}
use Rattle.py_statements.proofs.View.Acts.{choose_ends, choose_empty, choose_case, choose_other}
use Rattle.py_statements.proofs.steps.choose.Goals as goal

-- whether the cases that a reference reads are some
told : (made held cases : List Case) (some : Bool) → some ≡ some_cases (plain_cases cases) → cases ≡ held → held ≡ made → some_cases (plain_cases made) ≡ some
told made held cases some h is same = sym (h ∙ ap (λ (xs : List Case). some_cases (plain_cases xs)) (is ∙ same))

pub returns-then-not-has_cases : goal.returns-then-not-has_cases
returns-then-not-has_cases c =
    let a = c.args in
    let t = a.token.now in
    let m = a.partial_match.value in
    let some = told m.cases.items _ _ _ c.has_cases.ensures c.deref-then-is_a.ensures.value (ap (λ (n : PartialMatch). n.cases.items) c.deref.ensures) ∙ c.if-not-has_cases.true in
    choose_empty (plain_expr m.subject) m.header_last (plain_cases m.cases.items) a.first (view_suites a.suites) (kind_at t) (first_at t) (last_at t) (sym c.is_a.ensures ∙ c.if-is_a.true) some

pub returns-then-is_a : goal.returns-then-is_a
returns-then-is_a c =
    let a = c.args in
    let t = a.token.now in
    let m = a.partial_match.value in
    let some = told m.cases.items _ _ _ c.has_cases.ensures c.deref-then-is_a.ensures.value (ap (λ (n : PartialMatch). n.cases.items) c.deref.ensures) ∙ c.if-not-has_cases.false in
    choose_ends (plain_expr m.subject) m.header_last (plain_cases m.cases.items) a.first (view_suites a.suites) (kind_at t) (first_at t) (last_at t) (boxed_kind c.in_ok-kind.kind) (sym c.is_a.ensures ∙ c.if-is_a.true) some c.in_ok-kind.ensures

pub returns-then-not-is_case : goal.returns-then-not-is_case
returns-then-not-is_case c =
    let a = c.args in
    let t = a.token.now in
    let m = a.partial_match.value in
    choose_other (plain_expr m.subject) m.header_last (plain_cases m.cases.items) a.first (view_suites a.suites) (kind_at t) (first_at t) (last_at t) (sym c.is_a.ensures ∙ c.if-is_a.false) (sym c.is_case.ensures ∙ c.if-not-is_case.true)

pub returns : goal.returns
returns c =
    let a = c.args in
    let t = a.token.now in
    let m = a.partial_match.value in
    choose_case (plain_expr m.subject) m.header_last (plain_cases m.cases.items) a.first (view_suites a.suites) (kind_at t) (first_at t) (last_at t) (sym c.is_case.ensures ∙ c.if-not-is_case.false)
