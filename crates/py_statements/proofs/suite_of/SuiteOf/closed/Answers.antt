use Rattle.std.proofs.Common.{◌∙◌, ap, Option}
use Rattle.py_syntax.specs.Tree.{Expr}
use Rattle.py_syntax.specs.View.{plain_suite}
use Rattle.py_statements.specs.Open.{closed}
use Rattle.py_statements.specs.ViewSuiteOf.{clause_of}
use Rattle.py_statements.proofs.View.Tails.{closed_of, closes_so}
use Rattle.py_statements.proofs.suite_of.SuiteOf.closed.Goals as goal

pub returns-in-Arm : goal.returns-in-Arm
returns-in-Arm c = closes_so c.tested.result _ _ (closed_of c.args.self _ c.args.suite c.in-Arm.is) c.tested.ensures

pub returns-in-While : goal.returns-in-While
returns-in-While c = closes_so c.repeated.result _ _ (closed_of c.args.self _ c.args.suite c.in-While.is) c.repeated.ensures

pub returns-in-For : goal.returns-in-For
returns-in-For c = closes_so c.looped.result _ _ (closed_of c.args.self _ c.args.suite c.in-For.is) c.looped.ensures

pub returns-in-Try : goal.returns-in-Try
returns-in-Try c = closes_so c.begun_try.result _ _ (closed_of c.args.self _ c.args.suite c.in-Try.is) c.begun_try.ensures

pub returns-in-Else : goal.returns-in-Else
returns-in-Else c = closes_so c.with_else.result _ _ (closed_of c.args.self _ c.args.suite c.in-Else.is) c.with_else.ensures

pub returns-in-Finally : goal.returns-in-Finally
returns-in-Finally c = closes_so c.tried.result _ _ (closed_of c.args.self _ c.args.suite c.in-Finally.is) c.tried.ensures

pub returns-in-Def : goal.returns-in-Def
returns-in-Def c = closes_so c.defined.result _ _ (closed_of c.args.self _ c.args.suite c.in-Def.is) c.defined.ensures

pub returns-in-Case : goal.returns-in-Case
returns-in-Case c = closes_so c.chosen.result _ _ (closed_of c.args.self _ c.args.suite c.in-Case.is) c.chosen.ensures

pub returns-in-Clause : goal.returns-in-Clause
returns-in-Clause c =
    let p = c.in-Clause.partial_try in
    closes_so c.handled.result _ _
    (ap (λ (e : Option Expr). closed (clause_of p e c.in-Clause.bound) (plain_suite c.args.suite)) c.unboxed.ensures ∙ closed_of c.args.self _ c.args.suite c.in-Clause.is)
    c.handled.ensures
