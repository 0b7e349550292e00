use Rattle.std.proofs.Common.{Ok}
use Rattle.py_statements.specs.ViewSuiteOf.{boxed_expr}
use Rattle.py_statements.proofs.View.Tails.{resumes_so}
use Rattle.py_statements.proofs.purposes.Continuation.resume.Goals as goal

pub returns-in-Value : goal.returns-in-Value
returns-in-Value c =
    let a = c.args in
    resumes_so a.token.now a.self _ (boxed_expr a.expr) a.span a.suites c.after_value.result c.in-Value.is c.after_value.ensures

pub returns-in-Asserted : goal.returns-in-Asserted
returns-in-Asserted c =
    let a = c.args in
    resumes_so a.token.now a.self _ (boxed_expr a.expr) a.span a.suites c.after_test.result c.in-Asserted.is c.after_test.ensures

pub returns-in-ArmTest : goal.returns-in-ArmTest
returns-in-ArmTest c =
    let a = c.args in
    resumes_so a.token.now a.self _ (boxed_expr a.expr) a.span a.suites c.after_header.result c.in-ArmTest.is c.after_header.ensures

pub returns-in-WhileTest : goal.returns-in-WhileTest
returns-in-WhileTest c =
    let a = c.args in
    resumes_so a.token.now a.self _ (boxed_expr a.expr) a.span a.suites c.after_header-in-WhileTest.result c.in-WhileTest.is c.after_header-in-WhileTest.ensures

pub returns-in-ForTarget : goal.returns-in-ForTarget
returns-in-ForTarget c =
    let a = c.args in
    resumes_so a.token.now a.self _ (boxed_expr a.expr) a.span a.suites (Ok c.after_for_target.result) c.in-ForTarget.is c.after_for_target.ensures

pub returns-in-ForOver : goal.returns-in-ForOver
returns-in-ForOver c =
    let a = c.args in
    resumes_so a.token.now a.self _ (boxed_expr a.expr) a.span a.suites c.after_header-in-ForOver.result c.in-ForOver.is c.after_header-in-ForOver.ensures

pub returns-in-ClauseKind : goal.returns-in-ClauseKind
returns-in-ClauseKind c =
    let a = c.args in
    resumes_so a.token.now a.self _ (boxed_expr a.expr) a.span a.suites c.after_kind.result c.in-ClauseKind.is c.after_kind.ensures

pub returns-in-Subject : goal.returns-in-Subject
returns-in-Subject c =
    let a = c.args in
    resumes_so a.token.now a.self _ (boxed_expr a.expr) a.span a.suites (Ok c.after_subject.result) c.in-Subject.is c.after_subject.ensures

pub returns-in-Guard : goal.returns-in-Guard
returns-in-Guard c =
    let a = c.args in
    resumes_so a.token.now a.self _ (boxed_expr a.expr) a.span a.suites c.after_header-in-Guard.result c.in-Guard.is c.after_header-in-Guard.ensures

pub returns-in-Default : goal.returns-in-Default
returns-in-Default c =
    let a = c.args in
    resumes_so a.token.now a.self _ (boxed_expr a.expr) a.span a.suites c.after_param_default.result c.in-Default.is c.after_param_default.ensures

pub returns-in-Augmented : goal.returns-in-Augmented
returns-in-Augmented c =
    let a = c.args in
    resumes_so a.token.now a.self _ (boxed_expr a.expr) a.span a.suites c.end_made.result c.in-Augmented.is (c.end_made.ensures _ c.augmented-kind.ensures)

pub returns-in-Leaving : goal.returns-in-Leaving
returns-in-Leaving c =
    let a = c.args in
    resumes_so a.token.now a.self _ (boxed_expr a.expr) a.span a.suites c.end_made-in-Leaving.result c.in-Leaving.is (c.end_made-in-Leaving.ensures _ c.left-kind.ensures)

pub returns-in-Reason : goal.returns-in-Reason
returns-in-Reason c =
    let a = c.args in
    resumes_so a.token.now a.self _ (boxed_expr a.expr) a.span a.suites c.end_made-in-Reason.result c.in-Reason.is (c.end_made-in-Reason.ensures _ c.asserted-kind.ensures)
