use Rattle.std.proofs.Common.{Ok, sym, ap, ◌∙◌}
use Rattle.py_statements.specs.declared.places.Place.{Place}
use Rattle.py_statements.specs.Machine.{Span, act, begin_expr}
use Rattle.py_statements.specs.ViewStates.{kind_at, first_at, last_at, view_span, view_suites, view_continuation, view_place}
use Rattle.py_statements.proofs.View.Acts.{acts_in}
use Rattle.py_statements.proofs.View.Tails.{acts_at, made_at}
use Rattle.py_statements.proofs.View.Wanted.{wanted_reads}
use Rattle.py_statements.proofs.places.Place.act.Goals as goal

pub returns-in-Simple : goal.returns-in-Simple
returns-in-Simple c = made_at c.args.token.now c.args.self _ c.args.span c.args.suites c.end_simple.result c.turned.result c.in-Simple.is c.end_simple.ensures c.turned.ensures

pub returns-in-NameRead : goal.returns-in-NameRead
returns-in-NameRead c = made_at c.args.token.now c.args.self _ c.args.span c.args.suites c.after_listed.result c.turned-in-NameRead.result c.in-NameRead.is c.after_listed.ensures c.turned-in-NameRead.ensures

pub returns-in-BoundRead : goal.returns-in-BoundRead
returns-in-BoundRead c = made_at c.args.token.now c.args.self _ c.args.span c.args.suites c.after_name.result c.turned-in-BoundRead.result c.in-BoundRead.is c.after_name.ensures c.turned-in-BoundRead.ensures

pub returns-in-ParamRead : goal.returns-in-ParamRead
returns-in-ParamRead c = made_at c.args.token.now c.args.self _ c.args.span c.args.suites c.after_param.result c.turned-in-ParamRead.result c.in-ParamRead.is c.after_param.ensures c.turned-in-ParamRead.ensures

pub returns-in-ColonWanted : goal.returns-in-ColonWanted
returns-in-ColonWanted c =
    let a = c.args in
    let t = a.token.now in
    acts_in a.self _ (view_span a.span) (view_suites a.suites) (kind_at t) (first_at t) (last_at t) c.end_header.result c.turn.result (ap view_place c.in-ColonWanted.is) c.end_header.ensures c.turn.ensures

pub returns-in-IndentWanted : goal.returns-in-IndentWanted
returns-in-IndentWanted c = made_at c.args.token.now c.args.self _ c.args.span c.args.suites c.at_block.result c.turned-in-IndentWanted.result c.in-IndentWanted.is c.at_block.ensures c.turned-in-IndentWanted.ensures

pub returns-in-Semicolon : goal.returns-in-Semicolon
returns-in-Semicolon c = acts_at c.args.token.now c.args.self _ c.args.span c.args.suites c.after_semicolon.result c.in-Semicolon.is c.after_semicolon.ensures

pub returns-in-Leaving : goal.returns-in-Leaving
returns-in-Leaving c = acts_at c.args.token.now c.args.self _ c.args.span c.args.suites c.after_leaving.result c.in-Leaving.is c.after_leaving.ensures

pub returns-in-NameWanted : goal.returns-in-NameWanted
returns-in-NameWanted c = acts_at c.args.token.now c.args.self _ c.args.span c.args.suites c.at_name.result c.in-NameWanted.is c.at_name.ensures

pub returns-in-BoundWanted : goal.returns-in-BoundWanted
returns-in-BoundWanted c = acts_at c.args.token.now c.args.self _ c.args.span c.args.suites c.at_bound.result c.in-BoundWanted.is c.at_bound.ensures

pub returns-in-ModuleWanted : goal.returns-in-ModuleWanted
returns-in-ModuleWanted c = acts_at c.args.token.now c.args.self _ c.args.span c.args.suites c.at_module.result c.in-ModuleWanted.is c.at_module.ensures

pub returns-in-ImportWanted : goal.returns-in-ImportWanted
returns-in-ImportWanted c = acts_at c.args.token.now c.args.self _ c.args.span c.args.suites (Ok c.after_module.result) c.in-ImportWanted.is c.after_module.ensures

pub returns-in-FunctionWanted : goal.returns-in-FunctionWanted
returns-in-FunctionWanted c = acts_at c.args.token.now c.args.self _ c.args.span c.args.suites c.at_function.result c.in-FunctionWanted.is c.at_function.ensures

pub returns-in-ParamsWanted : goal.returns-in-ParamsWanted
returns-in-ParamsWanted c = acts_at c.args.token.now c.args.self _ c.args.span c.args.suites (Ok c.at_params.result) c.in-ParamsWanted.is c.at_params.ensures

pub returns-in-ParamWanted : goal.returns-in-ParamWanted
returns-in-ParamWanted c = acts_at c.args.token.now c.args.self _ c.args.span c.args.suites c.at_param.result c.in-ParamWanted.is c.at_param.ensures

pub returns-in-Except : goal.returns-in-Except
returns-in-Except c = acts_at c.args.token.now c.args.self _ c.args.span c.args.suites c.after_except.result c.in-Except.is c.after_except.ensures

pub returns-in-ClauseBound : goal.returns-in-ClauseBound
returns-in-ClauseBound c = acts_at c.args.token.now c.args.self _ c.args.span c.args.suites c.at_clause_name.result c.in-ClauseBound.is c.at_clause_name.ensures

pub returns-in-SuiteWanted : goal.returns-in-SuiteWanted
returns-in-SuiteWanted c = acts_at c.args.token.now c.args.self _ c.args.span c.args.suites c.at_suite.result c.in-SuiteWanted.is c.at_suite.ensures

pub returns-in-MatchLine : goal.returns-in-MatchLine
returns-in-MatchLine c = acts_at c.args.token.now c.args.self _ c.args.span c.args.suites (Ok c.at_match_line.result) c.in-MatchLine.is c.at_match_line.ensures

pub returns-in-MatchBlock : goal.returns-in-MatchBlock
returns-in-MatchBlock c = acts_at c.args.token.now c.args.self _ c.args.span c.args.suites c.at_match_block.result c.in-MatchBlock.is c.at_match_block.ensures

pub returns-in-PatternWanted : goal.returns-in-PatternWanted
returns-in-PatternWanted c =
    let a = c.args in
    let t = a.token.now in
    ap (λ (p : Place). act (view_place p) (view_span a.span) (view_suites a.suites) (kind_at t) (first_at t) (last_at t)) c.in-PatternWanted.is

pub returns-in-Wanted : goal.returns-in-Wanted
returns-in-Wanted c =
    let a = c.args in
    let t = a.token.now in
    let r = view_continuation c.in-Wanted.purpose in (
      ap (λ (p : Place). act (view_place p) (view_span a.span) (view_suites a.suites) (kind_at t) (first_at t) (last_at t)) c.in-Wanted.is
          ∙ wanted_reads r (view_span a.span) (view_suites a.suites) (kind_at t) (first_at t) (last_at t)
          ∙ ap (λ (n : Span). begin_expr r n (view_suites a.suites) (kind_at t)) (sym c.onward.ensures),
      ap (λ (n : Span). n.last) c.onward.ensures,
    )
