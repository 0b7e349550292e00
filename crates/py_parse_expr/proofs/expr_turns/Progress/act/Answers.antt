use Rattle.std.proofs.Common.{subst, sym, false}
use Rattle.py_syntax.specs.Tree.{Exprs, Pairs}
use Rattle.py_syntax.specs.Normal.{LExpr}
use Rattle.py_grammar.specs.Machine.{on, in_items, Out, close_items, begin, step}
use Rattle.py_parse_expr.specs.declared.expr_turns.Progress.TheVariants as progress_
use Rattle.py_parse_expr.specs.ExprViews.{view_class, view_entries, view_opener}
use Rattle.py_parse_expr.specs.ExprStacks.{view_stack}
use Rattle.py_parse_expr.specs.ExprTurns.{view_at, close_dict, Acts}
use Rattle.py_parse_expr.proofs.View.ExprSteps.{dict_open, dict_comma, stays_acts}
use Rattle.py_parse_expr.proofs.expr_turns.Progress.act.Goals as goal

pub returns-in-Want : goal.returns-in-Want
returns-in-Want c = rw c.in-Want.is c.begin.ensures

pub returns-in-Have : goal.returns-in-Have
returns-in-Have c = rw c.in-Have.is c.have.ensures

pub returns-in-Strings : goal.returns-in-Strings
returns-in-Strings c = rw c.in-Strings.is c.in_strings.ensures

pub returns-in-AfterOpen : goal.returns-in-AfterOpen
returns-in-AfterOpen c = rw c.in-AfterOpen.is c.after_open.ensures

pub returns-in-AfterComma : goal.returns-in-AfterComma
returns-in-AfterComma c = rw c.in-AfterComma.is c.after_comma.ensures

pub returns-in-AfterTarget : goal.returns-in-AfterTarget
returns-in-AfterTarget c = rw c.in-AfterTarget.is c.after_target.ensures

pub returns-in-ItemsOpen : goal.returns-in-ItemsOpen
returns-in-ItemsOpen c =
    let k = view_stack c.args.stack.now in
    let t = view_class c.args.class in
    let o = view_opener c.in-ItemsOpen.opener in
    rw c.in-ItemsOpen.is (subst (λ (es : Exprs). Acts (close_items o es false k t (begin LExpr (on (in_items o es) k) t)) c.args.stack.now.limit c.in_items.new.stack c.in_items.result) c.new.ensures.none c.in_items.ensures)

pub returns-in-ItemsComma : goal.returns-in-ItemsComma
returns-in-ItemsComma c = rw c.in-ItemsComma.is c.in_items-in-ItemsComma.ensures

pub returns-in-DictOpen : goal.returns-in-DictOpen
returns-in-DictOpen c =
    let k = view_stack c.args.stack.now in
    let t = view_class c.args.class in
    let closed = subst (λ (ps : Pairs). Acts (close_dict ps false k t) c.args.stack.now.limit c.in_dict.new.stack c.in_dict.result) c.new-in-DictOpen.ensures.none c.in_dict.ensures in
    rw c.in-DictOpen.is (subst (λ (o : Out). Acts o c.args.stack.now.limit c.in_dict.new.stack c.in_dict.result) (sym (dict_open k t)) closed)

pub returns-in-DictComma : goal.returns-in-DictComma
returns-in-DictComma c =
    let k = view_stack c.args.stack.now in
    let t = view_class c.args.class in
    rw c.in-DictComma.is (subst (λ (o : Out). Acts o c.args.stack.now.limit c.in_dict-in-DictComma.new.stack c.in_dict-in-DictComma.result) (sym (dict_comma (view_entries c.in-DictComma.entries) k t)) c.in_dict-in-DictComma.ensures)

pub returns-in-IndexOpen : goal.returns-in-IndexOpen
returns-in-IndexOpen c = rw c.in-IndexOpen.is c.index_open.ensures

pub returns-in-SliceColon : goal.returns-in-SliceColon
returns-in-SliceColon c = rw c.in-SliceColon.is c.slice_colon.ensures

pub returns-in-AfterDot : goal.returns-in-AfterDot
returns-in-AfterDot c = rw c.in-AfterDot.is c.after_dot.ensures

pub returns-in-AfterNot : goal.returns-in-AfterNot
returns-in-AfterNot c = rw c.in-AfterNot.is c.after_not.ensures

pub returns-in-AfterIs : goal.returns-in-AfterIs
returns-in-AfterIs c = rw c.in-AfterIs.is (stays_acts (λ k. step (view_at (progress_.AfterIs c.in-AfterIs.chain) k) (view_class c.args.class)) c.args.stack.now.limit c.args.stack.now c.after_is.result c.requires.valid c.after_is.ensures)

pub returns-in-AfterIsNot : goal.returns-in-AfterIsNot
returns-in-AfterIsNot c = rw c.in-AfterIsNot.is (stays_acts (λ k. step (view_at (progress_.AfterIsNot c.in-AfterIsNot.chain) k) (view_class c.args.class)) c.args.stack.now.limit c.args.stack.now c.after_is_not.result c.requires.valid c.after_is_not.ensures)

pub returns-in-Linked : goal.returns-in-Linked
returns-in-Linked c = rw c.in-Linked.is c.linked-turn.ensures
