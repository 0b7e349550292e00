use Rattle.std.proofs.Common.{◌≡◌, subst, sym, false, arith, rules}
use Rattle.std.proofs.lemmas.Grind.{common_steps}
use Rattle.py_syntax.specs.Tree.{tuple}
use Rattle.py_parse_fields.specs.declared.token_classes.Symbol.TheVariants as symbol_
use Rattle.py_parse_expr.specs.declared.expr_classes.TokenClass as code_class
use Rattle.py_parse_expr.specs.declared.expr_classes.TokenClass.TheVariants as class_
use Rattle.py_parse_expr.specs.declared.expr_turns.Progress.TheVariants as progress_
use Rattle.py_parse_expr.specs.ExprViews.{view_row}
use Rattle.py_parse_expr.specs.ExprTurns.{Steps}
use Rattle.py_parse_expr.proofs.expr_brackets.after_open.Goals as goal

pub returns-in-Symbol-RightParen : goal.returns-in-Symbol-RightParen
returns-in-Symbol-RightParen c =
    let same : c.args.class ≡ class_.Symbol symbol_.RightParen = first_of (search rules, grind (arith, common_steps), cc) in
    subst (λ (t : code_class.TokenClass). Steps progress_.AfterOpen t c.args.stack.now c.closed.new.stack c.closed.result) (sym same) (rw c.new.ensures.none at (c.closed.ensures (tuple (view_row c.new.result) false) c.tuple-whole.ensures))

pub returns-in_default : goal.returns-in_default
returns-in_default c = grind (arith, common_steps)
