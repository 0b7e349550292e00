use Rattle.std.proofs.Common.{◌≡◌, subst, sym, arith, rules}
use Rattle.std.proofs.lemmas.Grind.{common_steps}
use Rattle.py_syntax.specs.Tree.{dict}
use Rattle.py_parse_fields.specs.declared.token_classes.Symbol.TheVariants as symbol_
use Rattle.py_parse_expr.specs.declared.expr_classes.TokenClass as code_class
use Rattle.py_parse_expr.specs.declared.expr_classes.TokenClass.TheVariants as class_
use Rattle.py_parse_expr.specs.ExprViews.{view_entries}
use Rattle.py_parse_expr.specs.ExprTurns.{in_braces, Moves}
use Rattle.py_parse_expr.proofs.expr_brackets.in_dict.Goals as goal

pub returns-in-Symbol-RightBrace : goal.returns-in-Symbol-RightBrace
returns-in-Symbol-RightBrace c =
    let same : c.args.class ≡ class_.Symbol symbol_.RightBrace = first_of (search rules, grind (arith, common_steps), cc) in
    subst (λ (t : code_class.TokenClass). Moves (in_braces c.args.entries c.args.comma t) c.args.stack.now c.closed.new.stack c.closed.result) (sym same) (c.closed.ensures (dict (view_entries c.args.entries) c.args.comma) c.dict-whole.ensures)

pub returns-in_default : goal.returns-in_default
returns-in_default c = grind (arith, common_steps)
