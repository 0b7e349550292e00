use Rattle.std.proofs.Common.{◌≡◌, subst, sym, arith, rules}
use Rattle.std.proofs.lemmas.Grind.{common_steps}
use Rattle.py_syntax.specs.Tree.{slice, absent}
use Rattle.py_parse_fields.specs.declared.token_classes.Symbol.TheVariants as symbol_
use Rattle.py_parse_expr.specs.declared.expr_classes.TokenClass as code_class
use Rattle.py_parse_expr.specs.declared.expr_classes.TokenClass.TheVariants as class_
use Rattle.py_parse_expr.specs.declared.expr_turns.Progress.TheVariants as progress_
use Rattle.py_parse_expr.specs.ExprViews.{view_measured, view_bound}
use Rattle.py_parse_expr.specs.ExprTurns.{Steps}
use Rattle.py_parse_expr.proofs.expr_brackets.slice_colon.Goals as goal

pub returns-in-Symbol-RightBracket : goal.returns-in-Symbol-RightBracket
returns-in-Symbol-RightBracket c =
    let same : c.args.class ≡ class_.Symbol symbol_.RightBracket = first_of (search rules, grind (arith, common_steps), cc) in
    subst (λ (t : code_class.TokenClass). Steps (progress_.SliceColon c.args.of c.args.from) t c.args.stack.now c.closed.new.stack c.closed.result) (sym same) (c.closed.ensures (slice (view_measured c.args.of) (view_bound c.args.from) absent) c.slice-whole.ensures)

pub returns-in_default : goal.returns-in_default
returns-in_default c = grind (arith, common_steps)
