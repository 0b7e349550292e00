use Rattle.std.proofs.Common.{false}
use Rattle.py_syntax.specs.declared.expr.Expr.TheVariants as variant
use Rattle.py_syntax.specs.View.{plain_fragments}
use Rattle.py_grammar.specs.Machine.{strings_of}
use Rattle.py_parse_expr.specs.ExprViews.{plains}
use Rattle.py_parse_expr.proofs.View.ExprNodes.{boxed_makes, str_is, fstr_is, plain_target, mixed_target}
use Rattle.py_parse_expr.proofs.expr_nodes.Strings.measured.Goals as goal

pub returns-in-Plain : goal.returns-in-Plain
returns-in-Plain c =
    let high = rw c.in-Plain.is at c.height-height.ensures in
    let xs = c.in-Plain.texts in
    rw c.in-Plain.is (boxed_makes (strings_of (plains xs.items)) (variant.Str xs) c.height-height.result false c.new.result c.new.ensures.expr c.new.ensures.height c.new.ensures.target (str_is xs) high (plain_target xs.items))

pub returns-in-Mixed : goal.returns-in-Mixed
returns-in-Mixed c =
    let high = rw c.in-Mixed.is at c.height-height.ensures in
    let valid = rw c.in-Mixed.is at c.requires in
    let fs = c.in-Mixed.fragments in
    rw c.in-Mixed.is (boxed_makes (strings_of (plain_fragments fs.items)) (variant.FStr fs) c.height-height.result false c.new-in-Mixed.result c.new-in-Mixed.ensures.expr c.new-in-Mixed.ensures.height c.new-in-Mixed.ensures.target (fstr_is fs valid.0) high (mixed_target (plain_fragments fs.items) valid.0))
