use Rattle.py_syntax.specs.Tree.{not', unary, cond}
use Rattle.py_grammar.specs.Least.{least_name}
use Rattle.py_parse_fields.specs.Frames.{view_class}
use Rattle.py_parse_fields.proofs.Offers.{given}
use Rattle.py_parse_fields.proofs.replies.offer.Goals as goal

pub returns-in-CondElse : goal.returns-in-CondElse
returns-in-CondElse c = rw c.in-CondElse.is (record { same = λ k free. given (cond least_name least_name least_name) k (view_class c.args.class) free })

pub returns-in-NotOf : goal.returns-in-NotOf
returns-in-NotOf c = rw c.in-NotOf.is (record { same = λ k free. given (not' least_name) k (view_class c.args.class) free })

pub returns-in-UnaryOf : goal.returns-in-UnaryOf
returns-in-UnaryOf c = rw c.in-UnaryOf.is (record { same = λ k free. given (unary c.in-UnaryOf.field-0 least_name) k (view_class c.args.class) free })
