use Rattle.py_compile_expr.proofs.Sizes.{expr_length, each_length, target_length, all_length, pattern_length, names_length}
use Rattle.py_compile_expr.proofs.sizes_hold.Goals as goal

pub returns : goal.returns
returns c = record { expr = expr_length; each = each_length; target = target_length; all = all_length; pattern = pattern_length; names = names_length }
