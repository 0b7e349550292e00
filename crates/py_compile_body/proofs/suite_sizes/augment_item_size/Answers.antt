use Rattle.py_compile_body.proofs.suite_sizes.augment_item_size.Goals as goal

pub returns : goal.returns
returns c = c.both.ensures _ _ (c.both-read.ensures _ _ c.expr_size.ensures c.expr_size-2.ensures) c.expr_size-3.ensures
