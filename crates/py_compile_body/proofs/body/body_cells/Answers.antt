use Rattle.py_compile_body.proofs.Lines.{body_by}
use Rattle.py_compile_body.proofs.body.body_cells.Goals as goal

pub returns : goal.returns
returns c = body_by c.cells_of.result c.args.defs.now _ _ c.without_docstring.ensures c.cells_of.ensures
