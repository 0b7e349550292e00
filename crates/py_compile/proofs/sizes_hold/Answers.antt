use Rattle.py_compile.proofs.Sizes.{stmts_length}
use Rattle.py_compile.proofs.sizes_hold.Goals as goal

pub returns : goal.returns
returns c = record { stmts = stmts_length }
