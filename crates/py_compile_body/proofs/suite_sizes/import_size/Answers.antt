use Rattle.py_compile_expr.proofs.Turns.{the_number}
use Rattle.py_compile_body.proofs.SimpleSizes.{import_size-is}
use Rattle.py_compile_body.proofs.suite_sizes.import_size.Goals as goal

pub returns : goal.returns
returns c = the_number c.times.result _ _ c.times.ensures (import_size-is c.args.names.now)
