-- From the cells in memory to cells, with nothing of memory.
--     plain_op, plain_guard, plain_cell       instructions, handlers, and both
--     plain_site                              where a pattern stands
use Rattle.std.specs.Prelude.{Option, Some, None}
use Rattle.py_compile_expr.specs.declared.cells.Op.{Op as OpNode}
use Rattle.py_compile_expr.specs.declared.cells.Op.TheVariants as op_
use Rattle.py_compile_expr.specs.declared.cells.Guard.{Guard as GuardNode}
use Rattle.py_compile_expr.specs.declared.cells.Cell.{Cell as CellNode}
use Rattle.py_compile_expr.specs.declared.site.Site.{Site as SiteNode}
use Rattle.py_compile_expr.specs.Cells.{Op, constant, load, store, unset, attribute, method, imports, module_named, takes, marks, marks_again, plain, Guard, Cell}
use Rattle.py_compile_expr.specs.Patterns.{Site}

-- a symbolic instruction
abbrev pub plain_op : OpNode → Op
plain_op (op_.Constant k) = constant k
plain_op (op_.Load x) = load x
plain_op (op_.Store x) = store x
plain_op (op_.Unset x) = unset x
plain_op (op_.Attribute x) = attribute x
plain_op (op_.Method x) = method x
plain_op (op_.Import x) = imports x
plain_op (op_.Module x) = module_named x
plain_op (op_.Take m x) = takes m x
plain_op (op_.Mark l) = marks l
plain_op (op_.Again l) = marks_again l
plain_op (op_.Plain i) = plain i

-- where an exception goes on, if it does inside the unit
abbrev pub plain_guard : Option GuardNode → Option Guard
plain_guard None = None
plain_guard (Some g) = Some (record { target = g.target; depth = g.depth })

-- a symbolic instruction with the handler of its place
abbrev pub plain_cell : CellNode → Cell
plain_cell c = record { op = plain_op c.op; guard = plain_guard c.guard }

-- where a pattern stands
abbrev pub plain_site : SiteNode → Site
plain_site s = record {
  guard = plain_guard s.guard;
  waiting = s.waiting;
  fail = s.fail;
  extra = s.extra;
}
