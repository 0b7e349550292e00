use Rattle.std.proofs.Common.{arith, refl}
use Rattle.std.specs.Prelude.{nat_eq}
use Rattle.indexmap.specs.IndexMap.{get}
use Rattle.py_compile_body.proofs.Numbers.{number_none, none_there, number_turn, number_all}
use Rattle.py_compile_body.proofs.defs.numbers_of.Goals as goal

pub lines-init : goal.lines-init
lines-init c = record {
  found = λ q. number_none c.args.lines.now _ q _ refl (none_there c.new-numbers.result q c.new-numbers.ensures.empty);
  within = omega arith;
}

pub lines-preserved : goal.lines-preserved
lines-preserved c = record {
  found = λ q. number_turn c.args.lines.now _ c.lines.left c.in_ok-unit.unit q (get nat_eq c.lines.numbers q) _ (omega (arith, c.lines-test.true)) c.in_ok-unit.ensures (omega (arith, c.lines-test.true, c.lines.invariant.within)) (c.in_ok-insert.ensures.updates.0 q) (c.lines.invariant.found q);
  within = omega (arith, c.lines-test.true, c.lines.invariant.within);
}

pub returns : goal.returns
returns c = λ q. number_all c.args.lines.now c.lines.left q _ (omega (arith, c.lines-test.false)) (c.lines.invariant.found q)
