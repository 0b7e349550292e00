use Rattle.std.proofs.Common.{map, ap, sym, ◌∙◌, subst}
use Rattle.std.specs.Prelude.{slice_get}
use Rattle.py_world.specs.Numbered.{HaveOwnNames, listed, times, times_named, plain_global, global_names}
use Rattle.py_world.proofs.Listed.{listed_none}
use Rattle.py_world.proofs.OwnNames.{none_named}
use Rattle.py_world.proofs.Times.{times_none}
use Rattle.py_world.proofs.globals.Globals.new.Goals as goal

pub invariant_of-result : goal.invariant_of-result
invariant_of-result c = record {
  own_names = subst (λ gs. HaveOwnNames (global_names gs)) (sym c.new.ensures.items) none_named;
  listed = λ n. ap (times n) c.new-2.ensures.items ∙ times_none n ∙ ap (λ gs. times_named (slice_get (map plain_global gs) n)) (sym c.new.ensures.items);
}

pub returns : goal.returns
returns c = ap (listed (map plain_global c.new.result.items)) c.new-2.ensures.items ∙ listed_none (map plain_global c.new.result.items)
