use Rattle.std.proofs.lemmas.Grind.{common_steps}
use Rattle.std.proofs.Common.{◌<◌, length, arith}
use Rattle.std.proofs.lemmas.List.{length-map}
use Rattle.py_value.specs.Objects.{plain_object}
use Rattle.py_value.specs.Heaps.{without}
use Rattle.py_value.proofs.Changes.{changed}
use Rattle.py_value.proofs.heap.Heap.take.Goals as goal

pub returns-clause-taken : goal.returns-clause-taken
returns-clause-taken c =
    let inside : c.args.of.place < length c.args.self.now.objects.items = omega (arith, c.requires.place, length-map c.args.self.now.objects.items plain_object) in
    changed (without c.args.at) c.args.self.now.objects.items c.args.of.place c.index_mut.result.now c.take.new.self inside c.index_mut.ensures.value c.take.ensures.taken

pub returns-clause-value : goal.returns-clause-value
returns-clause-value c = grind (arith, common_steps)
