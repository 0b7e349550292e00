use Rattle.std.proofs.Common.{◌∙◌, length, ◌<◌, arith}
use Rattle.py_value.specs.View.{plain}
use Rattle.py_value.proofs.DistinctKeys.{distinct-set, with_value-present, place-inside}
use Rattle.py_value.proofs.Hashing.{index-set}
use Rattle.py_value.proofs.OnlyKeys.{only-set}
use Rattle.py_value.proofs.pairs.Pairs.set.Goals as goal

pub index_mut-requires : goal.index_mut-requires
index_mut-requires c =
    let inside : c.in-Some.i < length c.args.self.now.pairs.items = place-inside (plain c.args.key) c.args.self.now.pairs.items c.in-Some.i c.in-Some.ensures in
    omega arith

pub invariant_of-self : goal.invariant_of-self
invariant_of-self c = record {
  only_keys = only-set c.args.self.now.pairs.items c.in-Some.i c.index_mut.result.now c.args.value c.index_mut.ensures.value ∙ c.args.self.now.only_keys;
  distinct_keys = distinct-set c.args.self.now.pairs.items c.in-Some.i c.index_mut.result.now c.args.value c.index_mut.ensures.value ∙ c.args.self.now.distinct_keys;
  indexed = index-set c.args.self.now.index c.args.self.now.pairs.items c.in-Some.i c.index_mut.result.now c.args.value c.index_mut.ensures.value c.args.self.now.indexed;
}

pub returns-in-Some-clause-ok : goal.returns-in-Some-clause-ok
returns-in-Some-clause-ok c = with_value-present (plain c.args.key) c.args.value c.args.self.now.pairs.items c.in-Some.i c.index_mut.result.now c.index_mut.ensures.value c.in-Some.ensures
