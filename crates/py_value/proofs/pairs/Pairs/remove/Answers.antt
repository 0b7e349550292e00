use Rattle.std.proofs.lemmas.Grind.{common_steps}
use Rattle.std.proofs.Common.{map, ap, ◌∙◌, length, ◌<◌, arith}
use Rattle.std.proofs.lemmas.List.{length-map}
use Rattle.py_value.specs.Keys.{has_only_keys, has_distinct_keys}
use Rattle.py_value.specs.Pairs.{plain_pair}
use Rattle.py_value.proofs.DistinctKeys.{distinct-remove, map-remove, value-removed}
use Rattle.py_value.proofs.Hashing.{index-none}
use Rattle.py_value.proofs.OnlyKeys.{only-remove}
use Rattle.py_value.proofs.pairs.Pairs.remove.Goals as goal

pub invariant_of-self : goal.invariant_of-self
invariant_of-self c = record {
  only_keys = ap (λ ps. has_only_keys (map plain_pair ps)) c.remove-pair.ensures.items ∙ ap has_only_keys (map-remove plain_pair c.args.self.now.pairs.items c.args.at) ∙ only-remove (map plain_pair c.args.self.now.pairs.items) c.args.at c.args.self.now.only_keys;
  distinct_keys = ap (λ ps. has_distinct_keys (map plain_pair ps)) c.remove-pair.ensures.items ∙ ap has_distinct_keys (map-remove plain_pair c.args.self.now.pairs.items c.args.at) ∙ distinct-remove (map plain_pair c.args.self.now.pairs.items) c.args.at c.args.self.now.distinct_keys;
  indexed = index-none c.empty.result _ c.empty.ensures;
}

pub returns-clause-value : goal.returns-clause-value
returns-clause-value c =
    let inside : c.args.at < length c.args.self.now.pairs.items = omega (arith, c.requires, length-map c.args.self.now.pairs.items plain_pair) in
    value-removed c.args.self.now.pairs.items c.args.at c.remove-pair.result inside c.remove-pair.ensures.value

pub returns-clause-removed : goal.returns-clause-removed
returns-clause-removed c = ap (λ ps. map plain_pair ps) c.remove-pair.ensures.items ∙ map-remove plain_pair c.args.self.now.pairs.items c.args.at

pub remove-pair-requires : goal.remove-pair-requires
remove-pair-requires c = grind (arith, common_steps)
