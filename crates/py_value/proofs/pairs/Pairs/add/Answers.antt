use Rattle.std.proofs.Common.{◌≡◌, ◌++◌, ◌∷◌, [], Vec, None, ◌∙◌, ap, sym, is_ok, map, length, arith}
use Rattle.std.proofs.lemmas.List.{map-append}
use Rattle.std.specs.declared.alloc.Global.{Global}
use Rattle.py_value.specs.declared.pairs.Pair.{Pair}
use Rattle.py_value.specs.View.{plain}
use Rattle.py_value.specs.Keys.{has_only_keys, has_distinct_keys, place_of_key}
use Rattle.py_value.specs.Objects.{plain_pairs}
use Rattle.py_value.specs.Pairs.{plain_pair}
use Rattle.py_value.specs.Hashes.{with_place}
use Rattle.py_value.proofs.DistinctKeys.{distinct-pushed, with_value-new}
use Rattle.py_value.proofs.Hashing.{index-pushed}
use Rattle.py_value.proofs.OnlyKeys.{only-pushed}
use Rattle.py_value.proofs.pairs.Pairs.add.Goals as goal

pub invariant_of-self-2 : goal.invariant_of-self-2
invariant_of-self-2 c =
    let pair : Pair = record { key = c.args.key; value = c.args.value } in
    let pairs = c.make_room.new.self.pairs.items in
    let absent : place_of_key (plain c.args.key) (map plain_pair pairs) ≡ None =
    ap (λ (v : Vec Pair Global). place_of_key (plain c.args.key) (map plain_pair v.items)) c.make_room.ensures ∙ c.requires.absent in
    let last : c.len-place.result ≡ length pairs = omega (arith, c.len-place.ensures) in
    record {
      only_keys = ap (λ ps. has_only_keys (map plain_pair ps)) c.push.ensures.items ∙ only-pushed (is_ok c.push.result) pairs pair c.make_room.new.self.only_keys c.requires.key;
      distinct_keys = ap (λ ps. has_distinct_keys (map plain_pair ps)) c.push.ensures.items ∙ distinct-pushed (is_ok c.push.result) pairs pair c.make_room.new.self.distinct_keys absent;
      indexed = index-pushed (is_ok c.push.result) c.make_room.new.self.index c.add.new.self pairs c.push.new.self.items c.hash_of-hash.result pair c.hash_of-hash.ensures
          (c.in_ok-add.ensures.ok ∙ ap (with_place c.make_room.new.self.index c.hash_of-hash.result) last) c.push.ensures.items c.make_room.new.self.indexed;
    }

pub returns-clause-ok : goal.returns-clause-ok
returns-clause-ok c =
    ap (map plain_pair) c.in_ok-push.ensures.items
    ∙ map-append plain_pair c.make_room.new.self.pairs.items _
    ∙ ap (λ (v : Vec Pair Global). map plain_pair v.items ++ (plain c.args.key, plain c.args.value) ∷ []) c.make_room.ensures
    ∙ sym (with_value-new (plain c.args.key) (plain c.args.value) (plain_pairs c.args.self.now) c.requires.absent)
