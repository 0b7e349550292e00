use Rattle.std.proofs.lemmas.Grind.{common_steps}
use Rattle.std.proofs.Common.{◌≡◌, true, ap, sym, ◌∙◌, rules, Err, arith}
use Rattle.py_value.specs.Keys.{is_key}
use Rattle.py_value.specs.Causes.{key_error}
use Rattle.py_value.specs.Heaps.{dict_pairs, object_at}
use Rattle.py_value.specs.View.{plain}
use Rattle.py_value.specs.HeapView.{plain_heap}
use Rattle.py_value.specs.Plain.{PlainRaised}
use Rattle.py_builtins.proofs.KeyPlaces.{pairs_inside, place_inside, popped, not_found}
use Rattle.py_builtins.proofs.dict_methods.pop_key.Goals as goal

pub take-requires-clause-inside : goal.take-requires-clause-inside
take-requires-clause-inside c =
    pairs_inside (object_at (plain_heap c.args.heap.now) c.args.dict.place) c.in-Some.at
    (place_inside (plain c.args.key.now) (dict_pairs (plain_heap c.args.heap.now) c.args.dict.place) c.in-Some.at (sym c.in-Some.ensures))

pub returns-in-Some-clause-answer : goal.returns-in-Some-clause-answer
returns-in-Some-clause-answer c =
    let known : is_key (plain c.args.key.now) ≡ true = search rules in
    popped (plain_heap c.args.heap.now) (plain_heap c.take.new.self) c.args.dict.place c.in-Some.at (plain c.args.key.now) (plain c.take.result) _ known (sym c.in-Some.ensures) c.take.ensures.value c.take.ensures.taken

pub returns-in_ok-of_key-in-None-clause-answer : goal.returns-in_ok-of_key-in-None-clause-answer
returns-in_ok-of_key-in-None-clause-answer c =
    let known : is_key (plain c.args.key.now) ≡ true = search rules in
    ap (λ (r : PlainRaised). Err r) c.in_ok-of_key-in-None.ensures
    ∙ not_found (plain_heap c.args.heap.now) c.args.dict.place (plain c.args.key.now) (Err (key_error (plain c.args.key.now))) known (sym c.in-None.ensures)

pub take-requires-clause-place : goal.take-requires-clause-place
take-requires-clause-place c = grind (arith, common_steps)
