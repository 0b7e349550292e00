use Rattle.std.proofs.Common.{◌≡◌, ◌+◌, ◌-◌, ◌<◌, Some, length, drop, get_or, ap, ◌∙◌, arith}
use Rattle.std.proofs.lemmas.Option.{slice_get-get_or}
use Rattle.py_world.specs.Numbered.{times}
use Rattle.py_world.proofs.Times.{times_none, times_other}
use Rattle.py_world.proofs.Walked.{all_dropped, drop_here, get_or_any}
use Rattle.py_world.proofs.numbering.last_place.Goals as goal

pub loop-rest-init : goal.loop-rest-init
loop-rest-init c =
    let ns = c.args.numbers.now in
    record { inside = omega arith; none = ap (times c.args.number) (all_dropped ns (length ns) (omega arith)) ∙ times_none c.args.number }

pub returns-then-numbers-rest : goal.returns-then-numbers-rest
returns-then-numbers-rest c =
    let lt : c.loop-rest.rest - 1 < length c.args.numbers.now = omega (arith, c.loop-rest.invariant.inside, c.loop-rest-test.true) in
    slice_get-get_or c.args.numbers.now (c.loop-rest.rest - 1) 0 lt ∙ ap (λ n. Some n) c.if-numbers-rest.true

pub loop-rest-preserved : goal.loop-rest-preserved
loop-rest-preserved c =
    let ns = c.args.numbers.now in
    let n = c.args.number in
    let p = c.loop-rest.rest - 1 in
    let lt : p < length ns = omega (arith, c.loop-rest.invariant.inside, c.loop-rest-test.true) in
    let back : p + 1 ≡ c.loop-rest.rest = omega (arith, c.loop-rest-test.true) in
    let x = get_or ns p 0 in
    record {
      inside = omega (arith, c.loop-rest.invariant.inside);
      none =
          ap (times n) (drop_here ns p x lt (get_or_any ns p 0 x lt))
          ∙ times_other n x (drop (p + 1) ns) c.if-numbers-rest.false
          ∙ ap (λ k. times n (drop k ns)) back
          ∙ c.loop-rest.invariant.none;
    }
