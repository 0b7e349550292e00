use Rattle.std.proofs.Common.{◌≡◌, ◌+◌, ◌-◌, ◌≤◌, ◌++◌, Some, length, length-drop, drop, ap, sym, ◌∙◌, arith}
use Rattle.std.proofs.lemmas.List.{length-map, take_all}
use Rattle.py_value.specs.View.{plain, plains}
use Rattle.py_world.proofs.Filled.{enough}
use Rattle.py_world.proofs.Lookups.{map-drop}
use Rattle.py_world.proofs.parameters.with_defaults.Goals as goal

pub returns : goal.returns
returns c = λ names e.
    let defaults = c.args.defaults.now in
    let values = c.args.values.items in
    let first = length defaults - (c.args.params - c.len-given.result) in
    let ld : length (plains defaults) ≡ length defaults = length-map defaults plain in
    let lv : length (plains values) ≡ length values = length-map values plain in
    let le : length (plains values) ≤ length names = omega (arith, e, lv, c.if-given-params.false, c.len-given.ensures) in
    let ge : length names ≤ length (plains values) + length (plains defaults) = omega (arith, e, lv, ld, c.if-given-params.false, c.if-params-given.false, c.len-given.ensures) in
    let at : length (plains values) + length (plains defaults) - length names ≡ first = omega (arith, e, lv, ld, c.if-given-params.false, c.if-params-given.false, c.len-given.ensures) in
    let all : length (drop first defaults) ≤ length defaults - first = omega (arith, length-drop first defaults) in
    ap Some (c.in_ok-extend.ensures ∙ ap (λ ys. plains values ++ plains ys) (take_all (length defaults - first) (drop first defaults) all) ∙ ap (λ ys. plains values ++ ys) (map-drop plain first defaults)) ∙ sym (enough names (plains defaults) (plains values) first le ge at)
