use Rattle.std.proofs.Common.{◌<◌, Some, length, ap, sym, ◌∙◌, arith}
use Rattle.std.specs.Prelude.{slice_get}
use Rattle.std.proofs.lemmas.Option.{same_Some}
use Rattle.py_text.specs.Comparison.{is_same_text}
use Rattle.py_text.proofs.SameTexts.{same_text}
use Rattle.py_world.specs.Numbered.{global_names}
use Rattle.py_world.proofs.SetAt.{name_here, name_within}
use Rattle.py_world.proofs.Times.{this, other, which}
use Rattle.py_world.proofs.numbering.number_by_name.Goals as goal

pub returns-then-is_same : goal.returns-then-is_same
returns-then-is_same c =
    let g = c.index-globals-number.result in
    name_here c.args.globals.now c.loop-number.number g c.loop-number-test.true c.index-globals-number.is
    ∙ ap (λ x. Some x) (sym (same_text c.args.name.now g.name (ap (λ h. is_same_text c.args.name.now h.name) c.index-globals-number.is ∙ sym c.is_same.ensures ∙ c.if-is_same.true)))

pub loop-number-preserved : goal.loop-number-preserved
loop-number-preserved c =
    λ k y lt at.
    let n = c.loop-number.number in
    let g = c.index-globals-number.result in
    elim (which n k) [
      | this e ↦
          ap (is_same_text c.args.name.now)
          (same_Some y g.name (sym at ∙ ap (slice_get (global_names c.args.globals.now)) e ∙ name_here c.args.globals.now n g c.loop-number-test.true c.index-globals-number.is))
          ∙ ap (λ h. is_same_text c.args.name.now h.name) c.index-globals-number.is
          ∙ sym c.is_same.ensures
          ∙ c.if-is_same.false
      | other ne ↦ c.loop-number.invariant k y (omega arith) at
    ]

pub returns : goal.returns
returns c =
    λ n y at.
    let within : n < length c.args.globals.now = name_within c.args.globals.now n y at in
    c.loop-number.invariant n y (omega (arith, within, c.loop-number-test.false)) at
