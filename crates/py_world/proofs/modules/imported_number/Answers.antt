use Rattle.std.proofs.lemmas.Grind.{common_steps}
use Rattle.std.proofs.Common.{◌+◌, ◌<◌, ◌≤◌, length, drop, map, sym, ap, ◌∙◌, arith}
use Rattle.std.specs.Str.{chars}
use Rattle.py_text.specs.Comparison.{is_same_text}
use Rattle.py_code.specs.Loaded.{module_of}
use Rattle.py_code.specs.Units.{number_from}
use Rattle.py_world.proofs.Numbers.{first_number, number_here, number_next, number_none}
use Rattle.py_world.proofs.Walked.{one_on, drop_here, all_dropped}
use Rattle.py_world.proofs.modules.imported_number.Goals as goal

pub loop-number-init : goal.loop-number-init
loop-number-init c = record { first = omega arith; same = first_number c.args.programs.now.modules.items c.args.name.now }

pub returns-then-is_text : goal.returns-then-is_text
returns-then-is_text c =
    let items = c.args.programs.now.modules.items in
    let lt : c.loop-number.number < length items = omega (arith, c.loop-number-test.true, c.len.ensures) in
    let x = c.index.result.now in
    let same = ap (λ s. is_same_text c.args.name.now (chars s)) (sym c.as_str.ensures.value) ∙ sym c.is_text.ensures ∙ c.if-is_text.true in
    sym (sym c.loop-number.invariant.same
    ∙ ap (λ ys. number_from c.loop-number.number (map module_of ys) c.args.name.now) (drop_here items c.loop-number.number x lt c.index.ensures)
    ∙ number_here c.loop-number.number (module_of x) _ c.args.name.now same)

pub loop-number-preserved : goal.loop-number-preserved
loop-number-preserved c =
    let items = c.args.programs.now.modules.items in
    let lt : c.loop-number.number < length items = omega (arith, c.loop-number-test.true, c.len.ensures) in
    let x = c.index.result.now in
    let other = ap (λ s. is_same_text c.args.name.now (chars s)) (sym c.as_str.ensures.value) ∙ sym c.is_text.ensures ∙ c.if-is_text.false in
    record {
      first = omega (arith, c.loop-number.invariant.first);
      same =
          ap (λ k. number_from k (map module_of (drop (c.loop-number.number + 1) items)) c.args.name.now) (sym (one_on c.loop-number.number))
          ∙ sym (ap (λ ys. number_from c.loop-number.number (map module_of ys) c.args.name.now) (drop_here items c.loop-number.number x lt c.index.ensures)
          ∙ number_next c.loop-number.number (module_of x) _ c.args.name.now other)
          ∙ c.loop-number.invariant.same;
    }

pub returns : goal.returns
returns c =
    let le : length c.args.programs.now.modules.items ≤ c.loop-number.number = omega (arith, c.loop-number-test.false, c.len.ensures) in
    sym (sym c.loop-number.invariant.same
    ∙ ap (λ ys. number_from c.loop-number.number (map module_of ys) c.args.name.now) (all_dropped c.args.programs.now.modules.items c.loop-number.number le)
    ∙ number_none c.loop-number.number c.args.name.now)

pub overflow_cast-result : goal.overflow_cast-result
overflow_cast-result c = grind (arith, common_steps)
