use Rattle.std.proofs.lemmas.Grind.{common_steps}
use Rattle.std.proofs.Common.{◌≡◌, ◌∷◌, ◌++◌, [], length, map, take, drop, ap, suc, arith, rules, sym, ◌∙◌, length-append}
use Rattle.py_code.specs.Operands.{value_in}
use Rattle.py_instructions.specs.View.{plain_operands}
use Rattle.py_instructions.proofs.Taken.{not_empty, one_on}
use Rattle.py_instructions.proofs.TakenValues.{front_more, rest_more, all_taken}
use Rattle.py_instructions.proofs.operands.Stack+Operand.take_values.Goals as goal

-- there are enough of them
pub returns-in-None : goal.returns-in-None
returns-in-None c = absurd (not_empty (length c.loop-self.values.items) c.args.self.now (omega (arith, c.if-n-len.false, c.len.ensures, c.loop-self-test.true)) (sym c.loop-self.invariant.rest ∙ c.in-None.ensures.0))

pub loop-self-preserved : goal.loop-self-preserved
loop-self-preserved c =
    let k = length c.loop-self.values.items in
    let more : c.push.new.self.items ≡ c.loop-self.values.items ++ c.into_value.result ∷ [] = search rules in
    let long : length c.push.new.self.items ≡ suc k = ap length more ∙ length-append c.loop-self.values.items (c.into_value.result ∷ []) ∙ one_on k in
    record {
      count = omega (arith, c.loop-self.invariant.count, c.loop-self-test.true, long);
      rest = rest_more c.args.self.now k c.in-Some.x c.loop-self.self c.pop.new.self c.loop-self.invariant.rest c.in-Some.ensures ∙ ap (λ n. drop n c.args.self.now) (sym long);
      front = front_more c.args.self.now k c.loop-self.values.items c.push.new.self.items c.into_value.result c.in-Some.x c.loop-self.self c.pop.new.self c.loop-self.invariant.rest c.in-Some.ensures c.into_value.ensures more c.loop-self.invariant.front ∙ ap (λ n. map value_in (take n (plain_operands c.args.self.now))) (sym long);
    }

pub returns : goal.returns
returns c =
    all_taken c.args.self.now c.loop-self.self c.loop-self.values.items c.reverse.new.self.items c.args.n (length c.loop-self.values.items)
    (omega (arith, c.loop-self.invariant.count, c.loop-self-test.false)) (omega (arith, c.if-n-len.false, c.len.ensures)) c.loop-self.invariant.rest c.loop-self.invariant.front c.reverse.ensures.items

pub returns-then-n-len : goal.returns-then-n-len
returns-then-n-len c = grind (arith, common_steps)
