use Rattle.std.proofs.Common.{◌+◌, ◌*◌, ◌^◌, min, arith, ap, ◌∙◌}
use Rattle.std.specs.Char.{digit_value}
use Rattle.py_token.specs.Numbers.{digits_value}
use Rattle.py_token.proofs.Digits.{value_capped, value_more}
use Rattle.py_token.proofs.numbers.digits_value.Goals as goal

pub digits-preserved-then-c-ne95 : goal.digits-preserved-then-c-ne95
digits-preserved-then-c-ne95 c = record {
  in_range = omega (arith, c.more_value-value.ensures);
  same_value = ap (λ n. min (digits_value c.args.base n c.in-Some.after.now) (2 ^ 63)) c.more_value-value.ensures
      ∙ value_capped c.args.base (c.digits.value * c.args.base + digit_value c.in-Some.c) (2 ^ 63) c.in-Some.after.now (omega arith)
      ∙ ap (λ n. min n (2 ^ 63)) (value_more c.args.base c.digits.value c.in-Some.c c.digits.rest.now c.in-Some.after.now c.in-Some.ensures c.if-c-ne95.true)
      ∙ c.digits.invariant.same_value;
}
