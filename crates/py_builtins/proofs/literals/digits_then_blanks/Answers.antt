use Rattle.std.proofs.Common.{◌≡◌, ℕ, ◌+◌, ◌-◌, ◌*◌, min, Bool, true, false, drop, Option, Some, None, ap, sym, ◌∙◌, arith, rules, if◌then◌else◌}
use Rattle.py_builtins.specs.Builtins.{is_digit, are_blanks, digits_then_blanks}
use Rattle.py_builtins.specs.Calls.{capped}
use Rattle.py_builtins.proofs.Digits.{digit_on, digits_end, digits_all, held}
use Rattle.py_builtins.proofs.Rests.{whole_rest}
use Rattle.py_builtins.proofs.literals.digits_then_blanks.Goals as goal

abbrev ended : ℕ → Bool → Option ℕ
ended n b = if b then Some n else None

pub returns-then-are_blanks : goal.returns-then-are_blanks
returns-then-are_blanks c =
    let none : is_digit c.index-characters-i.result ≡ false = search rules in
    let blanks : are_blanks (drop c.loop-i.i c.args.characters.now) ≡ true = search (rules, whole_rest) in
    held c.loop-i.number c.loop-i.invariant.fits ∙ ap (λ b. capped (ended c.loop-i.number b)) (sym blanks)
    ∙ digits_end c.args.characters.now c.loop-i.i c.index-characters-i.result c.loop-i.number _ c.loop-i-test.true c.index-characters-i.is none c.loop-i.invariant.digits

pub returns-else-are_blanks : goal.returns-else-are_blanks
returns-else-are_blanks c =
    let none : is_digit c.index-characters-i.result ≡ false = search rules in
    let blanks : are_blanks (drop c.loop-i.i c.args.characters.now) ≡ false = search (rules, whole_rest) in
    ap (λ b. capped (ended c.loop-i.number b)) (sym blanks)
    ∙ digits_end c.args.characters.now c.loop-i.i c.index-characters-i.result c.loop-i.number _ c.loop-i-test.true c.index-characters-i.is none c.loop-i.invariant.digits

pub loop-i-preserved : goal.loop-i-preserved
loop-i-preserved c =
    let some : is_digit c.index-characters-i.result ≡ true = search rules in
    let next : c.saturating_add-number.result ≡ min (min (c.loop-i.number * 10) 18446744073709551615 + (c.index-characters-i.result - 48)) 18446744073709551615 = omega arith in
    record {
      fits = omega (arith, next);
      digits = digit_on c.args.characters.now c.loop-i.i c.index-characters-i.result c.loop-i.number c.saturating_add-number.result (capped (digits_then_blanks 0 c.args.characters.now)) c.loop-i-test.true c.index-characters-i.is some next c.loop-i.invariant.digits;
    }

pub returns : goal.returns
returns c = held c.loop-i.number c.loop-i.invariant.fits ∙ digits_all c.args.characters.now c.loop-i.i c.loop-i.number _ c.loop-i-test.false c.loop-i.invariant.digits
