use Rattle.std.proofs.Common.{◌≡◌, ◌==◌, ◌<◌, false, length, ap, sym, arith, rules}
use Rattle.std.proofs.lemmas.Bool.Decides.{nat_tests}
use Rattle.py_builtins.proofs.Reading.{read_whole}
use Rattle.py_builtins.proofs.lines.at_end.Goals as goal

pub returns-else-is_empty : goal.returns-else-is_empty
returns-else-is_empty c = λ h l.
    let none : (length c.args.line.items == 0) ≡ false = search rules in
    let some : 0 < length c.args.line.items = grind (arith, nat_tests) in
    sym (ap (λ p. p.0) (read_whole c.args.line.items h l some))
