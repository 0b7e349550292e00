use Rattle.std.proofs.Common.{◌≡◌, ◌<◌, ◌^◌, ap, ◌∙◌, arith, rules, to_z, of_z, w64}
use Rattle.std.proofs.lemmas.Int.{to_z-of_z}
use Rattle.std.specs.Fmt.{signed_decimal}
use Rattle.std.specs.Str.{chars}
use lib.Signed.{mag}
use Rattle.py_builtins.specs.Writing.{whole}
use Rattle.py_builtins.proofs.Characters.{chars_of_number}
use Rattle.py_builtins.proofs.Pieces.{written_same}
use Rattle.py_builtins.proofs.writer.Writer.push_number.Goals as goal

pub returns : goal.returns
returns c =
    let fits : to_z w64 (of_z w64 c.args.n) ≡ c.args.n = grind (arith, to_z-of_z) in
    let bytes : c.as_str.result.now ≡ signed_decimal c.args.n = c.as_str.ensures.value ∙ c.in_ok-digits.ensures.ok ∙ ap signed_decimal fits in
    let small : mag c.args.n < 2 ^ 63 = first_of (search rules, grind (arith, c.ranges.n)) in
    written_same c.push_str.result c.args.self.now.text c.push_str.new.self.text _ _ (ap (λ s. whole (chars s)) bytes ∙ ap whole (chars_of_number c.args.n (search rules))) c.push_str.ensures
