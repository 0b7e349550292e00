use Rattle.std.proofs.Common.{◌∷◌, [], ◌/◌, ◌%◌, ap}
use Rattle.py_builtins.specs.Displays.{hex_digit}
use Rattle.py_builtins.specs.Writing.{whole, ◌▸◌}
use Rattle.py_builtins.proofs.Pieces.{stopped_then, wrote_then, settles_same}
use Rattle.py_builtins.proofs.writer.Writer.push_hexadecimal.Goals as goal

pub returns-in_err-push_after_backslash : goal.returns-in_err-push_after_backslash
returns-in_err-push_after_backslash c =
    stopped_then c.from_residual.result c.in_err-push_after_backslash.field-0.0 c.args.self.now.text _ (whole (92 ∷ 120 ∷ [])) (whole (hex_digit (c.args.code / 16) ∷ hex_digit (c.args.code % 16) ∷ [])) c.from_residual.ensures.1 c.in_err-push_after_backslash.ensures

pub returns-in_err-push : goal.returns-in_err-push
returns-in_err-push c =
    let r = c.from_residual-in_err-push.result in
    wrote_then r c.args.self.now.text c.push_after_backslash.new.self.text _ (whole (92 ∷ 120 ∷ [])) (whole (hex_digit (c.args.code / 16) ∷ hex_digit (c.args.code % 16) ∷ [])) c.in_ok-push_after_backslash.ensures
    (stopped_then r c.in_err-push.field-0.0 c.push_after_backslash.new.self.text _ (whole (hex_digit (c.args.code / 16) ∷ [])) (whole (hex_digit (c.args.code % 16) ∷ [])) c.from_residual-in_err-push.ensures.1
    (settles_same c.in_err-push.field-0.0 _ _ (ap (λ d. whole c.push_after_backslash.new.self.text ▸ whole (d ∷ [])) c.hex_digit.ensures) c.in_err-push.ensures))
