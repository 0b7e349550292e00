use Rattle.std.proofs.Common.{◌∷◌, []}
use Rattle.py_builtins.specs.Writing.{whole}
use Rattle.py_builtins.proofs.Pieces.{stopped_then}
use Rattle.py_builtins.proofs.writer.Writer.push_after_backslash.Goals as goal

pub returns-in_err-push : goal.returns-in_err-push
returns-in_err-push c =
    stopped_then c.from_residual.result c.in_err-push.field-0.0 c.args.self.now.text _ (whole (92 ∷ [])) (whole (c.args.c ∷ [])) c.from_residual.ensures.1 c.in_err-push.ensures
