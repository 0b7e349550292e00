use Rattle.std.proofs.lemmas.Result.{IfOk-from_err}
use Rattle.py_parse_fields.proofs.fields.class_of.Goals as goal

pub returns-in_err-push-in-FString : goal.returns-in_err-push-in-FString
returns-in_err-push-in-FString c = IfOk-from_err c.from_residual.result _ c.from_residual.ensures.0
