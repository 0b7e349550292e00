use Rattle.std.proofs.Common.{ap, ◌∙◌}
use Rattle.std.specs.Str.{chars}
use Rattle.py_text.specs.Comparison.{is_same_text}
use Rattle.py_world.proofs.Spelled.{spelled_method}
use Rattle.py_world.proofs.attributes.is_method.Goals as goal

pub returns : goal.returns
returns c = c.is_text.ensures ∙ ap (λ s. is_same_text c.args.name.now (chars s)) c.method_name.ensures ∙ ap (is_same_text c.args.name.now) (spelled_method c.args.method)
