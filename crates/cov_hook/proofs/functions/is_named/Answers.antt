use Rattle.std.proofs.Common.{rules}
use Rattle.std.proofs.lemmas.Str.{encodes-chars}
use Rattle.cov_hook.proofs.functions.is_named.Goals as goal

pub returns : goal.returns
returns c = grind (rules, encodes-chars c.args.function.now c.utf8.function)
