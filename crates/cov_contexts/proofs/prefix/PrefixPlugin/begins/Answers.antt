use Rattle.std.proofs.lemmas.Str.Pattern.{starts_text}
use Rattle.cov_contexts.proofs.prefix.PrefixPlugin.begins.Goals as goal

pub returns : goal.returns
returns c =
    rw
    (← c.self.view_is, ← c.as_str.ensures.bytes)
    (starts_text
    c.starts_with.result
    c.as_str.result.now
    c.args.function.now
    c.starts_with.ensures.cases)
