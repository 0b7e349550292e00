use Rattle.std.proofs.Common.{[], ◌∷◌, ◌++◌, ap, ◌∙◌}
use Rattle.std.specs.Str.{chars}
use Rattle.py_world.specs.Stores.{words_of}
use Rattle.cov_suite.proofs.imports.suite_words.Goals as goal

pub returns : goal.returns
unfolding chars
returns c =
    ap words_of (c.in_ok-push.ensures.items ∙ ap (λ xs. xs ++ c.in_ok-from_str.field-0 ∷ []) c.new-words.ensures.items)
    ∙ ap (λ bytes. chars bytes ∷ []) c.in_ok-from_str.ensures.ok
