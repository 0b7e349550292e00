use Rattle.std.proofs.Common.{length, sym, subst, ◌≤◌, ◌∙◌}
use Rattle.std.proofs.lemmas.Str.{chars-nil}
use Rattle.cov_mutates.proofs.Writing.{no-path}
use Rattle.cov_mutates.proofs.lines.path_of.Goals as goal

pub returns-in-None : goal.returns-in-None
returns-in-None c =
    chars-nil
    ∙ sym (no-path c.args.programs.now.modules.items c.args.number
    (subst (λ ps. length ps ≤ c.args.number) c.deref.ensures.value c.in-None.ensures.lookup.3))
