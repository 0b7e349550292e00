use Rattle.std.proofs.Common.{◌≡◌, sym, ap, subst, ◌∙◌}
use Rattle.std.specs.Prelude.{IfOk}
use Rattle.cov_exclude.specs.Texts.{ArePlainlyMade, texts_of, matched_lines}
use Rattle.cov_exclude.proofs.patterns.Patterns.matched_lines.Goals as goal

pub matched_lines-requires : goal.matched_lines-requires
matched_lines-requires c = subst ArePlainlyMade (sym c.deref.ensures.value) c.self.invariant

pub returns : goal.returns
returns c =
    subst (λ texts. IfOk c.matched_lines.result (λ matched. matched ≡ matched_lines texts c.args.source.now))
    (ap texts_of c.deref.ensures.value ∙ c.self.view_is) c.matched_lines.ensures
