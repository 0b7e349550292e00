use Rattle.std.proofs.Common.{sym, ap, subst, ◌∙◌}
use Rattle.cov_exclude.specs.Texts.{is_matched, texts_of}
use Rattle.cov_exclude.specs.Touched.{numbers_from, IsRising}
use Rattle.cov_exclude.specs.Views.{texts_view}
use Rattle.cov_exclude.proofs.Flags.{numbers-are}
use Rattle.cov_exclude.proofs.Touching.{numbers-rise}
use Rattle.cov_exclude.proofs.lines.matched_lines.Goals as goal

pub new-requires : goal.new-requires
new-requires c =
    let passes = is_matched (texts_of c.args.made.now) in
    let texts = texts_view c.deref.result.now in
    subst IsRising (sym (numbers-are passes 1 texts c.deref-2.result.now c.in_ok-numbers.numbers.items (c.deref-2.ensures.value ∙ c.in_ok-flags.ensures) c.in_ok-numbers.ensures))
    (numbers-rise passes 1 texts)

pub returns : goal.returns
returns c =
    let passes = is_matched (texts_of c.args.made.now) in
    let texts = texts_view c.deref.result.now in
    c.new.ensures
    ∙ numbers-are passes 1 texts c.deref-2.result.now c.in_ok-numbers.numbers.items (c.deref-2.ensures.value ∙ c.in_ok-flags.ensures) c.in_ok-numbers.ensures
    ∙ ap (numbers_from passes 1) (ap texts_view c.deref.ensures.value ∙ c.in_ok-texts.ensures)
