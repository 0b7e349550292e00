use Rattle.std.proofs.Common.{◌≡◌, Err, map, string_bytes, ap, ◌∙◌, arith, rules, subst, sym}
use Rattle.std.specs.Prelude.{IfErr}
use Rattle.std.proofs.lemmas.List.{take_all}
use Rattle.cov_exclude.specs.Refusals.{FoundLarge, IsCauseOf, IsCauseAt}
use Rattle.cov_exclude.specs.Texts.{ArePlainlyMade, IsMadeOf, texts_of}
use Rattle.cov_exclude.proofs.Refusing.{cause-of, earlier-patterns, text-found, one-more, one-more-plainly}
use Rattle.cov_exclude.proofs.patterns.Patterns.build.Goals as goal

pub loop-at-preserved : goal.loop-at-preserved
loop-at-preserved g c =
    let made = subst (λ text. IsMadeOf text c.in_ok-regex.regex) c.as_str.ensures.value c.in_ok-regex.ensures.made in
    record {
      texts = ap texts_of c.in_ok-add.ensures ∙ one-more c.loop-at.made.items c.in_ok-regex.regex c.args.texts.now c.loop-at.at c.index-texts-at.result (omega arith) c.index-texts-at.is made c.loop-at.invariant.texts;
      plainly = subst ArePlainlyMade (sym c.in_ok-add.ensures) (one-more-plainly c.loop-at.made.items c.in_ok-regex.regex c.loop-at.invariant.plainly made.plainly);
      count = omega (arith, c.loop-at.invariant.count, c.made_at.ensures.count);
    }

pub returns-in_err-regex-clause-refused : goal.returns-in_err-regex-clause-refused
returns-in_err-regex-clause-refused g c =
    let sizes = g.M.Maker.sizes in
    let large = FoundLarge g.M.Maker.too_large c.made_at.new.maker in
    let is : c.from_residual.result ≡ Err c.in_err-regex.field-0.0 = search rules in
    subst (λ r. IfErr r (IsCauseOf (map string_bytes c.args.texts.now) large (sizes c.args.maker.now) (sizes c.made_at.new.maker))) (sym is)
    (cause-of (map string_bytes c.args.texts.now) c.loop-at.at (string_bytes c.index-texts-at.result) large (sizes c.args.maker.now) (sizes c.loop-at.maker) (sizes c.made_at.new.maker) c.in_err-regex.field-0.0
    (text-found c.args.texts.now c.loop-at.at c.index-texts-at.result (omega arith) c.index-texts-at.is) c.loop-at.invariant.count
    (earlier-patterns c.loop-at.made.items c.args.texts.now c.loop-at.at c.loop-at.invariant.plainly c.loop-at.invariant.texts)
    (subst (λ text. IsCauseAt c.loop-at.at text large (sizes c.loop-at.maker) (sizes c.made_at.new.maker) c.in_err-regex.field-0.0) c.as_str.ensures.value c.in_err-regex.ensures.refused))

pub returns-clause-built : goal.returns-clause-built
returns-clause-built g c = c.loop-at.invariant.texts ∙ ap (map string_bytes) (take_all c.loop-at.at c.args.texts.now (omega arith))

pub invariant_of-result : goal.invariant_of-result
invariant_of-result g c = c.loop-at.invariant.plainly
