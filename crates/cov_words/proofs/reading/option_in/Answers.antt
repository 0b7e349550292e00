use Rattle.std.proofs.Common.{sym, ap, ◌∙◌}
use Rattle.cov_words.specs.Reading.{found_before}
use Rattle.cov_words.proofs.Cutting.{split_none, split_some, found_in_parts, found_nowhere}
use Rattle.cov_words.proofs.reading.option_in.Goals as goal

pub returns-in-Some-split_once : goal.returns-in-Some-split_once
returns-in-Some-split_once c =
    let none = sym c.named.ensures ∙ c.in-None.is in
    let at = split_some c.args.word.now (c.in-Some-split_once.name, c.in-Some-split_once.text) c.in-Some-split_once.ensures.cases in
    c.found_before.ensures ∙ ap (λ o. found_before o c.in-Some-split_once.text.now) c.named-in-Some-split_once.ensures ∙ sym (found_in_parts c.args.word.now _ _ none at)

pub returns-in-None-split_once : goal.returns-in-None-split_once
returns-in-None-split_once c =
    let none = sym c.named.ensures ∙ c.in-None.is in
    sym (found_nowhere c.args.word.now none (split_none c.args.word.now c.split_once.result c.split_once.ensures.cases c.in-None-split_once.is))
