use Rattle.std.proofs.Common.{◌≡◌, ◌++◌, ◌∙◌, add-one, ap, codes, get_or, rules, string_bytes}
use Rattle.cov_selects.proofs.Writing.{names-step, names-end}
use Rattle.cov_selects.proofs.lines.name_lines.Goals as goal

pub loop-name-preserved : goal.loop-name-preserved
loop-name-preserved c =
    let item : c.name-item.result ≡ get_or c.args.names.now c.loop-name.name-index c.name-item.result = search (rules, c.name-item.is) in
    rw (add-one c.loop-name.name-index)
    (names-step c.args.names.now c.loop-name.name-index c.name-item.result _ _ _ c.loop-name-test.true item (c.in_ok-line.ensures ∙ ap (λ bytes. bytes ++ codes "\n") c.as_str.ensures.value) (c.in_ok-push_str.ensures.bytes ∙ ap (λ l. string_bytes c.loop-name.text ++ l) c.as_str-in-loop-name.ensures.value) c.loop-name.invariant)

pub returns : goal.returns
returns c = names-end c.args.names.now c.loop-name.name-index (string_bytes c.loop-name.text) c.loop-name-test.false c.loop-name.invariant
