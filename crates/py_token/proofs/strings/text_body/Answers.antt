use Rattle.std.proofs.lemmas.Grind.{common_steps}
use Rattle.std.proofs.Common.{sym, ap, ◌∙◌, arith}
use Rattle.std.proofs.lemmas.Result.{err_from_is_err_and}
use Rattle.std.specs.Prelude.{Ok}
use Rattle.py_token.specs.StringItems.{item_of, denoted_text, view_text}
use Rattle.py_token.proofs.Answering.{gives_error}
use Rattle.py_token.proofs.TextBodies.{starts, on_a_line, fits, faulty, open_end, closed, goes_on}
use Rattle.py_token.proofs.strings.text_body.Goals as goal

pub string_items-init : goal.string_items-init
string_items-init c = starts c.args.opening.raw c.args.opening.quote c.args.opening.triple c.args.opening.line c.args.chars.now c.new-text.result c.new-text.ensures c.requires

pub text_item-requires : goal.text_item-requires
text_item-requires c = on_a_line c.string_items.rest.now c.in-Some.others.now c.in-Some.c c.string_items.invariant c.in-Some.ensures

pub returns-in_err-n : goal.returns-in_err-n
returns-in_err-n c = let p = err_from_is_err_and c.from_residual.result c.from_residual.ensures.1 in rw (p.1, p.2) (gives_error view_text _ _ (faulty c.in-Some.c c.in-Some.others.now _ c.string_items.invariant c.in-Some.ensures c.in_err-n.ensures))

pub overflow_sub-left : goal.overflow_sub-left
overflow_sub-left c = fits c.args.opening.raw c.args.opening.quote c.args.opening.triple c.args.opening.line c.string_items.line c.in-Some.c c.in-Some.others.now _ (ap (λ b. item_of (Ok b)) (sym c.in-Closing.is) ∙ c.in_ok-n.ensures)

pub returns-in-Closing : goal.returns-in-Closing
returns-in-Closing c = closed c.in-Some.c c.in-Some.others.now c.in-Closing.n c.string_items.invariant c.in-Some.ensures (ap (λ b. item_of (Ok b)) (sym c.in-Closing.is) ∙ c.in_ok-n.ensures)

pub after-rest-requires : goal.after-rest-requires
after-rest-requires c = fits c.args.opening.raw c.args.opening.quote c.args.opening.triple c.args.opening.line c.string_items.line c.in-Some.c c.in-Some.others.now _ (ap (λ b. item_of (Ok b)) (sym c.in-Holds.is) ∙ c.in_ok-n.ensures)

pub string_items-preserved : goal.string_items-preserved
string_items-preserved c = rw c.after-rest.ensures (goes_on c.in-Some.c c.in-Some.others.now (denoted_text c.in-Holds.denoted) c.push_denoted.new.text c.in-Holds.n c.in-Holds.next c.string_items.invariant c.in-Some.ensures (ap (λ b. item_of (Ok b)) (sym c.in-Holds.is) ∙ c.in_ok-n.ensures) c.in_ok-push_denoted-in-Holds.ensures)

pub returns : goal.returns
returns c = open_end c.string_items.invariant c.in_default.ensures

pub string_items-smaller : goal.string_items-smaller
string_items-smaller c = grind (arith, common_steps)
