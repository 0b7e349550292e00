use Rattle.std.proofs.lemmas.Grind.{common_steps}
use Rattle.std.proofs.Common.{sym, ap, ◌∙◌, arith}
use Rattle.std.proofs.lemmas.Result.{err_from_is_err_and}
use Rattle.std.specs.Prelude.{Ok}
use Rattle.py_token.specs.Fields.{chars_item}
use Rattle.py_token.specs.StringItems.{item_of, denoted_text}
use Rattle.py_token.specs.View.{view_pieces}
use Rattle.py_token.specs.ViewPieces.{view_fstring}
use Rattle.py_token.proofs.Answering.{gives_error}
use Rattle.py_token.proofs.Reaches.{is_known, now_known}
use Rattle.py_token.proofs.FStringBodies.{starts, known_after, lines_after, on_a_line, fits, faulty, field_faulty, open_end, closed, goes_on, goes_over, field_fits}
use Rattle.py_token.proofs.fstrings.fstring_body.Goals as goal

pub string_items-init : goal.string_items-init
string_items-init c = starts c.args.opening.quote c.args.opening.triple c.args.opening.line c.args.chars.now _ c.new-held.result _ (ap view_pieces c.new-pieces.ensures.items) c.new-held.ensures c.requires.lines (let few = c.requires.few in omega (arith, few))

pub limit_at-limit-requires : goal.limit_at-limit-requires
limit_at-limit-requires c = is_known c.args.opening.quote c.args.opening.triple c.string_items.limit c.in-Some.others.now (known_after c.args.opening.quote c.args.opening.triple c.string_items.limit c.in-Some.c c.string_items.rest.now c.in-Some.others.now c.string_items.invariant.known c.in-Some.ensures)

pub push_field-requires-clause-lines : goal.push_field-requires-clause-lines
push_field-requires-clause-lines c = lines_after c.string_items.line c.in-Some.c c.string_items.rest.now c.in-Some.others.now c.string_items.invariant.lines c.in-Some.ensures

pub returns-in_err-n : goal.returns-in_err-n
returns-in_err-n c = let p = err_from_is_err_and c.from_residual.result c.from_residual.ensures.1 in rw (p.1, p.2) (field_faulty c.in-Some.c c.in-Some.others.now _ _ _ _ c.string_items.invariant c.in-Some.ensures c.if-opens_field.ensures c.in_err-n.ensures)

pub after-rest-requires : goal.after-rest-requires
after-rest-requires c = field_fits c.args.opening.quote c.args.opening.triple c.args.opening.line c.string_items.line c.in-Some.c c.in_ok-n.n c.in-Some.others.now _ _ _ c.if-opens_field.ensures c.in_ok-n.ensures

pub string_items-preserved-then-opens_field : goal.string_items-preserved-then-opens_field
string_items-preserved-then-opens_field c = rw c.after-rest.ensures (goes_over c.in-Some.c c.in-Some.others.now c.replace-ended.result c.replace-ended.new.dest c.in_ok-n.n c.limit_at-limit.result (view_pieces c.push_field.new.pieces.items) c.string_items.invariant c.in-Some.ensures c.if-opens_field.ensures c.replace-ended.ensures.value c.in_ok-n.ensures (c.replace-ended.ensures.after ∙ c.new.ensures) (now_known c.args.opening.quote c.args.opening.triple c.limit_at-limit.result c.in-Some.others.now c.limit_at-limit.ensures))

pub piece_item-requires-clause-on_a_line : goal.piece_item-requires-clause-on_a_line
piece_item-requires-clause-on_a_line c = on_a_line c.string_items.line c.in-Some.c c.string_items.rest.now c.in-Some.others.now c.string_items.invariant.lines c.in-Some.ensures

pub returns-in_err-n-2 : goal.returns-in_err-n-2
returns-in_err-n-2 c = let p = err_from_is_err_and c.from_residual-in_err-n-2.result c.from_residual-in_err-n-2.ensures.1 in rw (p.1, p.2) (gives_error view_fstring _ _ (faulty c.in-Some.c c.in-Some.others.now _ c.string_items.invariant c.in-Some.ensures c.in_err-n-2.ensures))

pub overflow_sub-left : goal.overflow_sub-left
overflow_sub-left c = fits c.args.opening.quote c.args.opening.triple c.args.opening.line c.string_items.line c.in-Some.c c.in-Some.others.now _ (ap (λ b. chars_item (item_of (Ok b))) (sym c.in-Closing.is) ∙ c.in_ok-n-2.ensures)

pub returns-in-Closing : goal.returns-in-Closing
returns-in-Closing c = closed c.in-Some.c c.in-Some.others.now c.in-Closing.n (view_pieces c.end_chars.new.pieces.items) c.string_items.invariant c.in-Some.ensures (ap (λ b. chars_item (item_of (Ok b))) (sym c.in-Closing.is) ∙ c.in_ok-n-2.ensures) c.in_ok-end_chars-in-Closing.ensures

pub after-rest-requires-in-Holds : goal.after-rest-requires-in-Holds
after-rest-requires-in-Holds c = fits c.args.opening.quote c.args.opening.triple c.args.opening.line c.string_items.line c.in-Some.c c.in-Some.others.now _ (ap (λ b. chars_item (item_of (Ok b))) (sym c.in-Holds.is) ∙ c.in_ok-n-2.ensures)

pub string_items-preserved : goal.string_items-preserved
string_items-preserved c = rw c.after-rest-in-Holds.ensures (goes_on c.in-Some.c c.in-Some.others.now (denoted_text c.in-Holds.denoted) c.push_denoted.new.text c.in-Holds.n c.in-Holds.next c.string_items.invariant c.in-Some.ensures (ap (λ b. chars_item (item_of (Ok b))) (sym c.in-Holds.is) ∙ c.in_ok-n-2.ensures) c.in_ok-push_denoted-in-Holds.ensures)

pub returns : goal.returns
returns c = gives_error view_fstring _ _ (open_end c.string_items.invariant c.in_default.ensures)

pub string_items-smaller : goal.string_items-smaller
string_items-smaller c = grind (arith, common_steps)

pub string_items-smaller-then-opens_field : goal.string_items-smaller-then-opens_field
string_items-smaller-then-opens_field c = grind (arith, common_steps)
