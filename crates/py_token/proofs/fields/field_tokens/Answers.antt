use Rattle.std.proofs.lemmas.Grind.{common_steps}
use Rattle.std.proofs.Common.{ap, ◌∙◌, arith}
use Rattle.py_token.specs.Fields.{depth_after}
use Rattle.py_token.specs.View.{view_tokens}
use Rattle.py_token.specs.ViewMatch.{view_match, view_field}
use Rattle.py_token.proofs.Answering.{gives_error}
use Rattle.py_token.proofs.FieldBodies.{fits, closed, over_blank, open_end, fails_as, goes_on}
use Rattle.py_token.proofs.fields.field_tokens.Goals as goal

pub returns-then-ends_field : goal.returns-then-ends_field
returns-then-ends_field c = closed c.in-Some.c c.in-Some.others.now c.tokens.invariant c.in-Some.ensures c.if-ends_field.ensures

pub tokens-preserved-then-is_blank : goal.tokens-preserved-then-is_blank
tokens-preserved-then-is_blank c = over_blank c.in-Some.c c.in-Some.others.now c.tokens.invariant c.in-Some.ensures c.if-ends_field.ensures c.if-is_blank.ensures

pub returns-in-Err : goal.returns-in-Err
returns-in-Err c = fails_as c.in-Some.c c.in-Some.others.now c.in-Err.error c.field_fault.result c.tokens.invariant c.in-Some.ensures c.if-ends_field.ensures c.if-is_blank.ensures c.field_fault.ensures c.in-Err.ensures

pub after-rest-requires : goal.after-rest-requires
after-rest-requires c = fits c.args.line c.in-Some.c c.tokens.rest.now c.in-Some.others.now (view_match c.in-Ok.matched) c.in-Some.ensures c.in-Ok.ensures

pub tokens-preserved : goal.tokens-preserved
tokens-preserved c = rw c.after-rest.ensures (goes_on c.in-Some.c c.in-Some.others.now (view_match c.in-Ok.matched) (view_tokens c.push_token.new.tokens.items) c.depth_after-depth.result c.tokens.invariant c.in-Some.ensures c.if-ends_field.ensures c.if-is_blank.ensures c.in-Ok.ensures c.in_ok-push_token-in-Ok.ensures (c.depth_after-depth.ensures ∙ ap (λ t. depth_after t c.tokens.depth) c.change_of.ensures))

pub returns : goal.returns
returns c = gives_error view_field _ c.args.limit (open_end c.tokens.invariant c.in_default.ensures)

pub tokens-smaller : goal.tokens-smaller
tokens-smaller c = grind (arith, common_steps)
