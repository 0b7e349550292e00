use Rattle.std.proofs.lemmas.Grind.{common_steps}
use Rattle.std.proofs.Common.{false, reverse, ap, arith, rules}
use Rattle.std.proofs.lemmas.Result.{err_from_is_err_and}
use Rattle.std.specs.Global.{Vec}
use Rattle.py_token.specs.declared.token.Token.{Token}
use Rattle.py_token.specs.View.{view_tokens}
use Rattle.py_token.specs.ViewSegments.{view_segment}
use Rattle.py_token.specs.ViewLayout.{stack_of}
use Rattle.py_token.proofs.Reading.{starts, fits, goes_on, put_fails, finished, finish_fails}
use Rattle.py_token.proofs.tokenizer.spelling.Goals as goal

pub segments-init : goal.segments-init
segments-init c = starts c.args.chars.now c.last_line-last.result _ _ c.last_line-last.ensures (ap view_tokens c.new-tokens.ensures.items)
    (λ i. record { indents = (ap stack_of c.new.ensures.items) i; brackets = (ap reverse c.new-2.ensures.items) i; begun = false; blanks = c.new-3.ensures.items i; settled = false })
    c.requires.lines

pub overflow_add-len : goal.overflow_add-len
overflow_add-len c =
    let h = fits c.segments.line c.segments.rest.now (view_segment c.in_ok-segment.segment) (search (rules, c.segments-test.ensures)) c.in_ok-segment.ensures in
    let long = c.segments.invariant.long in
    let few = c.requires.few in
    omega (arith, h, long, few)

pub returns-in_err-put : goal.returns-in_err-put
returns-in_err-put c = let p = err_from_is_err_and c.from_residual-in_err-put.result c.from_residual-in_err-put.ensures.1 in rw (p.1, p.2) (put_fails {A = Vec Token} (λ v. view_tokens v.items) (view_segment c.in_ok-segment.segment) _ _ _ c.segments.invariant (search (rules, c.segments-test.ensures)) c.in_ok-segment.ensures c.in_err-put.ensures)

pub after-rest-requires : goal.after-rest-requires
after-rest-requires c = fits c.segments.line c.segments.rest.now (view_segment c.in_ok-segment.segment) (search (rules, c.segments-test.ensures)) c.in_ok-segment.ensures

pub segments-preserved : goal.segments-preserved
segments-preserved c = let r = c.in_ok-put.ensures in rw c.after-rest.ensures (goes_on (view_segment c.in_ok-segment.segment) r.0 _ _ c.segments.invariant (search (rules, c.segments-test.ensures)) c.in_ok-segment.ensures r.1 r.2)

pub returns-in_err-finish : goal.returns-in_err-finish
returns-in_err-finish c = let p = err_from_is_err_and c.from_residual-in_err-finish.result c.from_residual-in_err-finish.ensures.1 in rw (p.1, p.2) (finish_fails {A = Vec Token} (λ v. view_tokens v.items) c.segments.rest.now _ _ (search (rules, c.segments-test.ensures)) c.segments.invariant c.in_err-finish.ensures)

pub returns : goal.returns
returns c = let r = c.in_ok-finish.ensures in finished c.segments.rest.now r.0 _ (search (rules, c.segments-test.ensures)) c.segments.invariant r.1 r.2

pub segments-smaller : goal.segments-smaller
segments-smaller c = grind (arith, common_steps)
