use Rattle.std.proofs.Common.{◌≡◌, ◌+◌, max, cond, [], sym, ap, ◌∙◌, map-id, append-nil, arith}
use Rattle.std.specs.Str.{chars}
use Rattle.std.proofs.lemmas.Iterator.{YieldsList-from_chars}
use Rattle.std.proofs.lemmas.Iterator.Consumers.{YieldsList-end}
use Rattle.py_token.specs.Source.{line_count}
use Rattle.py_token.proofs.Lines.{few_more, still_few, after_end, in_line}
use Rattle.py_token.proofs.source.count_lines.Goals as goal

pub loop-c-preserved-then-ends_line : goal.loop-c-preserved-then-ends_line
loop-c-preserved-then-ends_line c = record {
  few = few_more c.loop-c.yielded c.in-Some.c c.loop-c.ends c.loop-c.invariant.few;
  same = λ rest. after_end c.loop-c.yielded c.in-Some.c c.loop-c.ends c.loop-c.open rest c.if-ends_line.ensures c.loop-c.invariant.same;
}

pub loop-c-preserved : goal.loop-c-preserved
loop-c-preserved c = record {
  few = still_few c.loop-c.yielded c.in-Some.c c.loop-c.ends c.loop-c.invariant.few;
  same = λ rest. in_line c.loop-c.yielded c.in-Some.c c.loop-c.ends c.loop-c.open rest c.if-ends_line.ensures c.loop-c.invariant.same;
}

pub returns-then-open : goal.returns-then-open
unfolding line_count
returns-then-open c =
    let end = YieldsList-end (YieldsList-from_chars c.args.source.now c.utf8.source cc) c.loop-c.yielded _ c.loop-c.yielded_by _ _ c.in-None.is c.next.ensures.steps in
    let same = c.loop-c.invariant.same [] in
    ap (λ b. c.loop-c.ends + cond b (max 1 (line_count [])) (line_count [])) (sym c.if-open.true) ∙ sym same ∙ ap line_count (append-nil c.loop-c.yielded ∙ sym (map-id c.loop-c.yielded) ∙ end.0)

pub returns-else-open : goal.returns-else-open
unfolding line_count
returns-else-open c =
    let end = YieldsList-end (YieldsList-from_chars c.args.source.now c.utf8.source cc) c.loop-c.yielded _ c.loop-c.yielded_by _ _ c.in-None.is c.next.ensures.steps in
    let same = c.loop-c.invariant.same [] in
    let e : c.loop-c.ends + 0 ≡ line_count (chars c.args.source.now) = ap (λ b. c.loop-c.ends + cond b (max 1 (line_count [])) (line_count [])) (sym c.if-open.false) ∙ sym same ∙ ap line_count (append-nil c.loop-c.yielded ∙ sym (map-id c.loop-c.yielded) ∙ end.0) in
    omega (arith, e)
