use Rattle.std.proofs.Common.{◌≡◌, suc, ◌≤◌, [], ◌∷◌, ◌++◌, length, ap, ◌∙◌, length-append, arith, rules}
use Rattle.py_value.specs.Sequences.{most_items}
use Rattle.py_builtins.specs.Calls.{line_bytes}
use Rattle.py_builtins.proofs.Reading.{open_more, left_whole}
use Rattle.py_builtins.proofs.Turns.{on_err, goes_on, after_next, failed_lost, failed_further, none_line, ended_line, dropped_lost, dropped_further, many_line}
use Rattle.py_builtins.proofs.lines.read_line.Goals as goal

pub returns-in_err-read_byte-clause-lost : goal.returns-in_err-read_byte-clause-lost
returns-in_err-read_byte-clause-lost g c = λ t. on_err c.from_residual.result (failed_lost c.loop-count.line.items _ _ _ (c.loop-count.invariant.told t) (c.in_err-read_byte.ensures.kept t))

pub returns-in_err-read_byte-clause-no_further : goal.returns-in_err-read_byte-clause-no_further
returns-in_err-read_byte-clause-no_further g c = λ t.
    let few : length c.loop-count.line.items ≤ suc most_items = omega (arith, c.loop-count.invariant.read) in
    on_err c.from_residual.result (failed_further c.loop-count.line.items _ _ _ c.loop-count.invariant.unended few (c.loop-count.invariant.told t) (c.in_err-read_byte.ensures.kept t))

pub returns-in-None-clause-line : goal.returns-in-None-clause-line
returns-in-None-clause-line g c =
    let few : length c.loop-count.line.items ≤ most_items = omega (arith, c.loop-count.invariant.read) in
    none_line _ c.loop-count.line.items _ _ (g.I.Source.left c.read_byte.new.input) c.in_ok-read_byte.field-0 (line_bytes c.at_end.result) c.in-None.is
    (c.at_end.ensures c.loop-count.invariant.unended few) (left_whole c.loop-count.line.items c.loop-count.invariant.unended few) (λ t. c.in_ok-read_byte.ensures.byte t) c.loop-count.invariant.told

pub returns-then-byte-eq10-clause-line : goal.returns-then-byte-eq10-clause-line
returns-then-byte-eq10-clause-line g c =
    let few : length c.loop-count.line.items ≤ most_items = omega (arith, c.loop-count.invariant.read) in
    ended_line _ c.loop-count.line.items _ _ (g.I.Source.left c.read_byte.new.input) c.in_ok-read_byte.field-0 c.in-Some.byte c.loop-count.invariant.unended few c.in-Some.is c.if-byte-eq10.true (λ t. c.in_ok-read_byte.ensures.byte t) c.loop-count.invariant.told

pub returns-in_err-push-in-Some-clause-lost : goal.returns-in_err-push-in-Some-clause-lost
returns-in_err-push-in-Some-clause-lost g c = λ t.
    on_err c.from_residual-in_err-push-in-Some.result
    (dropped_lost c.loop-count.line.items _ _ _ c.in_ok-read_byte.field-0 c.in-Some.byte c.in-Some.is (c.in_ok-read_byte.ensures.byte t) (c.loop-count.invariant.told t))

pub returns-in_err-push-in-Some-clause-no_further : goal.returns-in_err-push-in-Some-clause-no_further
returns-in_err-push-in-Some-clause-no_further g c = λ t.
    let few : length c.loop-count.line.items ≤ most_items = omega (arith, c.loop-count.invariant.read) in
    on_err c.from_residual-in_err-push-in-Some.result
    (dropped_further c.loop-count.line.items _ _ _ c.in_ok-read_byte.field-0 c.in-Some.byte c.loop-count.invariant.unended few c.in-Some.is c.if-byte-eq10.false (c.in_ok-read_byte.ensures.byte t) (c.loop-count.invariant.told t))

pub loop-count-preserved : goal.loop-count-preserved
loop-count-preserved g c =
    let pushed : c.push.new.self.items ≡ c.loop-count.line.items ++ c.in-Some.byte ∷ [] = search rules in
    record {
      unended = rw pushed (open_more c.loop-count.line.items c.in-Some.byte c.loop-count.invariant.unended (goes_on c.in-Some.byte c.if-byte-eq10.false));
      read = omega (arith, ap length pushed, length-append c.loop-count.line.items (c.in-Some.byte ∷ []), c.loop-count.invariant.read);
      told = λ t.
          ap (λ xs. xs ++ g.I.Source.left c.read_byte.new.input) pushed
          ∙ after_next c.loop-count.line.items _ _ _ c.in_ok-read_byte.field-0 c.in-Some.byte c.in-Some.is (c.in_ok-read_byte.ensures.byte t) (c.loop-count.invariant.told t);
      faults = omega (arith, c.loop-count.invariant.faults, c.in_ok-read_byte.ensures.count);
    }

pub returns-clause-line : goal.returns-clause-line
returns-clause-line g c =
    let all : length c.loop-count.line.items ≡ suc most_items = omega (arith, c.loop-count.invariant.read) in
    many_line _ c.loop-count.line.items _ _ c.loop-count.invariant.unended all c.loop-count.invariant.told
