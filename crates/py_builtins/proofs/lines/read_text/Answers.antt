use Rattle.std.proofs.Common.{ap, sym, ◌∙◌}
use Rattle.cov_outside.proofs.PrefixLemmas.{loses_nothing}
use Rattle.py_value.specs.Answers.{◌>>=◌}
use Rattle.py_builtins.specs.Calls.{decoded, line_bytes}
use Rattle.py_builtins.proofs.Turns.{on_err, all_lost, further_same, line_kept, text_got}
use Rattle.py_builtins.proofs.lines.read_text.Goals as goal

pub returns-in_err-line-clause-no_further : goal.returns-in_err-line-clause-no_further
returns-in_err-line-clause-no_further g c = λ t. on_err c.from_residual.result (further_same (g.I.Source.left c.args.input.now) (g.I.Source.left c.read_line.new.input) (c.in_err-line.ensures.no_further t))

pub returns-in_err-decode-in-Ok-clause-lost : goal.returns-in_err-decode-in-Ok-clause-lost
returns-in_err-decode-in-Ok-clause-lost g c = λ t.
    on_err c.from_residual-in_err-decode-in-Ok.result (all_lost (g.I.Source.left c.args.input.now) (g.I.Source.left c.read_line.new.input) (line_kept _ _ _ _ c.in_ok-line.ensures.line t))

pub returns-in_err-decode-in-Ok-clause-no_further : goal.returns-in_err-decode-in-Ok-clause-no_further
returns-in_err-decode-in-Ok-clause-no_further g c = λ t.
    on_err c.from_residual-in_err-decode-in-Ok.result (loses_nothing _ _ (sym (line_kept _ _ _ _ c.in_ok-line.ensures.line t)))

pub returns-in_ok-decode-in-Ok-clause-text : goal.returns-in_ok-decode-in-Ok-clause-text
returns-in_ok-decode-in-Ok-clause-text g c =
    text_got _ _ _ (line_bytes c.in_ok-line.field-0) c.in_ok-decode-in-Ok.field-0
    (c.in_ok-decode-in-Ok.ensures ∙ ap decoded c.deref.ensures.value ∙ ap (λ r. line_bytes r >>= decoded) (sym c.in-Ok.is)) c.in_ok-line.ensures.line

pub returns-in_ok-decode-in-Ok-clause-left : goal.returns-in_ok-decode-in-Ok-clause-left
returns-in_ok-decode-in-Ok-clause-left g c = λ t. line_kept _ _ _ _ c.in_ok-line.ensures.line t

pub returns-in-Err-clause-text : goal.returns-in-Err-clause-text
returns-in-Err-clause-text g c = text_got _ _ _ (line_bytes c.in_ok-line.field-0) _ (ap (λ r. line_bytes r >>= decoded) (sym c.in-Err.is)) c.in_ok-line.ensures.line

pub returns-in-Err-clause-left : goal.returns-in-Err-clause-left
returns-in-Err-clause-left g c = λ t. line_kept _ _ _ _ c.in_ok-line.ensures.line t
