use Rattle.std.proofs.Common.{◌++◌, ◌∙◌, ap, sym, codes, rules, append_assoc}
use Rattle.py_builtins.specs.Displays.{kind_name}
use Rattle.cov_runs.proofs.KindNames.{text-shown}
use Rattle.cov_step.specs.Calls.{failed}
use Rattle.cov_suites.proofs.Writing.{bare-is, line-is, text-is}
use Rattle.cov_suites.proofs.lines.failed_line.Goals as goal

pub returns-then-is_empty : goal.returns-then-is_empty
returns-then-is_empty c =
    text-is c.format.result _ _ c.format.ensures.ok
    (ap (λ k. c.args.name.now ++ (codes " failed " ++ (k ++ codes "\n"))) (c.kind_name-kind.ensures ∙ bare-is c.args.kind c.args.text.now (search (rules, c.if-is_empty.ensures, c.if-is_empty.true)))
    ∙ line-is c.args.name.now (failed c.args.kind c.args.text.now) c.utf8.name)

pub returns : goal.returns
returns c =
    let bs = c.as_str-text.result.now in
    text-is c.format-2.result _ _ c.format-2.ensures.ok
    (ap (λ k. c.args.name.now ++ (codes " failed " ++ (k ++ (codes ": " ++ (bs ++ codes "\n"))))) c.kind_name-kind.ensures
    ∙ ap (λ w. c.args.name.now ++ (codes " failed " ++ w)) (sym (append_assoc (kind_name c.args.kind) (codes ": " ++ bs) (codes "\n") ∙ ap (λ w. kind_name c.args.kind ++ w) (append_assoc (codes ": ") bs (codes "\n"))) ∙ ap (λ w. w ++ codes "\n") (text-shown c.args.kind c.args.text.now bs (λ e. search (rules, c.if-is_empty.ensures, c.if-is_empty.false, e)) c.as_str-text.ensures.bytes))
    ∙ line-is c.args.name.now (failed c.args.kind c.args.text.now) c.utf8.name)
