use Rattle.std.proofs.lemmas.Grind.{common_steps}
use Rattle.std.proofs.Common.{add-one, ◌∷◌, ◌++◌, [], take, ap, sym, ◌∙◌, arith}
use Rattle.std.proofs.Math.Seq.{take-suc}
use Rattle.py_syntax.specs.View.{plain_fragments}
use Rattle.py_grammar.specs.Machine.{snoc_plain}
use Rattle.py_parse_expr.specs.ExprViews.{plains}
use Rattle.py_parse_expr.proofs.View.ExprNodes.{fragments_text, plains_more}
use Rattle.py_parse_expr.proofs.expr_strings.fragments.Goals as goal

pub loop-text-preserved : goal.loop-text-preserved
loop-text-preserved c =
    let x = c.in_ok-copy.field-0 in
    let i = c.loop-text.text-index in
    let same = c.in_ok-copy.ensures ∙ c.text-item.is in
    ap plain_fragments c.in_ok-push.ensures.items
    ∙ fragments_text c.loop-text.fragments.items x
    ∙ ap (λ fs. snoc_plain fs x) c.loop-text.invariant
    ∙ sym (plains_more (take i c.args.texts.now) x)
    ∙ ap (λ y. plains (take i c.args.texts.now ++ y ∷ [])) same
    ∙ ap plains (sym (ap (λ n. take n c.args.texts.now) (add-one i) ∙ take-suc c.args.texts.now i c.text-item.result c.loop-text-test.true))

pub returns : goal.returns
returns c = grind (arith, common_steps)
