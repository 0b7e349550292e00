use Rattle.std.proofs.Common.{◌-◌, [], ap, sym, ◌∙◌}
use Rattle.py_value.specs.declared.cause.Cause.TheVariants.{TooDeep}
use Rattle.py_value.specs.HeapView.{plain_heap}
use Rattle.py_value.specs.View.{plain}
use Rattle.py_builtins.specs.declared.writer.Stop.TheVariants.{Raises}
use Rattle.py_builtins.specs.Texts.{display_within, text_within, text_step}
use Rattle.py_builtins.specs.Writing.{whole, ◌▸◌}
use Rattle.py_builtins.proofs.Pieces.{written_same, settles_same, too_deep}
use Rattle.py_builtins.proofs.Others.{as_displayed}
use Rattle.py_builtins.proofs.Values.{text_none, text_more, display_more}
use Rattle.py_builtins.proofs.texts.+text.Goals as goal

pub text-returns-then-levels-eq0 : goal.text-returns-then-levels-eq0
text-returns-then-levels-eq0 t c =
    settles_same (Raises TooDeep) _ _ (ap (λ w. whole c.args.out.now.text ▸ w) (text_none c.args.levels (plain_heap c.args.heap.now) (plain c.args.value.now) c.if-levels-eq0.true))
    (too_deep c.args.out.now.text c.args.out.now.within_limit)

pub text-returns-in-Str : goal.text-returns-in-Str
text-returns-in-Str t c =
    let h = plain_heap c.args.heap.now in
    let step = text_step (text_within (c.args.levels - 1) h) (display_within (c.args.levels - 1) h) h in
    written_same c.push_text.result c.args.out.now.text c.push_text.new.self.text (whole c.in-Str.text) _
    (sym (ap (λ v. step (plain v)) c.in-Str.is) ∙ text_more c.args.levels h (plain c.args.value.now) c.if-levels-eq0.false) c.push_text.ensures

pub text-returns-in-Exc : goal.text-returns-in-Exc
text-returns-in-Exc t c =
    let h = plain_heap c.args.heap.now in
    let step = text_step (text_within (c.args.levels - 1) h) (display_within (c.args.levels - 1) h) h in
    written_same c.exception_text.result c.args.out.now.text c.exception_text.new.out.text _ _
    (sym (ap (λ v. step (plain v)) c.in-Exc.is) ∙ text_more c.args.levels h (plain c.args.value.now) c.if-levels-eq0.false) c.exception_text.ensures

pub text-returns-in_default : goal.text-returns-in_default
text-returns-in_default t c =
    let h = plain_heap c.args.heap.now in
    let v = plain c.args.value.now in
    written_same c.display_alone.result c.args.out.now.text c.display_alone.new.out.text _ _
    (sym (display_more c.args.levels h [] v c.if-levels-eq0.false)
    ∙ as_displayed (display_within (c.args.levels - 1) h) (text_within (c.args.levels - 1) h) h c.args.value.now c.in_default.not-Str c.in_default.not-Exc
    ∙ text_more c.args.levels h v c.if-levels-eq0.false) c.display_alone.ensures
