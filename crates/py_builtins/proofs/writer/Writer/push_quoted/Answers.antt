use Rattle.std.proofs.Common.{◌∷◌, ◌++◌, [], ap, sym, ◌∙◌}
use Rattle.py_builtins.specs.Displays.{mark_of, all_escaped}
use Rattle.py_builtins.specs.Writing.{whole, ◌▸◌}
use Rattle.py_builtins.proofs.Pieces.{stopped_then, wrote_then, settles_same}
use Rattle.py_builtins.proofs.writer.Writer.push_quoted.Goals as goal

pub returns-in_err-push : goal.returns-in_err-push
returns-in_err-push c =
    let m = mark_of c.args.text.now in
    stopped_then c.from_residual.result c.in_err-push.field-0.0 c.args.self.now.text _ (whole (m ∷ [])) (whole (all_escaped m c.args.text.now ++ m ∷ [])) c.from_residual.ensures.1
    (settles_same c.in_err-push.field-0.0 _ _ (ap (λ d. whole c.args.self.now.text ▸ whole (d ∷ [])) (c.mark_of-mark.ensures ∙ ap mark_of c.as_str.ensures.characters)) c.in_err-push.ensures)

pub returns-in_err-push_between : goal.returns-in_err-push_between
returns-in_err-push_between c =
    let m = mark_of c.args.text.now in
    let e = c.mark_of-mark.ensures ∙ ap mark_of c.as_str.ensures.characters in
    let r = c.from_residual-in_err-push_between.result in
    wrote_then r c.args.self.now.text c.push.new.self.text _ (whole (m ∷ [])) (whole (all_escaped m c.args.text.now ++ m ∷ []))
    (ap (λ d. whole c.args.self.now.text ▸ whole (d ∷ [])) (sym e) ∙ c.in_ok-push.ensures)
    (stopped_then r c.in_err-push_between.field-0.0 c.push.new.self.text _ (whole (all_escaped m c.args.text.now)) (whole (m ∷ [])) c.from_residual-in_err-push_between.ensures.1
    (settles_same c.in_err-push_between.field-0.0 _ _ (ap (λ d. whole c.push.new.self.text ▸ whole (all_escaped d c.args.text.now)) e) c.in_err-push_between.ensures))
