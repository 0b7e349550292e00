use Rattle.std.proofs.Common.{◌++◌, ap, sym, ◌∙◌, codes}
use Rattle.py_builtins.specs.Displays.{builtin_name}
use Rattle.py_builtins.specs.Writing.{whole, ◌▸◌}
use Rattle.py_builtins.proofs.Pieces.{stopped_then, wrote_then, settles_same}
use Rattle.py_builtins.proofs.displays.display_builtin.Goals as goal

pub returns-in_err-push_word : goal.returns-in_err-push_word
returns-in_err-push_word c =
    stopped_then c.from_residual.result c.in_err-push_word.field-0.0 c.args.out.now.text c.push_word.new.self.text (whole (codes "<built-in function ")) (whole (builtin_name c.args.which ++ codes ">")) c.from_residual.ensures.1 c.in_err-push_word.ensures

pub returns-in_err-push_word-2 : goal.returns-in_err-push_word-2
returns-in_err-push_word-2 c =
    let r = c.from_residual-in_err-push_word-2.result in
    wrote_then r c.args.out.now.text c.push_word.new.self.text c.push_word-2.new.self.text (whole (codes "<built-in function ")) (whole (builtin_name c.args.which ++ codes ">")) c.in_ok-push_word.ensures
    (stopped_then r c.in_err-push_word-2.field-0.0 c.push_word.new.self.text c.push_word-2.new.self.text (whole (builtin_name c.args.which)) (whole (codes ">")) c.from_residual-in_err-push_word-2.ensures.1
    (settles_same c.in_err-push_word-2.field-0.0 _ _ (ap (λ s. whole c.push_word.new.self.text ▸ whole s) c.builtin_name.ensures) c.in_err-push_word-2.ensures))

pub returns : goal.returns
returns c =
    wrote_then c.push_word-3.result c.args.out.now.text c.push_word.new.self.text c.push_word-3.new.self.text (whole (codes "<built-in function ")) (whole (builtin_name c.args.which ++ codes ">")) c.in_ok-push_word.ensures
    (wrote_then c.push_word-3.result c.push_word.new.self.text c.push_word-2.new.self.text c.push_word-3.new.self.text (whole (builtin_name c.args.which)) (whole (codes ">"))
    (ap (λ s. whole c.push_word.new.self.text ▸ whole s) (sym c.builtin_name.ensures) ∙ c.in_ok-push_word-2.ensures) c.push_word-3.ensures)
