use Rattle.std.proofs.lemmas.Grind.{common_steps}
use Rattle.std.proofs.Common.{◌++◌, ap, codes, arith}
use Rattle.py_builtins.specs.Displays.{kind_name}
use Rattle.py_builtins.specs.Writing.{whole, ◌▸◌}
use Rattle.py_builtins.proofs.Pieces.{stopped_then, wrote_then, settles_same}
use Rattle.py_builtins.proofs.displays.display_kind.Goals as goal

pub returns-in_err-push_word : goal.returns-in_err-push_word
returns-in_err-push_word c =
    stopped_then c.from_residual.result c.in_err-push_word.field-0.0 c.args.out.now.text c.push_word.new.self.text (whole (codes "<class '")) (whole (kind_name c.args.kind ++ codes "'>")) c.from_residual.ensures.1 c.in_err-push_word.ensures

pub returns-in_err-push_word-2 : goal.returns-in_err-push_word-2
returns-in_err-push_word-2 c =
    let r = c.from_residual-in_err-push_word-2.result in
    wrote_then r c.args.out.now.text c.push_word.new.self.text c.push_word-2.new.self.text (whole (codes "<class '")) (whole (kind_name c.args.kind ++ codes "'>")) c.in_ok-push_word.ensures
    (stopped_then r c.in_err-push_word-2.field-0.0 c.push_word.new.self.text c.push_word-2.new.self.text (whole (kind_name c.args.kind)) (whole (codes "'>")) c.from_residual-in_err-push_word-2.ensures.1
    (settles_same c.in_err-push_word-2.field-0.0 _ _ (ap (λ s. whole c.push_word.new.self.text ▸ whole s) c.kind_name.ensures) c.in_err-push_word-2.ensures))

pub returns : goal.returns
returns c = grind (arith, common_steps)
