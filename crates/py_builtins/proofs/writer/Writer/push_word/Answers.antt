use Rattle.std.proofs.Common.{ap}
use Rattle.py_builtins.specs.Writing.{whole}
use Rattle.py_builtins.proofs.Characters.{chars_of_ascii}
use Rattle.py_builtins.proofs.Pieces.{written_same}
use Rattle.py_builtins.proofs.writer.Writer.push_word.Goals as goal

pub returns : goal.returns
returns c = written_same c.push_str.result c.args.self.now.text c.push_str.new.self.text _ _ (ap whole (chars_of_ascii c.args.word.now c.requires)) c.push_str.ensures
