use Rattle.py_value.specs.View.{plain_raised}
use Rattle.py_builtins.proofs.Pieces.{raised_answer}
use Rattle.py_builtins.proofs.texts.answer.Goals as goal

pub returns-in-Raises : goal.returns-in-Raises
returns-in-Raises c =
    λ w h. raised_answer c.args.written c.args.out.text w c.in-Err.stop c.in-Raises.cause (plain_raised c.in_ok-of-in-Raises.field-0) c.in-Err.is c.in-Raises.is c.in_ok-of-in-Raises.ensures h
