use Rattle.std.specs.Prelude.{◌↔◌, Result, Ok, Err, IfOk, IsTrue}
use Rattle.std.proofs.Common.{◌≡◌, Bool, is_some}
use Rattle.std.specs.declared.alloc.AllocError.{AllocError}
use Rattle.py_grammar.specs.Machine.{parts}
use Rattle.py_grammar.specs.Refusal.{AreSpelled}
use Rattle.py_grammar.proofs.Complete.SpelledFields.{told}
use Rattle.py_parse_fields.specs.Order.{plain_pieces}
use Rattle.py_parse_fields.proofs.fields.is_spelled.Goals as goal

pub returns : goal.returns
returns c = go c.are_read.result c.are_read.ensures
  where
    go : (r : Result Bool AllocError) → IfOk r (λ b. b ≡ is_some (parts (plain_pieces c.args.pieces.now))) → IfOk r (λ b. IsTrue b ↔ AreSpelled (plain_pieces c.args.pieces.now))
    go (Ok b) h = told b (plain_pieces c.args.pieces.now) h
    go (Err e) h = tt
