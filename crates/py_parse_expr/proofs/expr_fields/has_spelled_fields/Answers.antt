use Rattle.std.specs.Prelude.{◌↔◌, Result, Ok, Err, IfOk, IsTrue}
use Rattle.std.proofs.Common.{◌≡◌, Bool, sym, ap, ◌∙◌}
use Rattle.std.specs.declared.alloc.AllocError.{AllocError}
use Rattle.py_token.specs.View.{view_kind}
use Rattle.py_syntax.specs.Kinds.{Kind, FString, Pieces, bare_kind}
use Rattle.py_grammar.specs.Refusal.{AreSpelled}
use Rattle.py_grammar.proofs.Complete.SpelledFields.{untold}
use Rattle.py_parse_expr.specs.ExprFields.{has_spelled_fields}
use Rattle.py_parse_fields.specs.Order.{plain_pieces}
use Rattle.py_parse_expr.proofs.expr_fields.has_spelled_fields.Goals as goal

pub returns-in-Some : goal.returns-in-Some
returns-in-Some c = go (bare_kind (view_kind c.args.kind.now)) (plain_pieces c.in-Some.pieces.now) c.in-Some.ensures c.is_spelled.result c.is_spelled.ensures
  where
    go : (t : Kind) (ps : Pieces) → t ≡ FString ps → (r : Result Bool AllocError) → IfOk r (λ b. IsTrue b ↔ AreSpelled ps) → IfOk r (λ b. b ≡ has_spelled_fields t)
    go t ps same (Ok b) h = untold b ps h ∙ sym (ap has_spelled_fields same)
    go t ps same (Err e) h = tt
