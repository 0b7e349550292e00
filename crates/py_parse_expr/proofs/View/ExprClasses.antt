-- The classes of tokens where all f-strings are one.
use Rattle.std.proofs.Common.{◌≡◌, Option, Some, None, refl, ap, ◌∙◌}
use Rattle.std.specs.Global.{Vec}
use Rattle.py_token.specs.declared.token.Mark.{Mark}
use Rattle.py_token.specs.declared.token.Mark.TheVariants as mark
use Rattle.py_token.specs.declared.token.Piece.{Piece}
use Rattle.py_token.specs.declared.token.TokenKind.TheVariants as kind_
use Rattle.py_token.specs.Plain.{piece_row}
use Rattle.py_token.specs.View.{view_kind, view_pieces}
use Rattle.py_token.proofs.Views.{plain-fstring}
use Rattle.py_syntax.specs.Tree.{Parts}
use Rattle.py_syntax.specs.Kinds.{Sign, End, Pieces, bare_kind, bare_pieces}
use Rattle.py_grammar.specs.TokenClasses.{TokenClass, t_format, t_bad_format, t_other}
use Rattle.py_grammar.specs.Machine.{format_class, class, parts}
use Rattle.py_parse_fields.specs.Frames.{bare_class}
use Rattle.py_parse_expr.specs.declared.expr_classes.TokenClass as code_class
use Rattle.py_parse_expr.specs.declared.expr_classes.TokenClass.TheVariants as class_
use Rattle.py_parse_expr.specs.ExprViews.{view_class, plain_class, ValidClass}

plain_format : (ps : Pieces) (o : Option Parts) → plain_class (format_class ps o) ≡ t_other End
plain_format ps (Some qs) = refl
plain_format ps None = refl

pub plain_fstring : (ps : Vec Piece) → plain_class (class (bare_kind (view_kind (kind_.FString ps)))) ≡ t_other End
plain_fstring ps =
    let qs = bare_pieces (piece_row (view_pieces ps.items)) in
    ap (λ k. plain_class (class (bare_kind k))) (plain-fstring ps) ∙ plain_format qs (parts qs)

-- a mark holds nothing
pub mark_plain : (m : Mark) → bare_class (class (Sign m)) ≡ plain_class (class (Sign m))
mark_plain mark.Comma = refl
mark_plain m = refl

-- a class where all f-strings are one holds no fields
no_fields : (qs : Parts) (t : TokenClass) → t_format qs ≡ plain_class t → ⊥
no_fields qs (t_format ps) is = cc
no_fields qs (t_bad_format ps) is = cc
no_fields qs (t_other k) is = cc
no_fields qs t is = cc

pub plain_valid : (r : code_class.TokenClass) (t : TokenClass) → view_class r ≡ plain_class t → ValidClass r
plain_valid (class_.Format fs) t is = absurd (no_fields _ t is)
plain_valid r t is = tt
