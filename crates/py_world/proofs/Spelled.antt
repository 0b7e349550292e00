-- Names written in the code.
use Rattle.std.proofs.Common.{◌≡◌, ℕ, nat_eq, Bool, true, false, List, ◌++◌, sym, ap, ◌∙◌, refl}
use Rattle.std.specs.Prelude.{encode_utf8_all, codes}
use Rattle.std.specs.Str.{chars, IsUtf8}
use Rattle.std.specs.Cmp.Lexicographic as lexicographic
use Rattle.std.proofs.lemmas.Str.{encodes-chars}
use lib.Pointwise.{pointwise}
use Rattle.py_value.specs.declared.builtin.Builtin.{Builtin}
use Rattle.py_value.specs.declared.builtin.Builtin.TheVariants.{Print, Len, Range, Str, Repr, Int, Input, Exit}
use Rattle.py_value.specs.declared.builtin.Method.{Method}
use Rattle.py_value.specs.declared.builtin.Method.TheVariants.{Append, Pop, Get, Keys, StartsWith, Join, Split}
use Rattle.py_value.specs.declared.exception.ExcKind.{ExcKind}
use Rattle.py_value.specs.declared.exception.ExcKind.TheVariants.{BaseException, SystemExit, Exception, ArithmeticError, ZeroDivisionError, OverflowError, AssertionError, AttributeError, EOFError, ImportError, ModuleNotFoundError, LookupError, IndexError, KeyError, MemoryError, NameError, UnboundLocalError, RuntimeError, RecursionError, TypeError, ValueError}
use Rattle.py_text.specs.Comparison.{is_same_text}
use Rattle.py_text.proofs.SameTexts.{same_answer, same_text, same_text_from}
use Rattle.py_builtins.specs.Displays.{builtin_name, kind_name}
use Rattle.py_builtins.specs.Methods.{method_name}

pub same_characters : (name bytes s : List ℕ) → bytes ≡ encode_utf8_all name → chars bytes ≡ name → IsUtf8 s → pointwise nat_eq bytes s ≡ is_same_text name (chars s)
same_characters name bytes s encoded decoded valid =
    same_answer (pointwise nat_eq bytes s) (is_same_text name (chars s)) (bytes ≡ s) (λ h. lexicographic.same_text bytes s (sym h)) (is_true (pointwise nat_eq bytes s) refl)
    (λ h. encoded ∙ ap encode_utf8_all (same_text name (chars s) h) ∙ encodes-chars s valid)
    (λ e. same_text_from name (chars s) (sym decoded ∙ ap chars e))
  where
    is_true : (b : Bool) → pointwise nat_eq bytes s ≡ b → bytes ≡ s → pointwise nat_eq bytes s ≡ true
    is_true true is e = is
    is_true false is e = absurd (lexicographic.other_text bytes s (sym is) e)

pub spelled_builtin : (f : Builtin) → chars (builtin_name f) ≡ builtin_name f
unfolding chars
spelled_builtin Print = refl
spelled_builtin Len = refl
spelled_builtin Range = refl
spelled_builtin Str = refl
spelled_builtin Repr = refl
spelled_builtin Int = refl
spelled_builtin Input = refl
spelled_builtin Exit = refl

pub spelled_kind : (k : ExcKind) → chars (kind_name k) ≡ kind_name k
unfolding chars
spelled_kind BaseException = refl
spelled_kind SystemExit = refl
spelled_kind Exception = refl
spelled_kind ArithmeticError = refl
spelled_kind ZeroDivisionError = refl
spelled_kind OverflowError = refl
spelled_kind AssertionError = refl
spelled_kind AttributeError = refl
spelled_kind EOFError = refl
spelled_kind ImportError = refl
spelled_kind ModuleNotFoundError = refl
spelled_kind LookupError = refl
spelled_kind IndexError = refl
spelled_kind KeyError = refl
spelled_kind MemoryError = refl
spelled_kind NameError = refl
spelled_kind UnboundLocalError = refl
spelled_kind RuntimeError = refl
spelled_kind RecursionError = refl
spelled_kind TypeError = refl
spelled_kind ValueError = refl

pub spelled_sys : chars (codes "sys") ≡ codes "sys"
unfolding chars
spelled_sys = refl

pub spelled_argv : chars (codes "argv") ≡ codes "argv"
unfolding chars
spelled_argv = refl

pub spelled_exit : chars (codes "exit") ≡ codes "exit"
unfolding chars
spelled_exit = refl

pub spelled_method : (m : Method) → chars (method_name m) ≡ method_name m
unfolding chars
spelled_method Append = refl
spelled_method Pop = refl
spelled_method Get = refl
spelled_method Keys = refl
spelled_method StartsWith = refl
spelled_method Join = refl
spelled_method Split = refl

-- a name between two texts of the code
framed : (a b x : List ℕ) → chars a ≡ a → chars b ≡ b → chars a ++ x ++ chars b ≡ a ++ x ++ b
framed a b x e f = ap (λ y. y ++ x ++ chars b) e ∙ ap (λ y. a ++ x ++ y) f

pub framed_unknown : (x : List ℕ) → chars (codes "name '") ++ x ++ chars (codes "' is not defined") ≡ codes "name '" ++ x ++ codes "' is not defined"
unfolding chars
framed_unknown x = framed (codes "name '") (codes "' is not defined") x refl refl

pub framed_unset : (x : List ℕ) → chars (codes "local variable '") ++ x ++ chars (codes "' is not set") ≡ codes "local variable '" ++ x ++ codes "' is not set"
unfolding chars
framed_unset x = framed (codes "local variable '") (codes "' is not set") x refl refl

pub framed_attribute : (x : List ℕ) → chars (codes "no attribute '") ++ x ++ chars (codes "'") ≡ codes "no attribute '" ++ x ++ codes "'"
unfolding chars
framed_attribute x = framed (codes "no attribute '") (codes "'") x refl refl

pub framed_module : (x : List ℕ) → chars (codes "No module named '") ++ x ++ chars (codes "'") ≡ codes "No module named '" ++ x ++ codes "'"
unfolding chars
framed_module x = framed (codes "No module named '") (codes "'") x refl refl

pub framed_import : (x : List ℕ) → chars (codes "cannot import name '") ++ x ++ chars (codes "' from '") ≡ codes "cannot import name '" ++ x ++ codes "' from '"
unfolding chars
framed_import x = framed (codes "cannot import name '") (codes "' from '") x refl refl

pub spelled_quote : chars (codes "'") ≡ codes "'"
unfolding chars
spelled_quote = refl

pub spelled_name : chars (codes "__name__") ≡ codes "__name__"
unfolding chars
spelled_name = refl

pub import_text : (x m first second third : List ℕ) → first ≡ chars (codes "cannot import name '") ++ x ++ chars (codes "' from '") → second ≡ first ++ m → third ≡ second ++ chars (codes "'")
    → third ≡ codes "cannot import name '" ++ x ++ codes "' from '" ++ m ++ codes "'"
import_text x m first second third e f g =
    g ∙ ap (λ t. second ++ t) spelled_quote ∙ ap (λ t. t ++ codes "'") (f ∙ ap (λ t. t ++ m) (e ∙ framed_import x))
