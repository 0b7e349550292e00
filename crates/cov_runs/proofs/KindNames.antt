-- The names of kinds of exceptions have only characters of one byte.
use Rattle.std.proofs.Common.{◌≡◌, ℕ, List, ◌++◌, [], ◌∷◌, codes, encode_utf8_all, refl, sym, ap, ◌∙◌, append_assoc}
use Rattle.std.proofs.lemmas.Str.{encodes-append}
use Rattle.py_value.specs.declared.exception.ExcKind.{ExcKind}
use Rattle.py_value.specs.declared.exception.ExcKind.TheVariants as kind
use Rattle.py_builtins.specs.Displays.{kind_name}
use Rattle.py_builtins.specs.Outcomes.{text_line, uncaught}

pub kind-encoded : (k : ExcKind) → encode_utf8_all (kind_name k) ≡ kind_name k
unfolding lib.Utf8.encode
kind-encoded kind.BaseException = refl
kind-encoded kind.SystemExit = refl
kind-encoded kind.Exception = refl
kind-encoded kind.ArithmeticError = refl
kind-encoded kind.ZeroDivisionError = refl
kind-encoded kind.OverflowError = refl
kind-encoded kind.AssertionError = refl
kind-encoded kind.AttributeError = refl
kind-encoded kind.EOFError = refl
kind-encoded kind.ImportError = refl
kind-encoded kind.ModuleNotFoundError = refl
kind-encoded kind.LookupError = refl
kind-encoded kind.IndexError = refl
kind-encoded kind.KeyError = refl
kind-encoded kind.MemoryError = refl
kind-encoded kind.NameError = refl
kind-encoded kind.UnboundLocalError = refl
kind-encoded kind.RuntimeError = refl
kind-encoded kind.RecursionError = refl
kind-encoded kind.TypeError = refl
kind-encoded kind.ValueError = refl

mark-encoded : encode_utf8_all (codes ": ") ≡ codes ": "
unfolding lib.Utf8.encode
mark-encoded = refl

-- an exception with a text
pub text-shown : (k : ExcKind) (x bs : List ℕ) → (x ≡ [] → ⊥) → bs ≡ encode_utf8_all x → kind_name k ++ (codes ": " ++ bs) ≡ encode_utf8_all (uncaught k x)
text-shown k [] bs h is = absurd (h refl)
text-shown k (c ∷ cs) bs h is =
    sym (ap encode_utf8_all (append_assoc (kind_name k) (codes ": ") (c ∷ cs)) ∙ encodes-append (kind_name k) (codes ": " ++ (c ∷ cs)) ∙ ap (λ b. b ++ encode_utf8_all (codes ": " ++ (c ∷ cs))) (kind-encoded k)
    ∙ ap (λ b. kind_name k ++ b) (encodes-append (codes ": ") (c ∷ cs) ∙ ap (λ b. b ++ encode_utf8_all (c ∷ cs)) mark-encoded ∙ ap (λ b. codes ": " ++ b) (sym is)))

-- and its line
pub line-with-text : (k : ExcKind) (x bs : List ℕ) → (x ≡ [] → ⊥) → bs ≡ encode_utf8_all x → kind_name k ++ (codes ": " ++ (bs ++ codes "\n")) ≡ text_line (uncaught k x)
line-with-text k x bs h is =
    sym (append_assoc (kind_name k) (codes ": " ++ bs) (codes "\n") ∙ ap (λ b. kind_name k ++ b) (append_assoc (codes ": ") bs (codes "\n")))
    ∙ ap (λ b. b ++ codes "\n") (text-shown k x bs h is)
