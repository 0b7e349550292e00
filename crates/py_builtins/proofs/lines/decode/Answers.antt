use Rattle.std.proofs.Common.{◌≡◌, true, false, Bool, List, ℕ, Result, Ok, Err, refl, ap, sym, ◌∙◌, if◌then◌else◌}
use Rattle.std.specs.Str.{chars, is_utf8, IsUtf8}
use Rattle.std.proofs.lemmas.Str.{is_utf8-from_IsUtf8, IsUtf8-from_is_utf8}
use Rattle.py_value.specs.declared.cause.Cause.{Cause}
use Rattle.py_value.specs.declared.cause.Cause.TheVariants.{InputNotUtf8}
use Rattle.py_builtins.proofs.lines.decode.Goals as goal

not_utf8 : (bs : List ℕ) (b : Bool) → is_utf8 bs ≡ b → (IsUtf8 bs → ⊥) → is_utf8 bs ≡ false
not_utf8 bs true e h = absurd (h (IsUtf8-from_is_utf8 bs e))
not_utf8 bs false e h = e

abbrev decoded_if : List ℕ → Bool → Result (List ℕ) Cause
decoded_if line b = if b then Ok (chars line) else Err InputNotUtf8

pub returns-in_ok-from_str-in-Ok : goal.returns-in_ok-from_str-in-Ok
returns-in_ok-from_str-in-Ok c =
    let same : c.in-Ok.s.now ≡ c.args.line.now = c.in-Ok.ensures.cases.0 in
    ap (λ t. let r : Result (List ℕ) Cause = Ok t in r) (c.in_ok-from_str-in-Ok.ensures ∙ ap chars same)
    ∙ ap (λ b. decoded_if c.args.line.now b) (sym (is_utf8-from_IsUtf8 c.args.line.now c.in-Ok.ensures.cases.1))

pub returns-in-Err : goal.returns-in-Err
returns-in-Err c = ap (λ b. decoded_if c.args.line.now b) (sym (not_utf8 c.args.line.now (is_utf8 c.args.line.now) refl c.in-Err.ensures.cases.0))
