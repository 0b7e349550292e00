-- The checks of a file of commands.
use Rattle.std.proofs.Common.{◌≡◌, ◌∙◌, ℕ, nat_le, Bool, true, false, if◌then◌else◌, List, Result, Ok, Err, refl, sym, ap}
use Rattle.std.specs.Prelude.{MatchResult}
use Rattle.std.specs.Str.{IsUtf8, is_utf8, chars}
use Rattle.std.proofs.lemmas.Bool.{le-leb, lt-leb}
use Rattle.std.proofs.lemmas.Str.{IsUtf8-from_is_utf8, is_utf8-from_IsUtf8}
use Rattle.py_token.specs.Source.{line_count, most_lines}
use Rattle.cov_programs.specs.Ends.{Follows}
use Rattle.cov_programs.specs.Objects.{nobody}
use Rattle.cov_programs.specs.Programs.{give, bind}
use Rattle.cov_programs.proofs.Composing.{followed-so, refuses, starves}
use Rattle.cov_run.specs.Alone.{ChecksText, text, no_text, long, starved}
use Rattle.cov_run.specs.Reading.{AreShortText, fault_line}
use Rattle.cov_step.specs.Calls.{Call, Answer, IsNoMemory, refuse}
use Rattle.cov_step.specs.Scripts.{is_short, is_script}
use Rattle.cov_why.specs.Answers.{Refusal, PlainWhy, plain_why, RefusedAs, syntax, limit, no_memory}
use Rattle.cov_why.specs.declared.why.LimitKind.TheVariants as limits
use Rattle.cov_why.specs.declared.why.SyntaxKind.TheVariants as kinds
use Rattle.cov_why.specs.declared.why.Why.{Why}
use Rattle.cov_words.specs.Values.{Word}

ok-is : {A R : Type 0} {a b : A} → ◌≡◌ {A = Result A R} (Ok a) (Ok b) → a ≡ b
ok-is e = cc

err-is : {A R : Type 0} {a b : R} → ◌≡◌ {A = Result A R} (Err a) (Err b) → a ≡ b
err-is e = cc

ok-no-err : {A R : Type 0} {a : A} {r : R} → ◌≡◌ {A = Result A R} (Ok a) (Err r) → ⊥
ok-no-err e = cc

-- ---- the two checks

no-utf8 : (bytes : List ℕ) → ¬ (IsUtf8 bytes) → (b : Bool) → is_utf8 bytes ≡ b → b ≡ false
no-utf8 bytes n true e = absurd (n (IsUtf8-from_is_utf8 bytes e))
no-utf8 bytes n false e = refl

text-so : (name : Word) (bytes : List ℕ) (b : Bool) → is_utf8 bytes ≡ b → is_script name bytes ≡ bind (if b then give (tt {0}) else refuse (syntax name (fault_line bytes) kinds.BadCharacter)) (λ a. bind (is_short (line_count (chars bytes))) (λ c. give bytes))
text-so name bytes b e = ap (λ (t : Bool). bind (if t then give (tt {0}) else refuse (syntax name (fault_line bytes) kinds.BadCharacter)) (λ a. bind (is_short (line_count (chars bytes))) (λ c. give bytes))) e

short-so : (bytes : List ℕ) (count : ℕ) (b : Bool) → nat_le count most_lines ≡ b → bind (is_short count) (λ c. give bytes) ≡ bind (if b then give (tt {0}) else refuse (limit limits.Lines count)) (λ c. give bytes)
short-so bytes count b e = ap (λ (t : Bool). bind (if t then give (tt {0}) else refuse (limit limits.Lines count)) (λ c. give bytes)) e

-- a text of few lines passes
pub passes : (name : Word) (bytes : List ℕ) → AreShortText bytes → is_script name bytes ≡ give bytes
passes name bytes s =
    text-so name bytes true (is_utf8-from_IsUtf8 bytes s.utf8)
    ∙ short-so bytes (line_count (chars bytes)) true (le-leb (line_count (chars bytes)) most_lines s.few)

-- ---- what the code answers

abbrev Checked : Word → List ℕ → Result (List ℕ) PlainWhy → Type 0
Checked name bytes d = Follows (nobody Call Answer) IsNoMemory (is_script name bytes) tt d tt

pub checked-text : (name : Word) (bytes t : List ℕ) → ChecksText name bytes (Ok t) → (t ≡ bytes) × (is_script name bytes ≡ give bytes)
checked-text name bytes t (text s is) = (ok-is is, passes name bytes s)
checked-text name bytes t (no_text n is) = absurd (ok-no-err is)
checked-text name bytes t (long u more is) = absurd (ok-no-err is)
checked-text name bytes t (starved is) = absurd (ok-no-err is)

script-open : (name : Word) (bytes : List ℕ) → Checked name bytes (Err (Err no_memory))
script-open name bytes = by (is_utf8 bytes) refl
  where
    or-short : (b : Bool) → nat_le (line_count (chars bytes)) most_lines ≡ b → Follows (nobody Call Answer) IsNoMemory (bind (is_short (line_count (chars bytes))) (λ c. give bytes)) tt (Err (Err no_memory)) tt
    or-short true e = followed-so (nobody Call Answer) (sym (short-so bytes (line_count (chars bytes)) true e)) refl (starves tt refl)
    or-short false e = followed-so (nobody Call Answer) (sym (short-so bytes (line_count (chars bytes)) false e)) refl (starves tt refl)

    by : (b : Bool) → is_utf8 bytes ≡ b → Checked name bytes (Err (Err no_memory))
    by true e = followed-so (nobody Call Answer) (sym (text-so name bytes true e)) refl (or-short (nat_le (line_count (chars bytes)) most_lines) refl)
    by false e = followed-so (nobody Call Answer) (sym (text-so name bytes false e)) refl (starves tt refl)

checked-refusal : (name : Word) (bytes : List ℕ) (r : Refusal) → ChecksText name bytes (Err r) → Checked name bytes (Err (Err r))
checked-refusal name bytes r (text s is) = absurd (ok-no-err (sym is))
checked-refusal name bytes r (no_text n is) =
    followed-so (nobody Call Answer) (sym (text-so name bytes false (no-utf8 bytes n (is_utf8 bytes) refl))) (ap (λ q. Err (Err q)) (sym (err-is is))) refuses
checked-refusal name bytes r (long u more is) =
    followed-so (nobody Call Answer)
    (sym (text-so name bytes true (is_utf8-from_IsUtf8 bytes u) ∙ short-so bytes (line_count (chars bytes)) false (lt-leb (line_count (chars bytes)) most_lines more)))
    (ap (λ q. Err (Err q)) (sym (err-is is))) refuses
checked-refusal name bytes r (starved is) = followed-so (nobody Call Answer) refl (ap (λ q. Err (Err q)) (sym (err-is is))) (script-open name bytes)

abbrev Refuses : Word → List ℕ → PlainWhy → Type 0
Refuses name bytes (Ok ended) = ⊥
Refuses name bytes (Err r) = ChecksText name bytes (Err r)

refused-by : (name : Word) (bytes : List ℕ) (p : PlainWhy) → Refuses name bytes p → Checked name bytes (Err p)
refused-by name bytes (Ok ended) h = absurd h
refused-by name bytes (Err r) h = checked-refusal name bytes r h

pub checked-why : (name : Word) (bytes : List ℕ) (w : Why) → RefusedAs w (λ r. ChecksText name bytes (Err r)) → Checked name bytes (Err (plain_why w))
checked-why name bytes w h = refused-by name bytes (plain_why w) (as-refused (plain_why w) h)
  where
    as-refused : (p : PlainWhy) → MatchResult p (λ ended. ⊥) (λ r. ChecksText name bytes (Err r)) → Refuses name bytes p
    as-refused (Ok ended) h = absurd h
    as-refused (Err r) h = h
