-- A file of commands is refused only for its causes, and for one of them.
use Rattle.std.proofs.Common.{◌≡◌, ◌∙◌, sym, ap, subst, ℕ, ◌≤◌, ◌<◌, nat_le, true, List, length, Option, Some, refl, arith}
use Rattle.std.specs.Str.{chars, is_utf8}
use Rattle.std.proofs.lemmas.Bool.{leb-true, leb-false}
use Rattle.cov_programs.specs.Programs.{give, bind}
use Rattle.cov_run.specs.Loading.{most_bytes}
use Rattle.cov_run.specs.Reading.{fault_line}
use Rattle.cov_step.specs.Calls.{refuse}
use Rattle.cov_step.specs.Phases.{file}
use Rattle.cov_step.specs.Scripts.{is_text, is_short, is_script, script_text}
use Rattle.cov_why.specs.Answers.{Refusal, no_such_file, syntax, limit}
use Rattle.cov_why.specs.declared.why.LimitKind.TheVariants as limits
use Rattle.cov_why.specs.declared.why.SyntaxKind.TheVariants as kinds
use Rattle.cov_words.specs.Values.{Word}
use Rattle.py_token.specs.Source.{line_count, most_lines}
use Rattle.cov_complete_laws.specs.Premises.{IsFile}
use Rattle.cov_complete_laws.proofs.Holding.{Holding, told, none-some, some-is, true-false}
use Rattle.cov_cause_laws.specs.Lines.{FileRefuses, absent, large, no_text, long}
use Rattle.cov_cause_laws.proofs.Ways.{then-under}
use Rattle.cov_cause_laws.proofs.Parts.{As, by-either, file-goes}
use Rattle.cov_cause_laws.proofs.Doing.{Free, Exact}

apart : (n m : ℕ) → n ≤ m → m < n → ⊥
apart n m h k = omega (arith, h, k)

same-of : {A : Type 0} (f : List ℕ → A) (file : Option (List ℕ)) (a b : List ℕ) → file ≡ Some a → file ≡ Some b → f a ≡ f b
same-of f file a b e k = ap f (some-is (sym e ∙ k))

too-large : (file : Option (List ℕ)) (a b : List ℕ) → file ≡ Some a → file ≡ Some b → length a ≤ most_bytes → most_bytes < length b → ⊥
too-large file a b e f small more = apart (length b) most_bytes (subst (λ n. n ≤ most_bytes) (same-of length file a b e f) small) more

-- it isn't refused where it is a text of few enough lines
free-file : (name : Word) (held : Option (List ℕ)) (bytes : List ℕ) → held ≡ Some bytes → length bytes ≤ most_bytes → is_utf8 bytes ≡ true → line_count (chars bytes) ≤ most_lines → Free (FileRefuses name held)
free-file name held bytes there small utf8 few r good (absent e is) = none-some (sym e ∙ there)
free-file name held bytes there small utf8 few r good (large b e more is) = too-large held bytes b there e small more
free-file name held bytes there small utf8 few r good (no_text b e s u is) = true-false (sym utf8 ∙ same-of is_utf8 held bytes b there e ∙ u)
free-file name held bytes there small utf8 few r good (long b e s u more is) = apart (line_count (chars b)) most_lines (subst (λ n. n ≤ most_lines) (same-of (λ x. line_count (chars x)) held bytes b there e) few) more

-- and it is refused in one way
pub one-file : (name : Word) (held : Option (List ℕ)) (r s : Refusal) → FileRefuses name held r → FileRefuses name held s → r ≡ s
one-file name held r s (absent e is) (absent f so) = is ∙ sym so
one-file name held r s (absent e is) (large b f more so) = absurd (none-some (sym e ∙ f))
one-file name held r s (absent e is) (no_text b f little u so) = absurd (none-some (sym e ∙ f))
one-file name held r s (absent e is) (long b f little u more so) = absurd (none-some (sym e ∙ f))
one-file name held r s (large a e less is) (absent f so) = absurd (none-some (sym f ∙ e))
one-file name held r s (large a e less is) (large b f more so) = is ∙ sym so
one-file name held r s (large a e less is) (no_text b f little u so) = absurd (too-large held b a f e little less)
one-file name held r s (large a e less is) (long b f little u more so) = absurd (too-large held b a f e little less)
one-file name held r s (no_text a e small v is) (absent f so) = absurd (none-some (sym f ∙ e))
one-file name held r s (no_text a e small v is) (large b f more so) = absurd (too-large held a b e f small more)
one-file name held r s (no_text a e small v is) (no_text b f little u so) = is ∙ same-of (λ x. syntax name (fault_line x) kinds.BadCharacter) held a b e f ∙ sym so
one-file name held r s (no_text a e small v is) (long b f little u more so) = absurd (true-false (sym u ∙ same-of is_utf8 held b a f e ∙ v))
one-file name held r s (long a e small v less is) (absent f so) = absurd (none-some (sym f ∙ e))
one-file name held r s (long a e small v less is) (large b f more so) = absurd (too-large held a b e f small more)
one-file name held r s (long a e small v less is) (no_text b f little u so) = absurd (true-false (sym v ∙ same-of is_utf8 held a b e f ∙ u))
one-file name held r s (long a e small v less is) (long b f little u more so) = is ∙ same-of (λ x. limit limits.Lines (line_count (chars x))) held a b e f ∙ sym so

module _ (t : Holding) where
  checked-exact : (name : Word) (bytes : List ℕ) → IsFile t.0 name bytes → Exact (FileRefuses name (t.0 name)) (is_script name bytes) t
  checked-exact name bytes h =
      let P = FileRefuses name (t.0 name) in
      let count = line_count (chars bytes) in
      then-under told (λ b u. Free P) (As P) (is_text name bytes) (λ a. bind (is_short count) (λ b. give bytes)) t
      (by-either (λ a u. Exact P (bind (is_short count) (λ b. give bytes)) u) P (is_utf8 bytes) (give tt) (refuse (syntax name (fault_line bytes) kinds.BadCharacter)) t
      (λ utf8. then-under told (λ b u. Free P) (As P) (is_short count) (λ b. give bytes) t
      (by-either (λ a u. Free P) P (nat_le count most_lines) (give tt) (refuse (limit limits.Lines count)) t
      (λ e. free-file name (t.0 name) bytes h.there h.small utf8 (leb-true count most_lines e))
      (λ e. long bytes h.there h.small utf8 (leb-false count most_lines e) refl)))
      (λ e. no_text bytes h.there h.small e refl))

  pub file-exact : (name : Word) → Exact (FileRefuses name (t.0 name)) (script_text name) t
  file-exact name =
      let P = FileRefuses name (t.0 name) in
      then-under told (λ b u. Free P) (As P) (file (no_such_file name) name) (is_script name) t
      (file-goes t (no_such_file name) name (λ bytes u. Exact P (is_script name bytes) u) P (λ bytes h. checked-exact name bytes h)
      (λ e. absent e refl) (λ bytes e more. large bytes e more refl))
