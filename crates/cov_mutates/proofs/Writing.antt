-- The lines of mutants, put together mutant by mutant, and their counts.
use Rattle.std.proofs.Common.{◌≡◌, ℕ, zero, suc, ◌≤◌, Bool, true, false, cond, List, [], ◌∷◌, ◌++◌, filter, length, slice_get, codes, decimal, encode_utf8_all, String, string_bytes, Result, Ok, Err, IfOk, refl, sym, ap, ◌∙◌, arith}
use Rattle.std.specs.Global.{Global}
use Rattle.std.specs.Str.{IsUtf8, chars}
use Rattle.std.specs.declared.alloc.AllocError.{AllocError as NoMemory}
use Rattle.std.proofs.lemmas.Str.{encodes-chars}
use Rattle.py_code.specs.declared.code.Program.{Program}
use Rattle.py_code.specs.declared.code.Programs.{Programs}
use Rattle.cov_step.specs.Calls.{Verdict}
use Rattle.cov_step.specs.Mutating.{count_of, judged_line, mutant_line, verdict_text}
use Rattle.cov_mutates.specs.Views.{judged_views, on_path, path_in, program_path, told_of}
use Rattle.cov_mutate.specs.declared.Judged.{Judged as RawJudged}

pub text-is : (r : Result (String Global) NoMemory) (x y : List ℕ) → IfOk r (λ t. string_bytes t ≡ x) → x ≡ y → IfOk r (λ t. string_bytes t ≡ y)
text-is (Ok t) x y h e = h ∙ e
text-is (Err e) x y h is = tt

-- ---- counts

pub counted : (which : Verdict → Bool) (ps : Programs) (js : List RawJudged) → length (filter (λ j. which (told_of j.end)) js) ≡ count_of which (judged_views ps js)
counted which ps [] = refl
counted which ps (j ∷ js) = by (which (told_of j.end)) (counted which ps js)
  where
    by : (b : Bool) → length (filter (λ j. which (told_of j.end)) js) ≡ count_of which (judged_views ps js)
        → length (cond b (j ∷ filter (λ j. which (told_of j.end)) js) (filter (λ j. which (told_of j.end)) js)) ≡ length (cond b (on_path (path_in ps j.«module») j ∷ filter (λ j. which j.verdict) (judged_views ps js)) (filter (λ j. which j.verdict) (judged_views ps js)))
    by true h = ap suc h
    by false h = h

-- ---- one line

-- its parts in bytes
pub line-is : (number : ℕ) (path old new verdict : List ℕ) (j : RawJudged) → IsUtf8 path → old ≡ string_bytes j.old → new ≡ string_bytes j.new → verdict ≡ verdict_text (told_of j.end)
    → decimal number ++ (codes " " ++ (path ++ (codes ":" ++ (decimal j.line ++ (codes " " ++ (old ++ (codes " -> " ++ (new ++ (codes " " ++ (verdict ++ codes "\n")))))))))) ≡ mutant_line number (on_path (chars path) j)
line-is number path old new verdict j u o n v =
    ap (λ p. decimal number ++ (codes " " ++ (p ++ (codes ":" ++ (decimal j.line ++ (codes " " ++ (old ++ (codes " -> " ++ (new ++ (codes " " ++ (verdict ++ codes "\n"))))))))))) (sym (encodes-chars path u))
    ∙ ap (λ w. decimal number ++ (codes " " ++ (encode_utf8_all (chars path) ++ (codes ":" ++ (decimal j.line ++ (codes " " ++ w))))))
    (ap (λ w. w ++ (codes " -> " ++ (new ++ (codes " " ++ (verdict ++ codes "\n"))))) o ∙ ap (λ w. string_bytes j.old ++ (codes " -> " ++ w)) (ap (λ w. w ++ (codes " " ++ (verdict ++ codes "\n"))) n ∙ ap (λ w. string_bytes j.new ++ (codes " " ++ (w ++ codes "\n"))) v))

-- ---- paths

-- no path has a number past the last one
pub no-path : (ps : List Program) (n : ℕ) → length ps ≤ n → program_path (slice_get ps n) ≡ []
no-path [] n past = refl
no-path (p ∷ ps) zero past = absurd (omega (arith, past))
no-path (p ∷ ps) (suc n) past = no-path ps n (omega (arith, past))

-- ---- the text

pub same-counts : {k l s t u v : ℕ} → k ≡ l → s ≡ t → u ≡ v → judged_line k s u ≡ judged_line l t v
same-counts {k} {l} {s} {t} {u} {v} a b c = ap (λ k. judged_line k s u) a ∙ ap (λ s. judged_line l s u) b ∙ ap (λ u. judged_line l t u) c

pub same-lines : {a b c d : List ℕ} → a ≡ b → c ≡ d → a ++ c ≡ b ++ d
same-lines {a} {b} {c} {d} e f = ap (λ a. a ++ c) e ∙ ap (λ c. b ++ c) f
