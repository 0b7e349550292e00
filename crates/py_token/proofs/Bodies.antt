-- A string, item by item.
use Rattle.std.proofs.Common.{◌≡◌, ◌≤◌, ◌<◌, ◌+◌, ℕ, zero, suc, List, [], ◌∷◌, length, drop, Result, Ok, Err, refl, sym, ap, subst, ◌∙◌, arith, length-drop}
use Rattle.py_token.specs.declared.error.TokenError.{TokenError}
use Rattle.py_token.specs.declared.error.TokenError.TheVariants.{OpenString}
use Rattle.py_token.specs.Source.{line_count}
use Rattle.std.proofs.lemmas.List.{drop-drop}
use Rattle.py_token.proofs.Lines.{line_count-cons}
use Rattle.py_token.proofs.Fair.{Fair}
use Rattle.py_token.specs.Strings.{StringItem, holds, closing, fault, Body, after_of, next_of, with_item, body_of}

-- passing over characters
pub body_skip : {A : Type 0} (item : ℕ → ℕ → List ℕ → StringItem A) (first n line : ℕ) (cs : List ℕ) → body_of item first n line cs ≡ body_of item first 0 line (drop n cs)
unfolding body_of
body_skip item first zero line cs = refl
body_skip item first (suc n) line [] = refl
body_skip item first (suc n) line (c ∷ cs) = body_skip item first n line cs

pub body_step : {A : Type 0} (item : ℕ → ℕ → List ℕ → StringItem A) (first line c : ℕ) (rest cs : List ℕ) (b : StringItem A) → rest ≡ c ∷ cs → b ≡ item line c cs → body_of item first 0 line rest ≡ with_item b line cs (body_of item first 0 (next_of b line) (drop (after_of b) cs))
unfolding body_of
body_step item first line c rest cs b is stands =
    ap (body_of item first 0 line) is
    ∙ ap (λ x. with_item x line cs (body_of item first (after_of x) (next_of x line) cs)) (sym stands)
    ∙ ap (with_item b line cs) (body_skip item first (after_of b) (next_of b line) cs)

pub body_end : {A : Type 0} (item : ℕ → ℕ → List ℕ → StringItem A) (first line : ℕ) (rest : List ℕ) → rest ≡ [] → body_of item first 0 line rest ≡ Err (OpenString first)
unfolding body_of
body_end item first line rest is = ap (body_of item first 0 line) is

-- a string lies within the characters that it was read from, and its closing marks stand on a line of theirs
pub record Bounded {A : Type 0} (line : ℕ) (cs : List ℕ) (b : Body A) : Type 0 where
  pub within : length b.rest ≤ length cs
  pub lines : b.next + line_count b.rest ≤ line + line_count cs
  pub on_line : b.next < line + line_count cs
  pub later : line ≤ b.next
  pub suffix : (k : ℕ) × (b.rest ≡ drop k cs)

abbrev the_body : {A : Type 0} → Body A → Result (Body A) TokenError
the_body b = Ok b

body_is : {A : Type 0} (a b : Body A) → the_body a ≡ the_body b → a ≡ b
body_is a b h = cc

bounded_item : {A : Type 0} (line c : ℕ) (cs : List ℕ) (item : StringItem A) (body : Result (Body A) TokenError) (b : Body A) → Fair line c cs item → ((b' : Body A) → body ≡ Ok b' → Bounded (next_of item line) (drop (after_of item) cs) b') → with_item item line cs body ≡ the_body b → Bounded line (c ∷ cs) b
bounded_item line c cs (holds x n next) (Ok b') b fair more is =
    let inner = more b' refl in
    let same = body_is (record b' { values = x ∷ b'.values }) b is in
    let within = inner.within in
    let lines = inner.lines in
    let on = inner.on_line in
    let later = inner.later in
    let passed = fair.lines in
    let grows = fair.later in
    let shorter = length-drop n cs in
    let there : Bounded line (c ∷ cs) (record b' { values = x ∷ b'.values }) = record { within = omega (arith, within, shorter); lines = omega (arith, lines, passed); on_line = omega (arith, on, passed); later = omega (arith, later, grows); suffix = (suc (n + inner.suffix.0), inner.suffix.1 ∙ drop-drop inner.suffix.0 n cs) } in
    subst (λ w. Bounded line (c ∷ cs) w) same there
bounded_item line c cs (holds x n next) (Err e) b fair more is = absurd cc
bounded_item line c cs (closing n) body b fair more is =
    let same = body_is (record { values = []; rest = drop n cs; next = line }) b is in
    let passed = fair.lines in
    let some = (line_count-cons c cs).1 in
    let shorter = length-drop n cs in
    let there : Bounded line (c ∷ cs) (record { values = []; rest = drop n cs; next = line }) = record { within = omega (arith, shorter); lines = omega (arith, passed); on_line = omega (arith, some); later = omega arith; suffix = (suc n, refl) } in
    subst (λ w. Bounded line (c ∷ cs) w) same there
bounded_item line c cs (fault e) body b fair more is = absurd cc

pub bounded : {A : Type 0} (item : ℕ → ℕ → List ℕ → StringItem A) → ((line c : ℕ) (cs : List ℕ) → Fair line c cs (item line c cs)) → (first skip line : ℕ) (cs : List ℕ) (b : Body A) → body_of item first skip line cs ≡ the_body b → Bounded line (drop skip cs) b
unfolding body_of
bounded item fair first zero line [] b is = absurd cc
bounded item fair first (suc skip) line [] b is = absurd cc
bounded item fair first (suc skip) line (c ∷ cs) b is = bounded item fair first skip line cs b is
bounded item fair first zero line (c ∷ cs) b is =
    bounded_item line c cs (item line c cs) (body_of item first (after_of (item line c cs)) (next_of (item line c cs) line) cs) b (fair line c cs) (λ b' e. bounded item fair first (after_of (item line c cs)) (next_of (item line c cs) line) cs b' e) is
