-- The last of a list, which is the first of it reversed.
use Rattle.std.proofs.Common.{◌≡◌, ℕ, suc, ◌-◌, ◌<◌, List, [], ◌∷◌, ◌++◌, length, set, get_or, refl, sym, ap, ◌∙◌, arith}
use Rattle.std.specs.Prelude.{reverse}
use Rattle.std.proofs.lemmas.List.{reverse-append}
use Rattle.std.proofs.Math.Seq.{set-append_seam}
use Rattle.cov_recorder.specs.declared.frames.Frame.{Frame}
use Rattle.cov_recorder.specs.Frames.{kept_at_line}

record Split (xs : List Frame) : Type 0 where
  pub front : List Frame
  pub last : Frame
  pub is : xs ≡ front ++ last ∷ []

split : (x : Frame) (xs : List Frame) → Split (x ∷ xs)
split x [] = record { front = []; last = x; is = refl }
split x (y ∷ ys) = let s = split y ys in record { front = x ∷ s.front; last = s.last; is = ap (λ w. x ∷ w) s.is }

last-at : (front : List Frame) (last d : Frame) → get_or (front ++ last ∷ []) (length front) d ≡ last
last-at [] last d = refl
last-at (f ∷ front) last d = last-at front last d

length-front : (front : List Frame) (last : Frame) → length (front ++ last ∷ []) ≡ suc (length front)
length-front [] last = refl
length-front (f ∷ front) last = ap suc (length-front front last)

put-last : (xs front : List Frame) (last : Frame) → xs ≡ front ++ last ∷ [] → (i : ℕ) → i ≡ length front → (f : Frame) → f ≡ get_or xs i f → (line : ℕ)
    → reverse (set xs i (record f { line = line })) ≡ kept_at_line (reverse xs) line
put-last xs front last e i at f is line =
    let same : f ≡ last = is ∙ ap (λ w. get_or w i f) e ∙ ap (λ j. get_or (front ++ last ∷ []) j f) at ∙ last-at front last f in
    ap (λ w. reverse (set w i (record f { line = line }))) e
    ∙ ap (λ j. reverse (set (front ++ last ∷ []) j (record f { line = line }))) at
    ∙ ap reverse (set-append_seam front last [] (record f { line = line }))
    ∙ reverse-append front (record f { line = line } ∷ [])
    ∙ ap (λ (g : Frame). record g { line = line } ∷ reverse front) same
    ∙ ap (λ w. kept_at_line w line) (sym (reverse-append front (last ∷ [])))
    ∙ ap (λ w. kept_at_line (reverse w) line) (sym e)

pub put-innermost : (xs : List Frame) (i : ℕ) → 0 < length xs → i ≡ length xs - 1 → (f : Frame) → f ≡ get_or xs i f → (line : ℕ) → reverse (set xs i (record f { line = line })) ≡ kept_at_line (reverse xs) line
put-innermost [] i h at f is line = absurd (omega (arith, h))
put-innermost (x ∷ xs) i h at f is line =
    let s = split x xs in
    let long : length (x ∷ xs) ≡ suc (length s.front) = ap length s.is ∙ length-front s.front s.last in
    put-last (x ∷ xs) s.front s.last s.is i (omega (arith, at, long)) f is line
