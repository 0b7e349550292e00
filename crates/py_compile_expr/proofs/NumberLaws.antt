-- The places of names and lines in sets that keep the order in which they came.
use Rattle.std.proofs.Common.{◌≡◌, ℕ, suc, ◌+◌, ◌==◌, nat_eq, Result, Ok, Err, OnOk, List, [], ◌∷◌, ◌++◌, map, Bool, true, false, cond, ◌||◌, refl, sym, ap, ◌∙◌, arith, String, Global, string_bytes}
use Rattle.std.specs.Prelude.{if◌then◌else◌, encode_utf8_all}
use Rattle.std.specs.List.{list_any, position_or_len}
use Rattle.std.specs.Str.{chars}
use Rattle.std.specs.String.{string_eq}
use Rattle.std.proofs.lemmas.List.Recursion.{is_position_or_len}
use Rattle.std.proofs.lemmas.Slice.Eq.{bytes_eq-Decides}
use Rattle.std.proofs.lemmas.Str.{IsUtf8-string_bytes, encodes-chars}
use Rattle.py_text.specs.Comparison.{is_same_text}
use Rattle.py_text.proofs.SameTexts.{same_answer, same_text, same_text_from}
use Rattle.py_compile_expr.specs.Cells.{place_in, add_new}

one_more : (n : ℕ) → suc n ≡ 1 + n
one_more n = omega arith

-- one list by another one whose items it shows
module _ {A B : Type 0} (same : B → B → Bool) (eq : A → A → Bool) (show : A → B) (agree : (a b : A) → same (show a) (show b) ≡ eq a b) where
  pub place-shown : (xs : List A) (x : A) → place_in same (map show xs) (show x) ≡ position_or_len (eq x) xs
  place-shown xs x =
      is_position_or_len (λ ys. place_in same (map show ys) (show x)) (eq x) refl
      (λ y ys. ap (λ b. if b then 0 else suc (place_in same (map show ys) (show x))) (agree x y) ∙ by_case (eq x y) (place_in same (map show ys) (show x))) xs
    where
      by_case : (b : Bool) (n : ℕ) → (if b then 0 else suc n) ≡ cond b 0 (1 + n)
      by_case true n = refl
      by_case false n = one_more n

  pub added-shown : (xs : List A) (x : A) → add_new same (map show xs) (show x) ≡ map show (if list_any (eq x) xs then xs else xs ++ x ∷ [])
  added-shown [] x = refl
  added-shown (y ∷ ys) x = by_case (same (show x) (show y)) (eq x y) (agree x y) (list_any (eq x) ys) (added-shown ys x)
    where
      by_case : (b c : Bool) → b ≡ c → (d : Bool) → add_new same (map show ys) (show x) ≡ map show (if d then ys else ys ++ x ∷ [])
          → (if b then show y ∷ map show ys else show y ∷ add_new same (map show ys) (show x)) ≡ map show (if (c || d) then y ∷ ys else (y ∷ ys) ++ x ∷ [])
      by_case true true e d h = refl
      by_case true false e d h = absurd cc
      by_case false true e d h = absurd cc
      by_case false false e true h = ap (λ zs. show y ∷ zs) h
      by_case false false e false h = ap (λ zs. show y ∷ zs) h

abbrev pub text_of : String Global → List ℕ
text_of k = chars (string_bytes k)

-- strings are equal where their characters are
pub texts_agree : (a b : String Global) → is_same_text (text_of a) (text_of b) ≡ string_eq a b
texts_agree a b =
    same_answer _ _ (string_bytes a ≡ string_bytes b)
    (λ e. sym (encodes-chars (string_bytes a) (IsUtf8-string_bytes a)) ∙ ap encode_utf8_all (same_text (text_of a) (text_of b) e) ∙ encodes-chars (string_bytes b) (IsUtf8-string_bytes b))
    (λ e. same_text_from (text_of a) (text_of b) (ap chars e))
    (bytes_eq-Decides (string_bytes a) (string_bytes b)).0
    (bytes_eq-Decides (string_bytes a) (string_bytes b)).1

-- ---- numbers, which show themselves

map_same : (xs : List ℕ) → map (λ x. x) xs ≡ xs
map_same [] = refl
map_same (x ∷ xs) = ap (λ ys. x ∷ ys) (map_same xs)

pub place-number : (xs : List ℕ) (x : ℕ) → place_in (λ a b. a == b) xs x ≡ position_or_len (nat_eq x) xs
place-number xs x = ap (λ ys. place_in (λ a b. a == b) ys x) (sym (map_same xs)) ∙ place-shown (λ a b. a == b) nat_eq (λ n. n) (λ a b. refl) xs x

pub added-number : (xs : List ℕ) (x : ℕ) → add_new (λ a b. a == b) xs x ≡ (if list_any (nat_eq x) xs then xs else xs ++ x ∷ [])
added-number xs x =
    ap (λ ys. add_new (λ a b. a == b) ys x) (sym (map_same xs)) ∙ added-shown (λ a b. a == b) nat_eq (λ n. n) (λ a b. refl) xs x ∙ map_same (if list_any (nat_eq x) xs then xs else xs ++ x ∷ [])

-- what holds anyhow holds of an answer
pub of_answer : {A E : Type 0} (r : Result A E) (P : Type 0) → P → OnOk r P
of_answer (Ok u) P h = h
of_answer (Err e) P h = tt
