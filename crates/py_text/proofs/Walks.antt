-- Walks over the characters of a text.
use Rattle.std.proofs.Common.{◌≡◌, ◌≢◌, ℕ, zero, suc, ◌+◌, ◌-◌, ◌<◌, ◌≤◌, List, [], ◌∷◌, ◌++◌, length, get_or, take, drop, Option, Some, None, refl, ap, sym, ◌∙◌, arith, Bool, true, false, cond, nat_eq}
use Rattle.std.specs.declared.cmp.Ordering.{Ordering}
use Rattle.std.specs.declared.cmp.Ordering.TheVariants.{Less, Equal, Greater}
use Rattle.std.specs.Ordering.{nat_cmp}
use Rattle.std.proofs.lemmas.Bool.{eqb-true, eq-eqb}
use Rattle.py_text.specs.Comparison.{order_of_texts}
use Rattle.std.specs.List.{slice_get}
use Rattle.std.specs.Str.{chars, IsUtf8}
use Rattle.std.specs.Char.{encode_utf8}
use Rattle.std.proofs.lemmas.List.{at_drop_more, at_drop_all, length_push}
use Rattle.std.proofs.lemmas.Str.{chars_past_char, chars-nil}

-- the item at a place of what is left: here, one step on, and at the end
pub got : (cs : List ℕ) (n x a : ℕ) (want : Option ℕ) → (n < length cs) × (x ≡ get_or cs n x) → a ≡ 0 → slice_get (drop n cs) a ≡ want → Some x ≡ want
got cs n x a want t e h =
    ap Some t.1 ∙ sym (at_drop_more (λ ds. slice_get ds 0) cs n x t.0) ∙ ap (λ k. slice_get (drop n cs) k) (sym e) ∙ h

one_more : (a : ℕ) → a ≢ 0 → a ≡ suc (a - 1)
one_more zero h = absurd (h refl)
one_more (suc a) h = omega arith

pub got_later : (cs ys : List ℕ) (x a : ℕ) (want : Option ℕ) → (length ys < length cs) × (x ≡ get_or cs (length ys) x) → a ≢ 0 → slice_get (drop (length ys) cs) a ≡ want
    → slice_get (drop (length (ys ++ x ∷ [])) cs) (a - 1) ≡ want
got_later cs ys x a want t ne h =
    ap (λ k. slice_get (drop k cs) (a - 1)) (length_push ys x)
    ∙ sym (at_drop_more (λ ds. slice_get ds (suc (a - 1))) cs (length ys) x t.0)
    ∙ ap (λ k. slice_get (drop (length ys) cs) k) (sym (one_more a ne)) ∙ h

pub got_none : (cs : List ℕ) (n a : ℕ) (want : Option ℕ) → length cs ≤ n → slice_get (drop n cs) a ≡ want → None ≡ want
got_none cs n a want l h = sym (at_drop_all (λ ds. slice_get ds a) cs n l) ∙ h

-- the part of what is left
abbrev pub rest_part : ℕ → ℕ → List ℕ → List ℕ
rest_part left ahead ds = take left (drop ahead ds)

pub passes : (cs ys : List ℕ) (x left ahead : ℕ) → (length ys < length cs) × (x ≡ get_or cs (length ys) x) → ahead ≢ 0
    → rest_part left (ahead - 1) (drop (length (ys ++ x ∷ [])) cs) ≡ rest_part left ahead (drop (length ys) cs)
passes cs ys x left ahead t ne =
    ap (λ k. rest_part left (ahead - 1) (drop k cs)) (length_push ys x)
    ∙ sym (at_drop_more (rest_part left (suc (ahead - 1))) cs (length ys) x t.0)
    ∙ ap (λ k. rest_part left k (drop (length ys) cs)) (sym (one_more ahead ne))

pub takes : (cs ys : List ℕ) (x left ahead : ℕ) → (length ys < length cs) × (x ≡ get_or cs (length ys) x) → ahead ≡ 0 → left ≢ 0
    → x ∷ rest_part (left - 1) ahead (drop (length (ys ++ x ∷ [])) cs) ≡ rest_part left ahead (drop (length ys) cs)
takes cs ys x left ahead t e ne =
    ap (λ k. x ∷ rest_part (left - 1) k (drop (length (ys ++ x ∷ [])) cs)) e
    ∙ ap (λ k. x ∷ rest_part (left - 1) 0 (drop k cs)) (length_push ys x)
    ∙ ap (λ c. c ∷ rest_part (left - 1) 0 (drop (length ys + 1) cs)) t.1
    ∙ sym (at_drop_more (rest_part (suc (left - 1)) 0) cs (length ys) x t.0)
    ∙ ap (λ k. rest_part k 0 (drop (length ys) cs)) (sym (one_more left ne))
    ∙ ap (λ k. rest_part left k (drop (length ys) cs)) (sym e)

pub part_done : (cs : List ℕ) (n left ahead : ℕ) → length cs ≤ n → rest_part left ahead (drop n cs) ≡ []
part_done cs n left ahead l = at_drop_all (rest_part left ahead) cs n l ∙ nothing left ahead
  where
    nothing : (left ahead : ℕ) → rest_part left ahead [] ≡ []
    nothing zero zero = refl
    nothing zero (suc a) = refl
    nothing (suc l) zero = refl
    nothing (suc l) (suc a) = refl

-- a text of no bytes
pub no_chars_left : (bs : List ℕ) → length bs ≡ 0 → chars bs ≡ []
no_chars_left [] e = chars-nil
no_chars_left (b ∷ bs) e = absurd (omega arith)

-- two texts, one step on
both_past : (l r m n : List ℕ) (c d : ℕ) (want : Ordering) → IsUtf8 l → IsUtf8 r → l ≡ encode_utf8 c ++ m → r ≡ encode_utf8 d ++ n → order_of_texts (chars l) (chars r) ≡ want
    → cond (nat_eq c d) (order_of_texts (chars m) (chars n)) (nat_cmp c d) ≡ want
both_past l r m n c d want u w e f h =
    sym (ap (λ cs. order_of_texts cs (chars r)) (chars_past_char l m c u e) ∙ ap (λ ds. order_of_texts (c ∷ chars m) ds) (chars_past_char r n d w f)) ∙ h

pub order_later : (l r m n : List ℕ) (c d : ℕ) (want : Ordering) → IsUtf8 l → IsUtf8 r → l ≡ encode_utf8 c ++ m → r ≡ encode_utf8 d ++ n → c ≡ d → order_of_texts (chars l) (chars r) ≡ want
    → order_of_texts (chars m) (chars n) ≡ want
order_later l r m n c d want u w e f same h =
    sym (ap (λ b. cond b (order_of_texts (chars m) (chars n)) (nat_cmp c d)) (eq-eqb c d same)) ∙ both_past l r m n c d want u w e f h

pub order_now : (l r m n : List ℕ) (c d : ℕ) (want : Ordering) → IsUtf8 l → IsUtf8 r → l ≡ encode_utf8 c ++ m → r ≡ encode_utf8 d ++ n → c ≢ d → order_of_texts (chars l) (chars r) ≡ want
    → nat_cmp c d ≡ want
order_now l r m n c d want u w e f differ h =
    sym (ap (λ b. cond b (order_of_texts (chars m) (chars n)) (nat_cmp c d)) (other (nat_eq c d) (λ t. differ (eqb-true c d t)))) ∙ both_past l r m n c d want u w e f h
  where
    other : (b : Bool) → (b ≡ true → ⊥) → b ≡ false
    other true k = absurd (k refl)
    other false k = refl

-- where one text ends
pub order_ended : (l r n : List ℕ) (d : ℕ) (want : Ordering) → IsUtf8 r → length l ≡ 0 → r ≡ encode_utf8 d ++ n → order_of_texts (chars l) (chars r) ≡ want → Less ≡ want
order_ended l r n d want w e f h =
    sym (ap (λ cs. order_of_texts cs (chars r)) (no_chars_left l e) ∙ ap (λ ds. order_of_texts [] ds) (chars_past_char r n d w f)) ∙ h

pub order_outlasts : (l r m : List ℕ) (c : ℕ) (want : Ordering) → IsUtf8 l → length r ≡ 0 → l ≡ encode_utf8 c ++ m → order_of_texts (chars l) (chars r) ≡ want → Greater ≡ want
order_outlasts l r m c want u e f h =
    sym (ap (λ cs. order_of_texts cs (chars r)) (chars_past_char l m c u f) ∙ ap (λ ds. order_of_texts (c ∷ chars m) ds) (no_chars_left r e)) ∙ h

pub order_same : (l r : List ℕ) (want : Ordering) → length l ≡ 0 → length r ≡ 0 → order_of_texts (chars l) (chars r) ≡ want → Equal ≡ want
order_same l r want e f h = sym (ap (λ cs. order_of_texts cs (chars r)) (no_chars_left l e) ∙ ap (λ ds. order_of_texts [] ds) (no_chars_left r f)) ∙ h
