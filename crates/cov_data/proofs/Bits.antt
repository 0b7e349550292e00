-- Lines packed into bytes.
use Rattle.std.proofs.Common.{◌≡◌, ◌≢◌, ℕ, suc, zero, ◌+◌, ◌-◌, ◌*◌, ◌/◌, ◌%◌, ◌^◌, ◌<◌, ◌≤◌, max, Bool, true, false, cond, List, [], ◌∷◌, ◌++◌, length, get_or, set, refl, ap, sym, subst, ◌∙◌, arith, inl, inr, ⊎_elim, ◌⊎◌, bit_or, w8}
use Rattle.std.specs.Prelude.{◌||◌, ◌&&◌, ◌==◌, nat_eq, T}
use Rattle.std.specs.declared.cmp.Ordering.TheVariants.{Less, Equal, Greater}
use Rattle.std.specs.Ordering.{nat_cmp, is_lt, eq_by_cmp}
use Rattle.std.specs.Cmp.{nat_cmp_total, unsigned_tied}
use Rattle.std.specs.List.{fold, list_any, range_with_len, filter}
use Rattle.std.specs.Int.{bit_at}
use Rattle.std.specs.FinMap.{nat_cmp-IsAntisymmetric, is_sorted}
use Rattle.std.specs.FinMap.Entries.{below_all, is_sorted-where_key}
use Rattle.std.proofs.lemmas.List.{get_or-set_same, get_or-set_other, map-id, get_or_past}
use Rattle.std.proofs.lemmas.List.Elements.{filter-append}
use Rattle.std.proofs.lemmas.List.FromFn.{map-range_with_len_more}
use Rattle.std.proofs.lemmas.Map.Views.{any-filter_same}
use Rattle.std.proofs.lemmas.Bool.{cases_eq, cases_lt, eqb-true, eq-eqb, ne_eqb, lt-ltb}
use Rattle.std.proofs.lemmas.Nat.Bits.{bit_at_set_same, bit_at_set_other, bit_at-zero}
use Rattle.cov_data.specs.Numbits.{has_line, bytes_needed, IsNumbits, lines_of_bits}
use Rattle.cov_data.specs.Rows.{distinct_in_order}
use Rattle.cov_data.proofs.Distinct.{marked, Rises, distinct_in_order-unique}

-- ---- one bit more

-- `bytes[line / 8] | 1 << (line % 8)`
abbrev pub with_line : List ℕ → ℕ → List ℕ
with_line bytes line = set bytes (line / 8) (bit_or (get_or bytes (line / 8) 0) (1 * 2 ^ (line % 8) % 256))

pub has_line-with_line : (bytes : List ℕ) (line n : ℕ) → line / 8 < length bytes → has_line (with_line bytes line) n ≡ (nat_eq n line || has_line bytes n)
has_line-with_line bytes line n within =
    let b = get_or bytes (line / 8) 0 in
    let v = bit_or b (1 * 2 ^ (line % 8) % 256) in
    ⊎_elim
    (λ (same : n / 8 ≡ line / 8).
    let byte : get_or (with_line bytes line) (n / 8) 0 ≡ v = ap (λ j. get_or (with_line bytes line) j 0) same ∙ get_or-set_same bytes (line / 8) v 0 within in
    ⊎_elim
    (λ (bit : n % 8 ≡ line % 8).
    let is : n ≡ line = omega arith in
    ap (λ x. nat_eq (bit_at x (n % 8)) 1) byte ∙ ap (λ k. nat_eq (bit_at v k) 1) bit ∙ ap (λ x. nat_eq x 1) (bit_at_set_same w8 b (line % 8) (omega arith))
    ∙ sym (ap (λ t. t || has_line bytes n) (eq-eqb n line is)))
    (λ (bit : n % 8 ≢ line % 8).
    let isnt : n ≢ line = λ e. bit (ap (λ m. m % 8) e) in
    ap (λ x. nat_eq (bit_at x (n % 8)) 1) byte ∙ ap (λ x. nat_eq x 1) (bit_at_set_other w8 b (line % 8) (omega arith) (n % 8) bit)
    ∙ ap (λ j. nat_eq (bit_at (get_or bytes j 0) (n % 8)) 1) (sym same)
    ∙ sym (ap (λ t. t || has_line bytes n) (ne_eqb n line isnt)))
    (cases_eq (n % 8) (line % 8)))
    (λ (apart : n / 8 ≢ line / 8).
    let isnt : n ≢ line = λ e. apart (ap (λ m. m / 8) e) in
    ap (λ x. nat_eq (bit_at x (n % 8)) 1) (get_or-set_other bytes (line / 8) (n / 8) v 0 apart)
    ∙ sym (ap (λ t. t || has_line bytes n) (ne_eqb n line isnt)))
    (cases_eq (n / 8) (line / 8))

-- ---- one line more

range_more : (n : ℕ) → range_with_len 0 (n + 1) ≡ range_with_len 0 n ++ n ∷ []
range_more n = sym (map-id (range_with_len 0 (n + 1))) ∙ map-range_with_len_more (λ x. x) 0 n n (omega arith) ∙ ap (λ xs. xs ++ n ∷ []) (map-id (range_with_len 0 n))

pub filter_more : (p : ℕ → Bool) (n : ℕ) → filter p (range_with_len 0 (n + 1)) ≡ filter p (range_with_len 0 n) ++ cond (p n) (n ∷ []) []
filter_more p n = ap (filter p) (range_more n) ∙ filter-append p (range_with_len 0 n) (n ∷ [])

-- ---- how many bytes

needed : ℕ → ℕ → ℕ
needed most n = max most (n / 8 + 1)

needed_at_least : (lines : List ℕ) (a : ℕ) → a ≤ fold (λ most n. max most (n / 8 + 1)) a lines
needed_at_least [] a = omega arith
needed_at_least (x ∷ xs) a = omega (arith, needed_at_least xs (max a (x / 8 + 1)))

needed_from : (lines : List ℕ) (a i : ℕ) → i < length lines → get_or lines i 0 / 8 + 1 ≤ fold (λ most n. max most (n / 8 + 1)) a lines
needed_from [] a i h = absurd (omega arith)
needed_from (x ∷ xs) a zero h = omega (arith, needed_at_least xs (max a (x / 8 + 1)))
needed_from (x ∷ xs) a (suc i) h = needed_from xs (max a (x / 8 + 1)) i (omega arith)

pub needed_at : (lines : List ℕ) (i : ℕ) → i < length lines → get_or lines i 0 / 8 < bytes_needed lines
needed_at lines i h = omega (arith, needed_from lines 0 i h)

or-true : (a : Bool) → (a || true) ≡ true
or-true true = refl
or-true false = refl

-- the number of bytes is the start, or some line needs it
needed_by : (lines : List ℕ) (a : ℕ) → (fold (λ most n. max most (n / 8 + 1)) a lines ≡ a) ⊎ ((x : ℕ) × (list_any (nat_eq x) lines ≡ true) × (x / 8 + 1 ≡ fold (λ most n. max most (n / 8 + 1)) a lines))
needed_by [] a = inl refl
needed_by (y ∷ ys) a =
    let b = max a (y / 8 + 1) in
    ⊎_elim
    (λ (e : fold (λ most n. max most (n / 8 + 1)) b ys ≡ b).
    ⊎_elim
    (λ (l : a < y / 8 + 1). inr (y, ap (λ t. t || list_any (nat_eq y) ys) (eq-eqb y y refl), omega arith))
    (λ (g : y / 8 + 1 ≤ a). inl (e ∙ omega arith))
    (cases_lt a (y / 8 + 1)))
    (λ (w : (x : ℕ) × (list_any (nat_eq x) ys ≡ true) × (x / 8 + 1 ≡ fold (λ most n. max most (n / 8 + 1)) b ys)).
    inr (w.0, ap (λ t. nat_eq w.0 y || t) w.1 ∙ or-true (nat_eq w.0 y), w.2))
    (needed_by ys b)

true_false : true ≡ false → ⊥
true_false e = cc

-- the last byte has a line
pub numbits-shortest : (lines bytes : List ℕ) → IsNumbits lines bytes → 0 < length bytes → get_or bytes (length bytes - 1) 0 ≢ 0
numbits-shortest lines bytes h some zero_byte =
    ⊎_elim
    (λ (e : bytes_needed lines ≡ 0). absurd (omega (arith, h.size)))
    (λ (w : (x : ℕ) × (list_any (nat_eq x) lines ≡ true) × (x / 8 + 1 ≡ bytes_needed lines)).
    let last : w.0 / 8 ≡ length bytes - 1 = omega (arith, h.size, w.2) in
    let clear : has_line bytes w.0 ≡ false = ap (λ x. nat_eq (bit_at x (w.0 % 8)) 1) (ap (λ j. get_or bytes j 0) last ∙ zero_byte) ∙ ap (λ x. nat_eq x 1) (bit_at-zero (w.0 % 8)) in
    true_false (sym (h.bits w.0 ∙ w.1) ∙ clear))
    (needed_by lines 0)

-- ---- back again

both : (a b : Bool) → T a → T b → T (a && b)
both true b p q = q
both false b p q = p

below_range : (x a n : ℕ) → x < a → T (below_all nat_cmp x (marked (range_with_len a n)))
below_range x a zero h = tt
below_range x a (suc n) h = both _ _ (subst (λ b. T (is_lt (cond b Less (cond (x == a) Equal Greater)))) (sym (lt-ltb x a h)) tt) (below_range x (a + 1) n (omega arith))

range-Rises : (a n : ℕ) → Rises nat_cmp (range_with_len a n)
range-Rises a zero = tt
range-Rises a (suc n) = both _ _ (below_range a (a + 1) n (omega arith)) (range-Rises (a + 1) n)

filter-marked : (p : ℕ → Bool) (xs : List ℕ) → marked (filter p xs) ≡ filter (λ e. p e.0) (marked xs)
filter-marked p [] = refl
filter-marked p (x ∷ xs) = elim (p x) as (λ b. marked (cond b (x ∷ filter p xs) (filter p xs)) ≡ cond b ((x, tt) ∷ filter (λ e. p e.0) (marked xs)) (filter (λ e. p e.0) (marked xs))) [
  | true ↦ ap (λ es. (x, tt) ∷ es) (filter-marked p xs)
  | false ↦ filter-marked p xs
]

pub filter-Rises : (p : ℕ → Bool) (xs : List ℕ) → Rises nat_cmp xs → Rises nat_cmp (filter p xs)
filter-Rises p xs h = subst (λ es. T (is_sorted nat_cmp es)) (sym (filter-marked p xs)) (is_sorted-where_key nat_cmp p (marked xs) h)

in_range : (q a n : ℕ) → a ≤ q → q < a + n → list_any (eq_by_cmp nat_cmp q) (range_with_len a n) ≡ true
in_range q a zero low high = absurd (omega arith)
in_range q a (suc n) low high = ⊎_elim
    (λ (e : q ≡ a). ap (λ t. t || list_any (eq_by_cmp nat_cmp q) (range_with_len (a + 1) n)) (unsigned_tied q a ∙ eq-eqb q a e))
    (λ (ne : q ≢ a). ap (λ t. eq_by_cmp nat_cmp q a || t) (in_range q (a + 1) n (omega arith) (omega arith)) ∙ or-true (eq_by_cmp nat_cmp q a))
    (cases_eq q a)

-- a line that is set stands within the bytes
within : (bytes : List ℕ) (q : ℕ) → has_line bytes q ≡ true → q < 8 * length bytes
within bytes q h = ⊎_elim
    (λ (l : q < 8 * length bytes). l)
    (λ (g : 8 * length bytes ≤ q).
    let past : get_or bytes (q / 8) 0 ≡ 0 = get_or_past bytes (q / 8) 0 (omega arith) in
    absurd (true_false (sym h ∙ ap (λ x. nat_eq (bit_at x (q % 8)) 1) past ∙ ap (λ x. nat_eq x 1) (bit_at-zero (q % 8)))))
    (cases_lt q (8 * length bytes))

any_alike : (q : ℕ) (xs : List ℕ) → list_any (eq_by_cmp nat_cmp q) xs ≡ list_any (nat_eq q) xs
any_alike q [] = refl
any_alike q (x ∷ xs) = λ i. unsigned_tied q x i || any_alike q xs i

set_lines : (bytes : List ℕ) (q : ℕ) (b : Bool) → has_line bytes q ≡ b → (b && list_any (eq_by_cmp nat_cmp q) (range_with_len 0 (8 * length bytes))) ≡ b
set_lines bytes q true h = in_range q 0 (8 * length bytes) (omega arith) (omega (arith, within bytes q h))
set_lines bytes q false h = refl

pub lines_of_bits-numbits : (lines bytes : List ℕ) → IsNumbits lines bytes → lines_of_bits bytes ≡ distinct_in_order nat_cmp lines
lines_of_bits-numbits lines bytes h = distinct_in_order-unique nat_cmp nat_cmp_total nat_cmp-IsAntisymmetric (lines_of_bits bytes) lines
    (filter-Rises (has_line bytes) (range_with_len 0 (8 * length bytes)) (range-Rises 0 (8 * length bytes)))
    (λ q. any-filter_same (eq_by_cmp nat_cmp q) (has_line bytes) (has_line bytes q) (λ k t. ap (has_line bytes) (sym (eqb-true q k (sym (unsigned_tied q k) ∙ t)))) (range_with_len 0 (8 * length bytes))
    ∙ set_lines bytes q (has_line bytes q) refl ∙ h.bits q ∙ sym (any_alike q lines))
