-- Where the last `:` of a text is.
use Rattle.std.proofs.Common.{◌≡◌, ◌≢◌, ℕ, ◌+◌, ◌-◌, ◌<◌, ◌≤◌, true, false, not, nat_eq, [], length, get_or, take, drop, Option, Some, None, ap, sym, ◌∙◌, arith, lit<, length-drop, ◌||◌, cond}
use Rattle.std.specs.List.{suffix_len, before_last, after_last}
use Rattle.std.specs.Str.{NoCharPasses}
use Rattle.std.specs.Str.Pattern.{RFindsChar, HasCharAt, SplitsAroundMatch}
use Rattle.std.proofs.lemmas.Str.Pattern.{NoCharPasses-char}
use Rattle.std.proofs.lemmas.List.{get_or-drop}
use Rattle.std.proofs.lemmas.List.Sums.{suffix_len_is}
use Rattle.std.proofs.lemmas.Bool.Decides.{nat_tests}
use Rattle.cov_file_names.specs.Forms.{Text, is_empty, is_colon, file_and_name}

no_colon : (b : ℕ) → b ≢ 58 → not (is_colon b) ≡ true
no_colon b h = grind (arith, nat_tests)

colon : (b : ℕ) → b ≡ 58 → not (is_colon b) ≡ false
colon b h = grind (arith, nat_tests)

-- where no byte from j on is `:`, and the one in front of j is one
tail_is : (bs : Text) (j : ℕ) → j ≤ length bs → ((k : ℕ) → j ≤ k → k < length bs → get_or bs k 0 ≢ 58) → (0 < j → get_or bs (j - 1) 0 ≡ 58) → suffix_len (λ b. not (is_colon b)) bs ≡ length bs - j
tail_is bs j within none last = suffix_len_is (λ b. not (is_colon b)) bs j 0 within (λ k from to. no_colon _ (none k from to)) (λ some. colon _ (last some))

pub cut_nowhere : (bs : Text) → RFindsChar 58 bs None → before_last is_colon bs ≡ []
cut_nowhere bs none =
    let all = tail_is bs 0 (omega arith) (λ k from to. NoCharPasses-char 58 bs k none (lit< tt) to) (λ some. absurd (omega arith)) in
    let zero : length bs - suffix_len (λ b. not (is_colon b)) bs - 1 ≡ 0 = omega (arith, all) in
    ap (λ n. take n bs) zero

-- no `:` from j on
none_from : (bs : Text) (j k : ℕ) → NoCharPasses (λ d. nat_eq d 58) (drop j bs) → j ≤ k → k < length bs → get_or bs k 0 ≢ 58
none_from bs j k none from to =
    let i = k - j in
    let inside : i < length (drop j bs) = omega (arith, length-drop j bs) in
    let there : j + i ≡ k = omega arith in
    let found : get_or (drop j bs) i 0 ≡ get_or bs k 0 = get_or-drop j bs i 0 ∙ ap (λ n. get_or bs n 0) there in
    λ colon. NoCharPasses-char 58 (drop j bs) i none (lit< tt) inside (found ∙ colon)

-- how many bytes are after the last `:`, which is at i
tail_at : (bs : Text) (i j : ℕ) → NoCharPasses (λ d. nat_eq d 58) (drop j bs) → HasCharAt 58 bs i j → j ≤ length bs → suffix_len (λ b. not (is_colon b)) bs ≡ length bs - j
tail_at bs i j none at within =
    let ends : j ≡ i + 1 = at.ends in
    let before : j - 1 ≡ i = omega arith in
    tail_is bs j within (λ k from to. none_from bs j k none from to) (λ some. ap (λ n. get_or bs n 0) before ∙ at.byte (lit< tt))

pub cut_before : (bs front back : Text) → SplitsAroundMatch (RFindsChar 58) bs front back → before_last is_colon bs ≡ front
cut_before bs front back s =
    let within : s.1 ≤ length bs = omega arith in
    let tail = tail_at bs s.0 s.1 s.2.0 s.2.1 within in
    let ends : s.1 ≡ s.0 + 1 = s.2.1.ends in
    let place : length bs - suffix_len (λ b. not (is_colon b)) bs - 1 ≡ s.0 = omega (arith, tail, ends, within) in
    ap (λ n. take n bs) place ∙ sym s.3

pub cut_after : (bs front back : Text) → SplitsAroundMatch (RFindsChar 58) bs front back → after_last is_colon bs ≡ back
cut_after bs front back s =
    let within : s.1 ≤ length bs = omega arith in
    let tail = tail_at bs s.0 s.1 s.2.0 s.2.1 within in
    let place : length bs - suffix_len (λ b. not (is_colon b)) bs ≡ s.1 = omega (arith, tail, within) in
    ap (λ n. drop n bs) place ∙ sym s.4

-- a file and a name, where neither is empty
abbrev pub both : Text → Text → Option (Text × Text)
both file name = cond (is_empty file || is_empty name) None (Some (file, name))

pub cut_nowhere-none : (bs : Text) → RFindsChar 58 bs None → file_and_name bs ≡ None
cut_nowhere-none bs none = ap (λ file. both file (after_last is_colon bs)) (cut_nowhere bs none)

cut_both : (bs front back : Text) → SplitsAroundMatch (RFindsChar 58) bs front back → file_and_name bs ≡ both front back
cut_both bs front back s = ap (λ file. both file (after_last is_colon bs)) (cut_before bs front back s) ∙ ap (both front) (cut_after bs front back s)

pub no_file : (bs front back : Text) → SplitsAroundMatch (RFindsChar 58) bs front back → is_empty front ≡ true → file_and_name bs ≡ None
no_file bs front back s none = cut_both bs front back s ∙ ap (λ e. cond (e || is_empty back) None (Some (front, back))) none

pub no_name : (bs front back : Text) → SplitsAroundMatch (RFindsChar 58) bs front back → is_empty front ≡ false → is_empty back ≡ true → file_and_name bs ≡ None
no_name bs front back s some none =
    cut_both bs front back s ∙ ap (λ e. cond (e || is_empty back) None (Some (front, back))) some ∙ ap (λ e. cond e None (Some (front, back))) none

pub file_with_name : (bs front back : Text) → SplitsAroundMatch (RFindsChar 58) bs front back → is_empty front ≡ false → is_empty back ≡ false → file_and_name bs ≡ Some (front, back)
file_with_name bs front back s some also =
    cut_both bs front back s ∙ ap (λ e. cond (e || is_empty back) None (Some (front, back))) some ∙ ap (λ e. cond e None (Some (front, back))) also
