-- A line that is read byte by byte: what was read, and what is left.
use Rattle.std.proofs.Common.{◌≡◌, ℕ, zero, suc, ◌+◌, ◌-◌, ◌<◌, ◌≤◌, nat_eq, nat_lt, Bool, true, false, List, [], ◌∷◌, ◌++◌, length, take, drop, Result, Ok, Err, refl, ap, sym, ◌∙◌, subst, append-nil, length-append, arith, if◌then◌else◌}
use Rattle.std.proofs.lemmas.Bool.Decides.{nat_tests}
use Rattle.std.proofs.lemmas.List.{take-append-drop}
use Rattle.std.proofs.Math.Seq.{drop-append-add}
use Rattle.cov_outside.specs.Prefixes.{LosesPrefix}
use Rattle.cov_outside.proofs.PrefixLemmas.{loses_nothing, loses_then}
use Rattle.py_value.specs.declared.cause.Cause.{Cause}
use Rattle.py_value.specs.declared.cause.Cause.TheVariants.{TooManyItems}
use Rattle.py_value.specs.Answers.{◌>>=◌}
use Rattle.py_value.specs.Sequences.{most_items}
use Rattle.py_builtins.specs.Builtins.{first_line, after_line, line_read}
use Rattle.py_builtins.specs.Calls.{bytes_read, decoded}

-- bytes without a line end
abbrev pub IsOpen : List ℕ → Type 0
IsOpen bs = bs ≡ first_line bs

abbrev first_at : ℕ → List ℕ → Bool → List ℕ
first_at b bs t = if t then [] else b ∷ first_line bs

abbrev after_at : List ℕ → Bool → List ℕ
after_at bs t = if t then bs else after_line bs

open_rest : (b : ℕ) (bs : List ℕ) (t : Bool) → nat_eq b 10 ≡ t → b ∷ bs ≡ first_at b bs t → (nat_eq b 10 ≡ false) × (bs ≡ first_line bs)
open_rest b bs true e h = absurd (cc)
open_rest b bs false e h = (e, cc)

open_tail : (b : ℕ) (bs : List ℕ) → IsOpen (b ∷ bs) → (nat_eq b 10 ≡ false) × IsOpen bs
open_tail b bs h = open_rest b bs (nat_eq b 10) refl h

pub first_open : (bs rest : List ℕ) → IsOpen bs → first_line (bs ++ rest) ≡ bs ++ first_line rest
first_open [] rest h = refl
first_open (b ∷ bs) rest h =
    let t = open_tail b bs h in
    ap (λ x. first_at b (bs ++ rest) x) t.0 ∙ ap (λ xs. b ∷ xs) (first_open bs rest t.1)

pub after_open : (bs rest : List ℕ) → IsOpen bs → after_line (bs ++ rest) ≡ after_line rest
after_open [] rest h = refl
after_open (b ∷ bs) rest h =
    let t = open_tail b bs h in
    ap (λ x. after_at (bs ++ rest) x) t.0 ∙ after_open bs rest t.1

-- one more byte, which ends no line
pub open_more : (bs : List ℕ) (b : ℕ) → IsOpen bs → nat_eq b 10 ≡ false → IsOpen (bs ++ b ∷ [])
open_more bs b h e = sym (first_open bs (b ∷ []) h ∙ ap (λ t. bs ++ first_at b [] t) e)

abbrev pub read_at : List ℕ → List ℕ → Bool → Result (List ℕ) Cause × List ℕ
read_at line bs t = if t then (Err TooManyItems, drop (suc most_items) bs) else (Ok line, after_line bs)

abbrev pub short : List ℕ → Bool
short line = nat_lt most_items (length line)

fits : (line : List ℕ) → length line ≤ most_items → short line ≡ false
fits line l = grind (arith, nat_tests)

passes : (line : List ℕ) → most_items < length line → short line ≡ true
passes line l = grind (arith, nat_tests)

-- the line that the end of the input ends
pub read_whole : (bs : List ℕ) → IsOpen bs → length bs ≤ most_items → 0 < length bs → bytes_read bs ≡ (Ok bs, [])
read_whole [] h l e = absurd (omega arith)
read_whole (b ∷ bs) h l e =
    ap (λ line. read_at line (b ∷ bs) (short line)) (sym h) ∙ ap (λ t. read_at (b ∷ bs) (b ∷ bs) t) (fits (b ∷ bs) l)
    ∙ ap (λ xs. let p : Result (List ℕ) Cause × List ℕ = (Ok (b ∷ bs), xs) in p) (ap after_line (sym (append-nil (b ∷ bs))) ∙ after_open (b ∷ bs) [] h)

pub left_whole : (bs : List ℕ) → IsOpen bs → length bs ≤ most_items → [] ≡ (bytes_read bs).1
left_whole [] h l = refl
left_whole (b ∷ bs) h l = sym (ap (λ p. p.1) (read_whole (b ∷ bs) h l (omega arith)))

read_on : (bs : List ℕ) (b : ℕ) (rest : List ℕ) → bytes_read (bs ++ b ∷ rest) ≡ read_at (first_line (bs ++ b ∷ rest)) (bs ++ b ∷ rest) (short (first_line (bs ++ b ∷ rest)))
read_on [] b rest = refl
read_on (c ∷ bs) b rest = refl

-- the line that a line end ends
pub read_ended : (bs : List ℕ) (b : ℕ) (rest : List ℕ) → IsOpen bs → length bs ≤ most_items → nat_eq b 10 ≡ true → bytes_read (bs ++ b ∷ rest) ≡ (Ok bs, rest)
read_ended bs b rest h l e =
    let line : first_line (bs ++ b ∷ rest) ≡ bs = first_open bs (b ∷ rest) h ∙ ap (λ t. bs ++ first_at b rest t) e ∙ append-nil bs in
    let left : after_line (bs ++ b ∷ rest) ≡ rest = after_open bs (b ∷ rest) h ∙ ap (λ t. after_at rest t) e in
    read_on bs b rest
    ∙ ap (λ x. read_at x (bs ++ b ∷ rest) (short x)) line ∙ ap (λ t. read_at bs (bs ++ b ∷ rest) t) (fits bs l)
    ∙ ap (λ xs. let p : Result (List ℕ) Cause × List ℕ = (Ok bs, xs) in p) left

drop_front : (n : ℕ) (bs rest : List ℕ) → length bs ≡ n → drop n (bs ++ rest) ≡ rest
drop_front zero [] rest e = refl
drop_front zero (b ∷ bs) rest e = absurd (omega arith)
drop_front (suc n) [] rest e = absurd (omega arith)
drop_front (suc n) (b ∷ bs) rest e = drop_front n bs rest (omega arith)

some_read : (n : ℕ) (bs rest : List ℕ) → n < length bs → bytes_read (bs ++ rest) ≡ read_at (first_line (bs ++ rest)) (bs ++ rest) (short (first_line (bs ++ rest)))
some_read n [] rest l = absurd (omega arith)
some_read n (b ∷ bs) rest l = refl

-- too many bytes
pub read_too_many : (bs rest : List ℕ) → IsOpen bs → length bs ≡ suc most_items → bytes_read (bs ++ rest) ≡ (Err TooManyItems, rest)
read_too_many bs rest h l =
    let long : most_items < length (first_line (bs ++ rest)) = omega (arith, ap length (first_open bs rest h), length-append bs (first_line rest)) in
    some_read most_items bs rest (omega arith)
    ∙ ap (λ t. read_at (first_line (bs ++ rest)) (bs ++ rest) t) (passes (first_line (bs ++ rest)) long)
    ∙ ap (λ xs. let p : Result (List ℕ) Cause × List ℕ = (Err TooManyItems, xs) in p) (drop_front (suc most_items) bs rest l)

-- ---- what is still to be read

loses_at : (b : ℕ) (bs : List ℕ) (t : Bool) → LosesPrefix bs (after_line bs) → LosesPrefix (b ∷ bs) (after_at bs t)
loses_at b bs true h = record { front = b ∷ []; is = refl }
loses_at b bs false h = loses_then (b ∷ bs) bs (after_line bs) (record { front = b ∷ []; is = refl }) h

loses_after : (bs : List ℕ) → LosesPrefix bs (after_line bs)
loses_after [] = loses_nothing [] [] refl
loses_after (b ∷ bs) = loses_at b bs (nat_eq b 10) (loses_after bs)

loses_drop : (k : ℕ) (xs : List ℕ) → LosesPrefix xs (drop k xs)
loses_drop k xs = record { front = take k xs; is = sym (take-append-drop k xs) }

left_at : (bs rest line : List ℕ) (t : Bool) → IsOpen bs → length bs ≤ suc most_items → LosesPrefix rest (read_at line (bs ++ rest) t).1
left_at bs rest line true h l =
    let k : suc most_items ≡ length bs + (suc most_items - length bs) = omega arith in
    let e : drop (suc most_items) (bs ++ rest) ≡ drop (suc most_items - length bs) rest = ap (λ n. drop n (bs ++ rest)) k ∙ drop-append-add bs rest (suc most_items - length bs) in
    subst (λ xs. LosesPrefix rest xs) (sym e) (loses_drop (suc most_items - length bs) rest)
left_at bs rest line false h l = subst (λ xs. LosesPrefix rest xs) (sym (after_open bs rest h)) (loses_after rest)

-- no more is left than what is still to be read
pub still_read : (bs rest : List ℕ) → IsOpen bs → length bs ≤ suc most_items → LosesPrefix rest (bytes_read (bs ++ rest)).1
still_read [] [] h l = loses_nothing [] [] refl
still_read [] (r ∷ rest) h l = left_at [] (r ∷ rest) (first_line (r ∷ rest)) (short (first_line (r ∷ rest))) h l
still_read (b ∷ bs) rest h l = left_at (b ∷ bs) rest (first_line (b ∷ (bs ++ rest))) (short (first_line (b ∷ (bs ++ rest)))) h l

-- ---- the text of a line

abbrev text_at : List ℕ → List ℕ → Bool → Result (List ℕ) Cause × List ℕ
text_at line bs t = if t then (Err TooManyItems, drop (suc most_items) bs) else (decoded line, after_line bs)

abbrev pub made_text : Result (List ℕ) Cause × List ℕ → Result (List ℕ) Cause × List ℕ
made_text p = (p.0 >>= decoded, p.1)

text_of_line : (line bs : List ℕ) (t : Bool) → text_at line bs t ≡ made_text (read_at line bs t)
text_of_line line bs true = refl
text_of_line line bs false = refl

pub text_read : (bs : List ℕ) → line_read bs ≡ made_text (bytes_read bs)
text_read [] = refl
text_read (b ∷ bs) = text_of_line (first_line (b ∷ bs)) (b ∷ bs) (short (first_line (b ∷ bs)))
