-- Operands one after the other.
use Rattle.std.proofs.Common.{◌≡◌, ℕ, Bool, true, false, ◌&&◌, ◌==◌, nat_le, List, [], ◌∷◌, ◌++◌, length, Some, refl, sym, subst, arith}
use Rattle.std.specs.Str.Parse.{digits_value}
use Rattle.std.proofs.lemmas.Bool.{not-true}
use Rattle.std.proofs.lemmas.Bool.Decides.{nat_tests}
use Rattle.std.proofs.lemmas.List.{append-nil}
use Rattle.std.proofs.lemmas.Option.{cond_some}
use Rattle.std.specs.Option.{is_some}
use Rattle.std.specs.List.{list_all}
use Rattle.cov_words.specs.Values.{Word, is_digit, whole_number, number_up_to}
use Rattle.cov_words.specs.Operands.{begins_option, Shape, a_script, any_names, nothing, a_name, two_names, a_seed_and_size, is_name, are_names, are_one, are_two, are_seed_and_size, are_none, fit}
use Rattle.cov_words.specs.Reading.{extends}
use Rattle.cov_words.proofs.Choices.{first_true, second_true, both_true, there, one_more_passes, next_passes}

-- operands, or the first of them
abbrev pub begun_so : Shape → List Word → Bool
begun_so a_script [] = true
begun_so a_script (w ∷ ws) = is_name w
begun_so any_names ws = are_names ws
begun_so nothing ws = are_none ws
begun_so a_name [] = true
begun_so a_name (w ∷ ws) = are_one (w ∷ ws)
begun_so two_names [] = true
begun_so two_names (w ∷ []) = is_name w
begun_so two_names (w ∷ x ∷ ws) = are_two (w ∷ x ∷ ws)
begun_so a_seed_and_size [] = true
begun_so a_seed_and_size (w ∷ []) = is_some (whole_number w)
begun_so a_seed_and_size (w ∷ x ∷ ws) = are_seed_and_size (w ∷ x ∷ ws)

pub none_begun : (s : Shape) → begun_so s [] ≡ true
none_begun a_script = refl
none_begun any_names = refl
none_begun nothing = refl
none_begun a_name = refl
none_begun two_names = refl
none_begun a_seed_and_size = refl

pub one_more_begun : (s : Shape) (ws : List Word) (w : Word) → begun_so s ws ≡ true → extends s ws w ≡ true → begun_so s (ws ++ (w ∷ [])) ≡ true
one_more_begun a_script [] w h k = k
one_more_begun a_script (x ∷ xs) w h k = h
one_more_begun any_names ws w h k = one_more_passes is_name ws w h k
one_more_begun nothing ws w h k = cc
one_more_begun a_name [] w h k = k
one_more_begun a_name (x ∷ xs) w h k = cc
one_more_begun two_names [] w h k = k
one_more_begun two_names (x ∷ []) w h k = both_true (is_name x) (is_name w) h k
one_more_begun two_names (x ∷ y ∷ xs) w h k = cc
one_more_begun a_seed_and_size [] w h k = k
one_more_begun a_seed_and_size (x ∷ []) w h k = both_true (is_some (whole_number x)) (is_some (number_up_to 16000 w)) h k
one_more_begun a_seed_and_size (x ∷ y ∷ xs) w h k = cc

-- each of the operands may follow those before it
pub may_follow : (s : Shape) (ws : List Word) (w : Word) (rest : List Word) → fit s (ws ++ (w ∷ rest)) ≡ true → extends s ws w ≡ true
may_follow a_script [] w rest h = h
may_follow a_script (x ∷ xs) w rest h = refl
may_follow any_names ws w rest h = next_passes is_name ws w rest h
may_follow nothing [] w rest h = h
may_follow nothing (x ∷ xs) w rest h = h
may_follow a_name [] w [] h = h
may_follow a_name [] w (r ∷ rs) h = cc
may_follow a_name (x ∷ []) w rest h = h
may_follow a_name (x ∷ y ∷ xs) w rest h = h
may_follow two_names [] w [] h = cc
may_follow two_names [] w (r ∷ []) h = first_true (is_name w) (is_name r) h
may_follow two_names [] w (r ∷ t ∷ rs) h = cc
may_follow two_names (x ∷ []) w [] h = second_true (is_name x) (is_name w) h
may_follow two_names (x ∷ []) w (r ∷ rs) h = cc
may_follow two_names (x ∷ y ∷ []) w rest h = h
may_follow two_names (x ∷ y ∷ z ∷ xs) w rest h = h
may_follow a_seed_and_size [] w [] h = cc
may_follow a_seed_and_size [] w (r ∷ []) h = first_true (is_some (whole_number w)) (is_some (number_up_to 16000 r)) h
may_follow a_seed_and_size [] w (r ∷ t ∷ rs) h = cc
may_follow a_seed_and_size (x ∷ []) w [] h = second_true (is_some (whole_number x)) (is_some (number_up_to 16000 w)) h
may_follow a_seed_and_size (x ∷ []) w (r ∷ rs) h = cc
may_follow a_seed_and_size (x ∷ y ∷ []) w rest h = h
may_follow a_seed_and_size (x ∷ y ∷ z ∷ xs) w rest h = h

-- a number doesn't begin with `-`
digit_begins : (b : ℕ) → is_digit b ≡ true → (b == 45) ≡ false
digit_begins b h =
    let within : nat_le 48 b ≡ true = first_true (nat_le 48 b) (nat_le b 57) h in
    grind (arith, nat_tests)

number_begins : (w : Word) (n : ℕ) → whole_number w ≡ Some n → begins_option w ≡ false
number_begins [] n h = refl
number_begins (b ∷ bs) n h =
    let digits : Bool = is_digit b && list_all is_digit bs in
    let passed = (cond_some (nat_le 1 (length (b ∷ bs)) && (nat_le (length (b ∷ bs)) 10 && digits)) (digits_value 10 (b ∷ bs)) n h).0 in
    let all = second_true (nat_le (length (b ∷ bs)) 10) digits (second_true (nat_le 1 (length (b ∷ bs))) (nat_le (length (b ∷ bs)) 10 && digits) passed) in
    digit_begins b (first_true (is_digit b) (list_all is_digit bs) all)

-- the first of the operands is no option
name_alone : (s : Shape) (w : Word) → extends s [] w ≡ true → begins_option w ≡ false
name_alone a_script w h = not-true (begins_option w) h
name_alone any_names w h = not-true (begins_option w) h
name_alone nothing w h = cc
name_alone a_name w h = not-true (begins_option w) h
name_alone two_names w h = not-true (begins_option w) h
name_alone a_seed_and_size w h = let n = there (whole_number w) h in number_begins w n.0 n.1

pub first_is_name : (s : Shape) (w : Word) (rest : List Word) → fit s (w ∷ rest) ≡ true → begins_option w ≡ false
first_is_name s w rest h = name_alone s w (may_follow s [] w rest h)

-- what completes operands
abbrev pub completing : Shape → List Word → List Word
completing a_script [] = (97 ∷ []) ∷ []
completing a_script (w ∷ ws) = []
completing any_names ws = []
completing nothing ws = []
completing a_name [] = (97 ∷ []) ∷ []
completing a_name (w ∷ ws) = []
completing two_names [] = (97 ∷ []) ∷ (97 ∷ []) ∷ []
completing two_names (w ∷ []) = (97 ∷ []) ∷ []
completing two_names (w ∷ x ∷ ws) = []
completing a_seed_and_size [] = (48 ∷ []) ∷ (48 ∷ []) ∷ []
completing a_seed_and_size (w ∷ []) = (48 ∷ []) ∷ []
completing a_seed_and_size (w ∷ x ∷ ws) = []

pub completed : (s : Shape) (ws : List Word) → begun_so s ws ≡ true → fit s (ws ++ completing s ws) ≡ true
completed a_script [] h = refl
completed a_script (w ∷ ws) h = h
completed any_names ws h = subst (λ (x : List Word). are_names x ≡ true) (sym (append-nil ws)) h
completed nothing ws h = subst (λ (x : List Word). are_none x ≡ true) (sym (append-nil ws)) h
completed a_name [] h = refl
completed a_name (w ∷ ws) h = subst (λ (x : List Word). are_one x ≡ true) (sym (append-nil (w ∷ ws))) h
completed two_names [] h = refl
completed two_names (w ∷ []) h = both_true (is_name w) true h refl
completed two_names (w ∷ x ∷ ws) h = subst (λ (y : List Word). are_two y ≡ true) (sym (append-nil (w ∷ x ∷ ws))) h
completed a_seed_and_size [] h = refl
completed a_seed_and_size (w ∷ []) h = both_true (is_some (whole_number w)) true h refl
completed a_seed_and_size (w ∷ x ∷ ws) h = subst (λ (y : List Word). are_seed_and_size y ≡ true) (sym (append-nil (w ∷ x ∷ ws))) h
