-- Sets that are filled in a loop.
use Rattle.std.proofs.Common.{◌≡◌, ℕ, ◌+◌, ◌<◌, ◌≤◌, Bool, true, false, not, cond, ◌&&◌, ◌||◌, List, [], ◌∷◌, ◌++◌, String, Global, if◌then◌else◌, string_bytes, length, get_or, drop, map, filter, refl, ap, sym, ◌∙◌, append_assoc, Result, Ok, Err, IfOk}
use Rattle.std.proofs.Math.ListN.{drop_of_length-le}
use Rattle.std.proofs.lemmas.List.{append-nil}
use Rattle.std.specs.List.{list_any, list_all}
use Rattle.cov_changed.proofs.Pairs.{the_drop}

-- a new item, by its test
pub adds : (b old : Bool) → cond b true old ≡ (old || b)
adds true true = refl
adds true false = refl
adds false true = refl
adds false false = refl

or_assoc : (a y r : Bool) → ((a || y) || r) ≡ (a || (y || r))
or_assoc true y r = refl
or_assoc false y r = refl

or_false : (a : Bool) → (a || false) ≡ a
or_false true = refl
or_false false = refl

and_true : (a : Bool) → (a && true) ≡ a
and_true true = refl
and_true false = refl

-- ---- what is added of a list, item by item

pub any_on : {X : Type 0} (f : X → Bool) (xs : List X) (i : ℕ) (x : X) → i < length xs → x ≡ get_or xs i x → (old next all : Bool) → next ≡ (old || f x)
    → (old || list_any f (drop i xs)) ≡ all → (next || list_any f (drop (i + 1) xs)) ≡ all
any_on f xs i x lt is old next all e h =
    ap (λ b. b || list_any f (drop (i + 1) xs)) e ∙ or_assoc old (f x) (list_any f (drop (i + 1) xs))
    ∙ ap (λ l. old || list_any f l) (sym (the_drop xs i x lt is)) ∙ h

pub any_done : {X : Type 0} (f : X → Bool) (xs : List X) (i : ℕ) → length xs ≤ i → (now all : Bool) → (now || list_any f (drop i xs)) ≡ all → now ≡ all
any_done f xs i le now all h = sym (or_false now) ∙ ap (λ l. now || list_any f l) (sym (drop_of_length-le xs le)) ∙ h

-- each item has what all have in common
pub common : (p : Bool) (f : ℕ → Bool) (xs : List ℕ) → list_any (λ x. p && f x) xs ≡ (p && list_any f xs)
common true f [] = refl
common true f (x ∷ xs) = ap (λ b. f x || b) (common true f xs)
common false f [] = refl
common false f (x ∷ xs) = common false f xs

-- ---- tests that are kept

keeping : (k e a r : Bool) → (not (k || (e && not a)) && r) ≡ (not k && ((not e || a) && r))
keeping true e a r = refl
keeping false true true r = refl
keeping false true false r = refl
keeping false false a r = refl

pub kept_on : {X : Type 0} (f : X → Bool) (xs : List X) (i : ℕ) (x : X) → i < length xs → x ≡ get_or xs i x → (old next e a all : Bool) → f x ≡ (not e || a) → next ≡ (old || (e && not a))
    → (not old && list_all f (drop i xs)) ≡ all → (not next && list_all f (drop (i + 1) xs)) ≡ all
kept_on f xs i x lt is old next e a all g k h =
    ap (λ b. not b && list_all f (drop (i + 1) xs)) k ∙ keeping old e a (list_all f (drop (i + 1) xs))
    ∙ ap (λ b. not old && (b && list_all f (drop (i + 1) xs))) (sym g)
    ∙ ap (λ l. not old && list_all f l) (sym (the_drop xs i x lt is)) ∙ h

pub kept_done : {X : Type 0} (f : X → Bool) (xs : List X) (i : ℕ) → length xs ≤ i → (now all : Bool) → (not now && list_all f (drop i xs)) ≡ all → not now ≡ all
kept_done f xs i le now all h = sym (and_true (not now)) ∙ ap (λ l. not now && list_all f l) (sym (drop_of_length-le xs le)) ∙ h

-- ---- names that are taken

-- a name that is taken or left
pub takes : (p : List ℕ → Bool) (xs : List (String Global)) (i : ℕ) (x : String Global) → i < length xs → x ≡ get_or xs i x
    → (now more : List (List ℕ)) (again : Bool) (y : List ℕ) {all : List (List ℕ)} → again ≡ p y → y ≡ string_bytes x → more ≡ now ++ (if again then y ∷ [] else [])
    → now ++ filter p (map string_bytes (drop i xs)) ≡ all → more ++ filter p (map string_bytes (drop (i + 1) xs)) ≡ all
takes p xs i x lt is now more again y {all = all} e f g h =
    ap (λ l. l ++ filter p (map string_bytes (drop (i + 1) xs))) (g ∙ ap (λ b. now ++ (if b then y ∷ [] else [])) e ∙ ap (λ z. now ++ (if p z then z ∷ [] else [])) f)
    ∙ append_assoc now (if p (string_bytes x) then string_bytes x ∷ [] else []) (filter p (map string_bytes (drop (i + 1) xs)))
    ∙ ap (λ l. now ++ l) (one (p (string_bytes x)) refl ∙ ap (λ l. filter p (map string_bytes l)) (sym (the_drop xs i x lt is))) ∙ h where
      one : (b : Bool) → p (string_bytes x) ≡ b → (if p (string_bytes x) then string_bytes x ∷ [] else []) ++ filter p (map string_bytes (drop (i + 1) xs)) ≡ filter p (map string_bytes (x ∷ drop (i + 1) xs))
      one true q = rw q refl
      one false q = rw q refl

-- no name is left
pub taken : (p : List ℕ → Bool) (xs : List (String Global)) (i : ℕ) → length xs ≤ i → (now : List (List ℕ)) {all : List (List ℕ)} → now ++ filter p (map string_bytes (drop i xs)) ≡ all → now ≡ all
taken p xs i le now h = sym (append-nil now) ∙ ap (λ l. now ++ filter p (map string_bytes l)) (sym (drop_of_length-le xs le)) ∙ h

-- ---- a test that must run again isn't kept, and another is

pub kept_same : (k e a : Bool) → a ≡ true → k ≡ (k || (e && not a))
kept_same k e true h = sym (ap (λ b. k || b) (no e) ∙ or_false k) where
  no : (e : Bool) → (e && false) ≡ false
  no true = refl
  no false = refl
kept_same k e false h = absurd cc

pub kept_more : (k e a : Bool) → a ≡ false → (k || e) ≡ (k || (e && not a))
kept_more k e false h = ap (λ b. k || b) (sym (and_true e))
kept_more k e true h = absurd cc

-- what holds of a value where there is one
pub if_ok : {X E : Type 0} {P Q : X → Type 0} → ((x : X) → P x → Q x) → (r : Result X E) → IfOk r P → IfOk r Q
if_ok f (Ok x) h = f x h
if_ok f (Err e) h = h
