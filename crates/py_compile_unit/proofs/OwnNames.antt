-- The local names of a function stand once each, so that a list that keeps each name once has them as they are.
use Rattle.std.proofs.Common.{◌≡◌, ℕ, ◌+◌, ◌<◌, drop, length, get_or, List, [], ◌∷◌, ◌++◌, filter, Bool, true, false, not, ◌||◌, if◌then◌else◌, refl, sym, ap, ◌∙◌}
use Rattle.std.specs.List.{position_or_len}
use Rattle.std.specs.Str.{bytes_eq}
use Rattle.std.proofs.lemmas.List.{map-id}
use Rattle.std.proofs.lemmas.Slice.Eq.{bytes_eq-Decides}
use Rattle.py_text.specs.Comparison.{is_same_text}
use Rattle.py_text.proofs.SameTexts.{same_answer, same_text, same_text_from, text_is_same}
use Rattle.py_syntax.specs.Names.{is_among, add_name, add_names, distinct, assigned_names, declared_names, local_names}
use Rattle.py_syntax.specs.Tree.{Text, Stmts}
use Rattle.py_compile_expr.specs.Cells.{place_in, add_new}
use Rattle.py_compile_expr.proofs.NumberLaws.{place-shown, added-shown}
use Rattle.py_compile_expr.proofs.Turns.{the_drop}
use Rattle.py_compile_unit.proofs.Numbers.{place_new}

-- ---- a name that is added where it is new

-- texts are the same where their characters are
pub text_test : (a b : Text) → is_same_text a b ≡ bytes_eq a b
text_test a b = same_answer _ _ (a ≡ b) (same_text a b) (same_text_from a b) (bytes_eq-Decides a b).0 (bytes_eq-Decides a b).1

pub new_is : (xs : List Text) (x : Text) → add_new is_same_text xs x ≡ add_name xs x
new_is xs x = ap (λ ys. add_new is_same_text ys x) (sym (map-id xs)) ∙ added-shown is_same_text bytes_eq (λ n. n) text_test xs x ∙ map-id (add_name xs x)

-- the place of a name that was put into a set
pub placed : (xs ys : List Text) (x : Text) (n : ℕ) → n ≡ position_or_len (bytes_eq x) xs → ys ≡ add_name xs x → n ≡ place_in is_same_text ys x
placed xs ys x n at e =
    at ∙ sym (place-shown is_same_text bytes_eq (λ t. t) text_test xs x) ∙ ap (λ zs. place_in is_same_text zs x) (map-id xs)
    ∙ place_new is_same_text x (text_is_same x) xs ∙ ap (λ zs. place_in is_same_text zs x) (new_is xs x ∙ sym e)

-- a turn of a loop that adds the names of a list
pub name_turn : (xs : List Text) (i : ℕ) (x : Text) (now next w : List Text) → i < length xs → x ≡ get_or xs i x → next ≡ add_new is_same_text now x
    → add_names now (drop i xs) ≡ w → add_names next (drop (i + 1) xs) ≡ w
name_turn xs i x now next w lt is e h =
    ap (λ k. add_names k (drop (i + 1) xs)) (e ∙ new_is now x) ∙ sym (ap (add_names now) (the_drop xs i x lt is)) ∙ h

-- ---- names that stand once each

in_turn : (xs ys zs : List Text) → add_names xs (ys ++ zs) ≡ add_names (add_names xs ys) zs
in_turn xs [] zs = refl
in_turn xs (y ∷ ys) zs = in_turn (add_name xs y) ys zs

one_more : (xs : List Text) (x : Text) → distinct xs ≡ xs → distinct (add_name xs x) ≡ add_name xs x
one_more xs x h = by_case (is_among xs x) refl
  where
    by_case : (b : Bool) → is_among xs x ≡ b → distinct (if b then xs else (xs ++ x ∷ [])) ≡ (if b then xs else (xs ++ x ∷ []))
    by_case true e = h
    by_case false e = in_turn [] xs (x ∷ []) ∙ ap (λ ys. add_name ys x) h ∙ ap (λ b. if b then xs else (xs ++ x ∷ [])) e

steady : (xs ys : List Text) → distinct xs ≡ xs → distinct (add_names xs ys) ≡ add_names xs ys
steady xs [] h = h
steady xs (y ∷ ys) h = steady (add_name xs y) ys (one_more xs y h)

-- ---- names that pass a test

module _ (p : Text → Bool) where
  passed : (b : Bool) (x : Text) (xs : List Text) → List Text
  passed b x xs = if b then x ∷ xs else xs

  filter_last : (xs : List Text) (x : Text) → filter p (xs ++ x ∷ []) ≡ filter p xs ++ (if p x then x ∷ [] else [])
  filter_last [] x = refl
  filter_last (y ∷ ys) x = by_case (p y) (filter_last ys x)
    where
      by_case : (b : Bool) → filter p (ys ++ x ∷ []) ≡ filter p ys ++ (if p x then x ∷ [] else [])
          → (if b then y ∷ filter p (ys ++ x ∷ []) else filter p (ys ++ x ∷ [])) ≡ (if b then y ∷ filter p ys else filter p ys) ++ (if p x then x ∷ [] else [])
      by_case true h = ap (λ zs. y ∷ zs) h
      by_case false h = h

  among_passed : (xs : List Text) (x : Text) → p x ≡ true → is_among (filter p xs) x ≡ is_among xs x
  among_passed [] x h = refl
  among_passed (y ∷ ys) x h = by_case (p y) refl (bytes_eq x y) refl (among_passed ys x h)
    where
      by_case : (b : Bool) → p y ≡ b → (c : Bool) → bytes_eq x y ≡ c → is_among (filter p ys) x ≡ is_among ys x
          → is_among (if b then y ∷ filter p ys else filter p ys) x ≡ (bytes_eq x y || is_among ys x)
      by_case true e c f k = ap (λ d. bytes_eq x y || d) k
      by_case false e true f k = absurd (let same = ap p ((bytes_eq-Decides x y).0 f) in let both = sym h ∙ same ∙ e in cc)
      by_case false e false f k = k ∙ sym (ap (λ d. d || is_among ys x) f)

  append_none : (xs : List Text) → xs ++ [] ≡ xs
  append_none [] = refl
  append_none (x ∷ xs) = ap (λ ys. x ∷ ys) (append_none xs)

  filter_added : (xs ys : List Text) → filter p (add_names xs ys) ≡ add_names (filter p xs) (filter p ys)
  filter_added xs [] = refl
  filter_added xs (y ∷ ys) = filter_added (add_name xs y) ys ∙ by_case (p y) refl
    where
      of_name : (b : Bool) → is_among xs y ≡ b → p y ≡ true → filter p (if b then xs else (xs ++ y ∷ [])) ≡ (if b then filter p xs else (filter p xs ++ y ∷ []))
      of_name true e h = refl
      of_name false e h = filter_last xs y ∙ ap (λ d. filter p xs ++ (if d then y ∷ [] else [])) h

      skipped : (b : Bool) → p y ≡ false → filter p (if b then xs else (xs ++ y ∷ [])) ≡ filter p xs
      skipped true h = refl
      skipped false h = filter_last xs y ∙ ap (λ d. filter p xs ++ (if d then y ∷ [] else [])) h ∙ append_none (filter p xs)

      by_case : (b : Bool) → p y ≡ b → add_names (filter p (add_name xs y)) (filter p ys) ≡ add_names (filter p xs) (if b then y ∷ filter p ys else filter p ys)
      by_case true h =
          ap (λ zs. add_names zs (filter p ys))
          (of_name (is_among xs y) refl h ∙ ap (λ d. if d then filter p xs else (filter p xs ++ y ∷ [])) (sym (among_passed xs y h)))
      by_case false h = ap (λ zs. add_names zs (filter p ys)) (skipped (is_among xs y) h)

  once_each : (xs : List Text) → distinct (filter p (distinct xs)) ≡ filter p (distinct xs)
  once_each xs = ap distinct (filter_added [] xs) ∙ steady [] (filter p xs) refl ∙ sym (filter_added [] xs)

pub own_names : (params : List Text) (b : Stmts) → distinct (local_names params b) ≡ local_names params b
own_names params b = once_each (λ x. not (is_among (declared_names b) x)) (params ++ assigned_names b)

-- a name that is there isn't added
pub no_more : (xs : List Text) (x : Text) → is_among xs x ≡ true → add_new is_same_text xs x ≡ xs
no_more xs x e = new_is xs x ∙ ap (λ b. if b then xs else (xs ++ x ∷ [])) e
