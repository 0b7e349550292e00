-- The local names of functions, and whether two have the same.
use Rattle.std.proofs.Common.{◌≡◌, ℕ, zero, suc, ◌+◌, Bool, true, false, not, ◌&&◌, ◌||◌, List, [], ◌∷◌, ◌++◌, if◌then◌else◌, drop, Some, refl, ap, sym, ◌∙◌, add-one}
use Rattle.std.proofs.lemmas.Bool.{false≢true}
use Rattle.std.proofs.lemmas.List.Folds.{list_any-append}
use Rattle.std.proofs.lemmas.Slice.Eq.{bytes_eq-Decides}
use Rattle.std.specs.Prelude.{slice_get}
use Rattle.std.specs.Str.{bytes_eq}
use Rattle.py_syntax.specs.Names.{Binding, is_among, add_name, add_names, distinct, assigned_in, declared_in, bindings, local_names}
use Rattle.py_syntax.specs.Tree.{Text, Stmts}
use Rattle.py_changes.specs.Changed.{are_among, same_names}
use Rattle.cov_changed.proofs.Words.{and_false}
use Rattle.cov_changed.specs.Local.{undeclared, AreLocal}

-- ---- names among others

or_false : (p : Bool) → (p || false) ≡ p
or_false true = refl
or_false false = refl

or_assoc : (p q r : Bool) → ((p || q) || r) ≡ (p || (q || r))
or_assoc true q r = refl
or_assoc false q r = refl

absorbed : (p q : Bool) → (q ≡ true → p ≡ true) → (p || q) ≡ p
absorbed true q h = refl
absorbed false true h = sym (h refl)
absorbed false false h = refl

among-added : (xs : List Text) (y x : Text) (b : Bool) → is_among xs y ≡ b → is_among (if b then xs else (xs ++ y ∷ [])) x ≡ (is_among xs x || bytes_eq x y)
among-added xs y x true e = sym (absorbed (is_among xs x) (bytes_eq x y) (λ t. ap (is_among xs) ((bytes_eq-Decides x y).0 t) ∙ e))
among-added xs y x false e = list_any-append (bytes_eq x) xs (y ∷ []) ∙ ap (λ q. is_among xs x || q) (or_false (bytes_eq x y))

among-add_names : (xs ys : List Text) (x : Text) → is_among (add_names xs ys) x ≡ (is_among xs x || is_among ys x)
among-add_names xs [] x = sym (or_false (is_among xs x))
among-add_names xs (y ∷ ys) x =
    among-add_names (add_name xs y) ys x ∙ ap (λ p. p || is_among ys x) (among-added xs y x (is_among xs y) refl)
    ∙ or_assoc (is_among xs x) (bytes_eq x y) (is_among ys x)

among-distinct : (xs : List Text) (x : Text) → is_among (distinct xs) x ≡ is_among xs x
among-distinct xs x = among-add_names [] xs x

-- those of them that aren't declared
among-undeclared : (declared xs : List Text) (x : Text) → is_among (undeclared declared xs) x ≡ (is_among xs x && not (is_among declared x))
among-undeclared declared [] x = refl
among-undeclared declared (y ∷ ys) x = by_case (is_among declared y) (bytes_eq x y) refl refl (among-undeclared declared ys x) where
  by_case : (d b : Bool) → is_among declared y ≡ d → bytes_eq x y ≡ b → is_among (undeclared declared ys) x ≡ (is_among ys x && not (is_among declared x))
      → is_among (if not d then y ∷ undeclared declared ys else undeclared declared ys) x ≡ ((b || is_among ys x) && not (is_among declared x))
  by_case true true e f h =
      h ∙ ap (λ t. is_among ys x && not t) (ap (is_among declared) ((bytes_eq-Decides x y).0 f) ∙ e)
      ∙ and_false (is_among ys x) ∙ sym (ap not (ap (is_among declared) ((bytes_eq-Decides x y).0 f) ∙ e))
  by_case true false e f h = h
  by_case false true e f h =
      ap (λ t. t || is_among (undeclared declared ys) x) f ∙ sym (ap not (ap (is_among declared) ((bytes_eq-Decides x y).0 f) ∙ e))
  by_case false false e f h = ap (λ t. t || is_among (undeclared declared ys) x) f ∙ h

-- ---- local names

either-and : (a b n : Bool) → ((a && n) || (b && n)) ≡ ((a || b) && n)
either-and true true true = refl
either-and true true false = refl
either-and true false true = refl
either-and true false false = refl
either-and false b n = refl

-- names that are gathered, first parameters and then those that are assigned
pub are_local : (params : List Text) (bs : List Binding) (none declared some all : List Text) → none ≡ [] → declared ≡ distinct (declared_in bs)
    → some ≡ add_names none (undeclared declared params) → all ≡ add_names some (undeclared declared (assigned_in bs)) → AreLocal all params bs
are_local params bs none declared some all z d e f x =
    let n = not (is_among declared x) in
    ap (λ l. is_among l x) f
    ∙ among-add_names some (undeclared declared (assigned_in bs)) x
    ∙ ap (λ l. is_among l x || is_among (undeclared declared (assigned_in bs)) x) e
    ∙ ap (λ t. t || is_among (undeclared declared (assigned_in bs)) x) (ap (λ l. is_among (add_names l (undeclared declared params)) x) z ∙ among-add_names [] (undeclared declared params) x ∙ among-undeclared declared params x)
    ∙ ap (λ t. (is_among params x && n) || t) (among-undeclared declared (assigned_in bs) x)
    ∙ either-and (is_among params x) (is_among (assigned_in bs) x) n
    ∙ ap (λ t. t && n) (sym (list_any-append (bytes_eq x) params (assigned_in bs)))
    ∙ ap (λ t. is_among (params ++ assigned_in bs) x && not t) (ap (λ l. is_among l x) d ∙ among-distinct (declared_in bs) x)

-- the local names themselves
locals-are : (params : List Text) (b : Stmts) → AreLocal (local_names params b) params (bindings b)
locals-are params b x =
    among-undeclared (declared_in (bindings b)) (distinct (params ++ assigned_in (bindings b))) x
    ∙ ap (λ t. t && not (is_among (declared_in (bindings b)) x)) (among-distinct (params ++ assigned_in (bindings b)) x)

-- ---- the same names

-- a name that is among those that are all among others
holds-of : (xs ys : List Text) (x : Text) → are_among xs ys ≡ true → is_among xs x ≡ true → is_among ys x ≡ true
holds-of [] ys x h k = absurd (false≢true k)
holds-of (y ∷ xs) ys x h k = by_case (bytes_eq x y) (is_among ys y) refl refl h k (holds-of xs ys x) where
  by_case : (b d : Bool) → bytes_eq x y ≡ b → is_among ys y ≡ d → (d && are_among xs ys) ≡ true → (b || is_among xs x) ≡ true → (are_among xs ys ≡ true → is_among xs x ≡ true → is_among ys x ≡ true) → is_among ys x ≡ true
  by_case true true e f h k rest = ap (is_among ys) ((bytes_eq-Decides x y).0 e) ∙ f
  by_case false true e f h k rest = rest h k
  by_case true false e f h k rest = absurd (false≢true h)
  by_case false false e f h k rest = absurd (false≢true h)

itself : (x : Text) → bytes_eq x x ≡ true
itself x = (bytes_eq-Decides x x).1 refl

all-among : (xs ys : List Text) → ((x : Text) → is_among xs x ≡ true → is_among ys x ≡ true) → are_among xs ys ≡ true
all-among [] ys h = refl
all-among (y ∷ xs) ys h =
    ap (λ t. t && are_among xs ys) (h y (ap (λ t. t || is_among xs y) (itself y)))
    ∙ all-among xs ys (λ x e. h x (ap (λ t. bytes_eq x y || t) e ∙ or_true (bytes_eq x y))) where
      or_true : (p : Bool) → (p || true) ≡ true
      or_true true = refl
      or_true false = refl

-- two answers of one meaning
same_answer : (a b : Bool) → (a ≡ true → b ≡ true) → (b ≡ true → a ≡ true) → a ≡ b
same_answer true b f g = sym (f refl)
same_answer false true f g = g refl
same_answer false false f g = refl

among-alike : (xs us ys vs : List Text) → ((x : Text) → is_among xs x ≡ is_among us x) → ((x : Text) → is_among ys x ≡ is_among vs x) → are_among xs ys ≡ are_among us vs
among-alike xs us ys vs e f =
    same_answer (are_among xs ys) (are_among us vs)
    (λ h. all-among us vs (λ x k. sym (f x) ∙ holds-of xs ys x h (e x ∙ k)))
    (λ h. all-among xs ys (λ x k. f x ∙ holds-of us vs x h (sym (e x) ∙ k)))

-- two functions, by names that stand for their local ones
pub same_locals : (ns ms params others : List Text) (a b : Stmts) → AreLocal ns params (bindings a) → AreLocal ms others (bindings b) → same_names ns ms ≡ same_names (local_names params a) (local_names others b)
same_locals ns ms params others a b h k =
    let e : (x : Text) → is_among ns x ≡ is_among (local_names params a) x = λ x. h x ∙ sym (locals-are params a x) in
    let f : (x : Text) → is_among ms x ≡ is_among (local_names others b) x = λ x. k x ∙ sym (locals-are others b x) in
    ap (λ t. t && are_among ms ns) (among-alike ns (local_names params a) ms (local_names others b) e f)
    ∙ ap (λ t. are_among (local_names params a) (local_names others b) && t) (among-alike ms (local_names others b) ns (local_names params a) f e)

-- ---- a loop over names

at_name : (names others : List Text) (i : ℕ) (x : Text) → slice_get names i ≡ Some x → are_among (drop i names) others ≡ (is_among others x && are_among (drop (suc i) names) others)
at_name [] others i x e = cc
at_name (y ∷ names) others zero x e = ap (λ z. is_among others z && are_among names others) (cc)
at_name (y ∷ names) others (suc i) x e = at_name names others i x e

pub lacks_one : (names others : List Text) (i : ℕ) (x : Text) (b : Bool) → slice_get names i ≡ Some x → b ≡ is_among others x → b ≡ false → are_among (drop i names) others ≡ are_among names others → false ≡ are_among names others
lacks_one names others i x b e f g h = sym (ap (λ t. t && are_among (drop (suc i) names) others) (sym f ∙ g)) ∙ sym (at_name names others i x e) ∙ h

pub has_one : (names others : List Text) (i : ℕ) (x : Text) (b : Bool) → slice_get names i ≡ Some x → b ≡ is_among others x → b ≡ true → are_among (drop i names) others ≡ are_among names others → are_among (drop (i + 1) names) others ≡ are_among names others
has_one names others i x b e f g h =
    ap (λ k. are_among (drop k names) others) (add-one i) ∙ sym (ap (λ t. t && are_among (drop (suc i) names) others) (sym f ∙ g)) ∙ sym (at_name names others i x e) ∙ h
