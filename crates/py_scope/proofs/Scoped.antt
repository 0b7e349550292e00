-- A name stands among others whether they are kept once each or as often as they occur.
use Rattle.std.proofs.Common.{◌≡◌, List, [], ◌∷◌, ◌++◌, Bool, true, false, not, ◌||◌, ◌&&◌, filter, refl, sym, ap, ◌∙◌, if◌then◌else◌}
use Rattle.std.proofs.lemmas.List.Folds.{list_any-append}
use Rattle.std.proofs.lemmas.Slice.Eq.{bytes_eq-Decides}
use Rattle.std.specs.Str.{bytes_eq}
use Rattle.py_syntax.specs.Tree.{Text, Stmts}
use Rattle.py_syntax.specs.Names.{is_among, add_name, add_names, distinct, assigned_names, declared_names, local_names, is_local as is_local_in}
use Rattle.py_scope.specs.Scopes.{Names, is_local, is_global, own_names}
use Rattle.py_scope.specs.Faults.{names_of}
use Rattle.py_scope.proofs.Gathering.{or_false}

absorbed : (p q : Bool) → (q ≡ true → p ≡ true) → (p || q) ≡ p
absorbed true q h = refl
absorbed false true h = sym (h refl)
absorbed false false h = refl

among_added : (xs : List Text) (y x : Text) (b : Bool) → is_among xs y ≡ b → is_among (if b then xs else (xs ++ y ∷ [])) x ≡ (is_among xs x || bytes_eq x y)
among_added xs y x true e = sym (absorbed (is_among xs x) (bytes_eq x y) (λ t. ap (is_among xs) ((bytes_eq-Decides x y).0 t) ∙ e))
among_added xs y x false e = list_any-append (bytes_eq x) xs (y ∷ []) ∙ ap (λ q. is_among xs x || q) (or_false (bytes_eq x y))

-- with one name more
pub among-add_name : (xs : List Text) (y x : Text) → is_among (add_name xs y) x ≡ (is_among xs x || bytes_eq x y)
among-add_name xs y x = among_added xs y x (is_among xs y) refl

or_assoc : (p q r : Bool) → ((p || q) || r) ≡ (p || (q || r))
or_assoc true q r = refl
or_assoc false q r = refl

among-add_names : (xs ys : List Text) (x : Text) → is_among (add_names xs ys) x ≡ (is_among xs x || is_among ys x)
among-add_names xs [] x = sym (or_false (is_among xs x))
among-add_names xs (y ∷ ys) x =
    among-add_names (add_name xs y) ys x ∙ ap (λ p. p || is_among ys x) (among-add_name xs y x)
    ∙ or_assoc (is_among xs x) (bytes_eq x y) (is_among ys x)

pub among-distinct : (xs : List Text) (x : Text) → is_among (distinct xs) x ≡ is_among xs x
among-distinct xs x = among-add_names [] xs x

-- a function with these parameters and this body
pub local_of : (n : Names) (params : List Text) (b : Stmts) (x : Text) → n ≡ names_of params b → is_local n x ≡ is_local_in params b x
local_of n params b x e =
    ap (λ (m : Names). is_local m x) e ∙ ap (λ p. p && not (is_among (distinct (declared_names b)) x)) (among-distinct (params ++ assigned_names b) x)
    ∙ ap (λ p. is_among (params ++ assigned_names b) x && not p) (among-distinct (declared_names b) x)

pub global_of : (n : Names) (params : List Text) (b : Stmts) (x : Text) → n ≡ names_of params b → is_global n x ≡ is_among (declared_names b) x
global_of n params b x e = ap (λ (m : Names). is_global m x) e ∙ among-distinct (declared_names b) x

alike : (p q : Text → Bool) → ((x : Text) → p x ≡ q x) → (xs : List Text) → filter p xs ≡ filter q xs
alike p q h [] = refl
alike p q h (x ∷ xs) = ap (λ b. if b then x ∷ filter p xs else filter p xs) (h x) ∙ ap (λ ys. if q x then x ∷ ys else ys) (alike p q h xs)

-- its local names
pub own_of : (n : Names) (params : List Text) (b : Stmts) → n ≡ names_of params b → own_names n ≡ local_names params b
own_of n params b e =
    ap own_names e
    ∙ alike (λ x. not (is_among (distinct (declared_names b)) x)) (λ x. not (is_among (declared_names b) x))
    (λ x. ap not (among-distinct (declared_names b) x)) (distinct (params ++ assigned_names b))
