-- Lists of lines that aren't empty, and what differs.
use Rattle.std.proofs.Common.{◌≡◌, ℕ, nat_eq, Bool, true, false, ◌&&◌, IsTrue, List, [], ◌∷◌, ◌++◌, Option, Some, None, refl, ◌⊎◌, inl, inr}
use Rattle.py_operator.specs.declared.operator.BinOp.{BinOp}
use Rattle.py_operator.specs.declared.operator.BinOp.TheVariants.{Add, Sub, Mul, Floor, Mod}
use Rattle.py_syntax.specs.Functions.{Function}
use Rattle.py_syntax.specs.Tree.{Expr}
use Rattle.py_changes.specs.Same.{same_operator, same_expr, same_maybe}
use Rattle.py_changes.specs.Changed.{Lines, is_empty, where_not, by_parts, changed_header, changed_function, changed_functions}
use Rattle.py_changes.specs.Mutants.{other_operator, expr_mutants, maybe_mutants, Mutants}
use Rattle.py_changes.proofs.MutantLaws.{Each, each-mapped, expr-differs}
use Rattle.py_changes.proofs.SameLaws.{no}
use Rattle.py_mutants_laws.proofs.Functions.{FunctionsOf}
use Rattle.py_mutants_laws.proofs.Mutants.{Marks}

-- there is a line
abbrev pub IsSome : List ℕ → Type 0
IsSome ls = is_empty ls ≡ false

pub some-left : (xs ys : List ℕ) → IsSome xs → IsSome (xs ++ ys)
some-left [] ys h = absurd cc
some-left (x ∷ xs) ys h = refl

pub some-right : (xs ys : List ℕ) → IsSome ys → IsSome (xs ++ ys)
some-right [] ys h = h
some-right (x ∷ xs) ys h = refl

pub some-either : (xs ys : List ℕ) → IsSome (xs ++ ys) → IsSome xs ⊎ IsSome ys
some-either [] ys h = inr h
some-either (x ∷ xs) ys h = inl refl

pub parts-some : (x : Bool) (parts whole : Lines) → IsTrue x → IsSome parts.0
    → IsSome (by_parts x parts whole).0
parts-some true parts whole x h = h
parts-some false parts whole x h = no x

pub where-some : (x : Bool) (lines : Lines) → x ≡ false → IsSome lines.0
    → IsSome (where_not x lines).0
where-some true lines e h = absurd cc
where-some false lines e h = h

pub left-false : (a b : Bool) → a ≡ false → (a && b) ≡ false
left-false true b h = absurd cc
left-false false b h = refl

pub right-false : (a b : Bool) → b ≡ false → (a && b) ≡ false
right-false true b h = h
right-false false b h = refl

pub header-some : (same : Bool) (m n : ℕ) → same ≡ false → IsSome (changed_header same m n).0
header-some same m n h =
    where-some (nat_eq m n && same) (m ∷ [], n ∷ []) (right-false (nat_eq m n) same h) refl

-- ---- functions

pub functions-left : (fs gs hs ks : List Function) → IsSome (changed_functions fs gs).0
    → IsSome (changed_functions (fs ++ hs) (gs ++ ks)).0
functions-left [] gs hs ks h = absurd cc
functions-left (f ∷ fs) [] hs ks h = absurd cc
functions-left (f ∷ fs) (g ∷ gs) hs ks h =
    go (some-either (changed_function f g).0 (changed_functions fs gs).0 h)
    (λ x. functions-left fs gs hs ks x)
  where
    go : IsSome (changed_function f g).0 ⊎ IsSome (changed_functions fs gs).0
        → (IsSome (changed_functions fs gs).0 → IsSome
        (changed_functions (fs ++ hs) (gs ++ ks)).0)
        → IsSome (changed_functions (f ∷ fs ++ hs) (g ∷ gs ++ ks)).0
    go (inl x) rest = some-left (changed_function f g).0 _ x
    go (inr x) rest = some-right (changed_function f g).0 _ (rest x)

pub functions-right : (l : ℕ) (fs gs hs ks : List Function) → FunctionsOf l fs gs
    → IsSome (changed_functions hs ks).0 → IsSome (changed_functions (fs ++ hs) (gs ++ ks)).0
functions-right l [] [] hs ks p h = h
functions-right l (f ∷ fs) (g ∷ gs) hs ks p h =
    some-right (changed_function f g).0 _ (functions-right l fs gs hs ks p.1 h)
functions-right l fs gs hs ks p h = absurd p

-- ---- what differs

pub operator-differs : (op : BinOp) → same_operator op (other_operator op) ≡ false
operator-differs Add = refl
operator-differs Sub = refl
operator-differs Mul = refl
operator-differs Floor = refl
operator-differs Mod = refl

pub maybe-differs : (e : Option Expr) → Each (λ w. same_maybe e w ≡ false) (maybe_mutants e)
maybe-differs None = tt
maybe-differs (Some e) =
    each-mapped (λ w. same_maybe (Some e) w ≡ false) (λ x. Some x) (λ x. same_expr e x ≡ false)
    (λ x h. h) (expr_mutants e) (expr-differs e)

-- ---- what holds of all mutants

pub marks-both : {A : Type 0} (P Q : ℕ → A → Type 0) (xs : Mutants A) → Marks P xs → Marks Q xs
    → Marks (λ l x. P l x × Q l x) xs
marks-both P Q [] h k = tt
marks-both P Q (x ∷ xs) h k = ((h.0, k.0), marks-both P Q xs h.1 k.1)
