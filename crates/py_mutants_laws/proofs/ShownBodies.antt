-- What changes in a body without `def`s is seen in the function that has it.
--     Plain, ArePlain           functions whose `if`s have tests, and in which no `def` stands
use Rattle.std.proofs.Common.{◌≡◌, ℕ, Bool, true, false, ◌&&◌, if◌then◌else◌, IsTrue, List, [], ◌∷◌, refl, sym, subst, ◌⊎◌, inl, inr}
use Rattle.std.specs.List.{AllByRecursion}
use Rattle.py_text.proofs.TestLaws.{both_true}
use Rattle.py_syntax.specs.Functions.{Function, defining, is_docstring, without_docstring}
use Rattle.py_syntax.specs.Gathering.{gather}
use Rattle.py_syntax.specs.Marks.{body_marks}
use Rattle.py_syntax.specs.Names.{local_names}
use Rattle.py_syntax.specs.Tree.{Text, Stmts, no_stmts, stmt, StmtKind, expr}
use Rattle.py_changes.specs.Same.{same_bool, same_expr}
use Rattle.py_changes.specs.Changed.{Lines, same_heads, has_docstring, where_not, changed_each, changed_kind, changed_body, changed_functions, same_names}
use Rattle.py_changes.specs.Regular.{all_statements}
use Rattle.py_changes.proofs.Compared.{way}
use Rattle.py_changes.proofs.SameItself.{expr-self}
use Rattle.py_mutants_laws.proofs.SameEqual.{bool-self, equal-same, no-true}
use Rattle.py_mutants_laws.proofs.Versions.{Rows, Kinds}
use Rattle.py_mutants_laws.proofs.Agreeing.{kinds-agree, heads-agree}
use Rattle.py_mutants_laws.proofs.Fitting.{HaveTests}
use Rattle.py_mutants_laws.proofs.Modules.{docstrings-agree, locals-same, names-self}
use Rattle.py_mutants_laws.proofs.Some.{IsSome, some-left, some-either, parts-some}

-- a function whose `if`s have tests, and in which no `def` stands
pub record Plain (f : Function) : Type 0 where
  pub tests : HaveTests (gather all_statements f.body)
  pub inner : gather defining f.body ≡ []

-- each of these functions is
abbrev pub ArePlain : List Function → Type 0
ArePlain fs = AllByRecursion Plain fs

pub none-plain : (fs : List Function) → fs ≡ [] → ArePlain fs
none-plain fs e = subst ArePlain (sym e) tt

where-quiet : (x : Bool) (lines : Lines) → IsTrue x → (where_not x lines).0 ≡ []
where-quiet true lines h = refl
where-quiet false lines h = no-true h

-- a docstring doesn't change
docstring-quiet : (l f : ℕ) (k j : StmtKind) → Kinds l f k j → is_docstring k ≡ true
    → (changed_kind f k j).0 ≡ []
docstring-quiet l f (expr e) (expr d) (inl p) i =
    where-quiet (same_expr e d) (f ∷ [], f ∷ []) (equal-same same_expr expr-self e d p)
docstring-quiet l f (expr e) (expr d) (inr q) i = let old = q.1.names.old in absurd cc
docstring-quiet l f (expr e) j h i = absurd h
docstring-quiet l f k j h i = no-true i

led-some : (l : ℕ) (a b : Stmts) → Rows l a b → IsSome (changed_each a b).0
    → IsSome (changed_each (without_docstring a) (without_docstring b)).0
led-some l no_stmts no_stmts h x = x
led-some l (stmt f a k e r) (stmt g b j y s) h x =
    go (is_docstring k) (is_docstring j) refl (kinds-agree l f k j h.1).1
  where
    go : (v w : Bool) → is_docstring k ≡ v → v ≡ w
        → IsSome (changed_each (if v then r else stmt f a k e r)
        (if w then s else stmt g b j y s)).0
    go false false i p = x
    go true true i p =
        way (some-either (changed_kind f k j).0 (changed_each r s).0 x)
        (λ z. no-true (sym (subst (λ ls. IsSome ls) (docstring-quiet l f k j h.1 i) z))) (λ z. z)
    go true false i p = absurd cc
    go false true i p = absurd cc
led-some l a b h x = absurd h

pub body-some : (l : ℕ) (a b : Stmts) → Rows l a b → IsSome (changed_each a b).0
    → IsSome (changed_body a b).0
body-some l a b h x =
    parts-some (same_heads a b && same_bool (has_docstring a) (has_docstring b))
    (changed_each (without_docstring a) (without_docstring b)) (body_marks a, body_marks b)
    (both_true (same_heads a b) (same_bool (has_docstring a) (has_docstring b))
    (heads-agree l a b h)
    (equal-same same_bool bool-self (has_docstring a) (has_docstring b)
    (docstrings-agree l a b h)))
    (led-some l a b h x)

pub body-shown : (l m : ℕ) (x : Text) (ps : List Text) (b d : Stmts) → Rows l b d
    → Plain (record { line = m; name = x; params = ps; body = b })
    → IsSome (changed_each b d).0 ⊎ IsSome (changed_functions (gather defining b)
    (gather defining d)).0
    → IsSome (changed_functions (record { line = m; name = x; params = ps; body = b } ∷ [])
    (record { line = m; name = x; params = ps; body = d } ∷ [])).0
body-shown l m x ps b d h p shows =
    way shows
    (λ some. some-left _ _ (some-left _ _
    (parts-some (same_names (local_names ps b) (local_names ps d)) (changed_body b d)
    (body_marks b, body_marks d)
    (equal-same same_names names-self (local_names ps b) (local_names ps d)
    (locals-same l ps ps b d refl h)) (body-some l b d h some))))
    (λ some. no-true (sym
    (subst (λ fs. IsSome (changed_functions fs (gather defining d)).0) p.inner some)))
