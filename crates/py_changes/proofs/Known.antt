-- What is known of functions: the `def`s of their module agree in both versions, and so do bodies
-- that mark nothing.
--     Known                   a function of which that holds
--     Versions                what is asked of two versions of a module
--     pairs, made-at          functions by their numbers, and by the lines of their `def`s
use Rattle.std.proofs.Common.{◌≡◌, ℕ, zero, suc, nat_eq, Bool, true, false, ◌&&◌, ◌||◌, IsTrue, List, [], ◌∷◌, Option, Some, None, refl, sym, ap, subst}
use Rattle.std.specs.Prelude.{if◌then◌else◌, slice_get}
use Rattle.std.specs.List.{AllByRecursion}
use Rattle.py_value.specs.declared.value.FuncId.{FuncId}
use Rattle.py_text.specs.Comparison.{is_same_text}
use Rattle.py_syntax.specs.Functions.{Function, functions, without_docstring}
use Rattle.py_syntax.specs.Marks.{body_marks}
use Rattle.py_syntax.specs.Names.{local_names}
use Rattle.py_syntax.specs.Tree.{Stmts}
use Rattle.py_meaning.specs.Modules.{LoadedModule, unit_at, body_of}
use Rattle.py_changes.specs.Same.{same_texts}
use Rattle.py_changes.specs.Changed.{where_not, fits_body, by_parts, changed_body, same_names, changed_function, changed_functions, same_def, same_defs, changed_module}
use Rattle.py_changes.proofs.SameLaws.{no, both, number-is, texts-is}
use Rattle.py_changes.proofs.Made.{BodyMade, Inside}
use Rattle.py_changes.specs.Regular.{begins_one}
use Rattle.py_changes.proofs.Compared.{Bad, bad-left, bad-right}

-- ---- what is known of functions: that the modules' `def`s agree, and that the bodies fit

-- two functions whose bodies fit
abbrev pub FitsPair : Option Function → Option Function → Type 0
FitsPair (Some f) (Some g) = IsTrue (fits_body f.body g.body)
FitsPair None o = ⊥
FitsPair (Some f) None = ⊥

-- the unit with a number is such a function of a module whose `def`s agree
abbrev pub IsKnown : List LoadedModule → List LoadedModule → ℕ → ℕ → Type 0
IsKnown old new m zero = ⊥
IsKnown old new m (suc k) =
    IsTrue (same_defs (functions (body_of old m)) (functions (body_of new m)))
    × FitsPair (slice_get (functions (body_of old m)) k) (slice_get (functions (body_of new m)) k)

-- of a function
abbrev pub Known : List LoadedModule → List LoadedModule → FuncId → Type 0
Known old new f = IsKnown old new f.module f.unit

-- ---- what is asked of two versions of a module

-- what holds of an old and a new version of a module
pub record Versions (Safe : ℕ → ℕ → Type 0) (m : ℕ) (a b : Stmts) : Type 0 where
  -- a module without a mark is the same
  pub fit : IsTrue (fits_body a b)
  -- no changed line is safe
  pub changes : Bad Safe m (changed_module a b).0
  -- the old text is made as texts are
  pub made : BodyMade (Inside a) (without_docstring a)
  pub functions_made : AllByRecursion (λ f. BodyMade (Inside a) (without_docstring f.body))
      (functions a)

-- ---- parts

-- what is shown of the functions with one number in both versions
abbrev pub PairOf : (ℕ → ℕ → Type 0) → ℕ → Stmts → Option Function → Option Function → Type 0
PairOf Safe m a None None = Unit {0}
PairOf Safe m a (Some f) (Some g) =
    (f.params ≡ g.params) × Bad Safe m (changed_function f g).0
    × BodyMade (Inside a) (without_docstring f.body)
PairOf Safe m a None (Some g) = ⊥
PairOf Safe m a (Some f) None = ⊥

params-same : (f g : Function) → IsTrue (same_def f g) → f.params ≡ g.params
params-same f g h =
    let t = both (nat_eq f.line g.line) (is_same_text f.name g.name && same_texts f.params g.params)
    h in
    texts-is f.params g.params
    (both (is_same_text f.name g.name) (same_texts f.params g.params) t.1).1

module _ (Safe : ℕ → ℕ → Type 0) (m : ℕ) where
  -- the functions with a number, where the `def`s agree
  pub pairs : (a : Stmts) (fs gs : List Function) → IsTrue (same_defs fs gs)
      → Bad Safe m (changed_functions fs gs).0
      → AllByRecursion (λ f. BodyMade (Inside a) (without_docstring f.body)) fs → (k : ℕ)
      → PairOf Safe m a (slice_get fs k) (slice_get gs k)
  pairs a [] [] h bad made k = tt
  pairs a (f ∷ fs) (g ∷ gs) h bad made zero = (
    params-same f g (both (same_def f g) (same_defs fs gs) h).0,
    bad-left Safe m
        (changed_function f g).0 (changed_functions fs gs).0 bad,
    made.0,
  )
  pairs a (f ∷ fs) (g ∷ gs) h bad made (suc k) =
      pairs a fs gs (both (same_def f g) (same_defs fs gs) h).1
      (bad-right Safe m (changed_function f g).0 (changed_functions fs gs).0 bad) made.1 k
  pairs a [] (g ∷ gs) h bad made k = no h
  pairs a (f ∷ fs) [] h bad made k = no h

  -- a `def` whose line is safe makes a function that is known
  abbrev pub MadeAt : ℕ → List Function → List Function → Type 0
  MadeAt l fs gs =
      (k : ℕ) × (unit_at l fs ≡ suc k) × (unit_at l gs ≡ suc k)
      × FitsPair (slice_get fs k) (slice_get gs k)

  fits-where-safe : (f g : Function) (l : ℕ) (x : Bool) → fits_body f.body g.body ≡ x → f.line ≡ l
      → Safe m l → Bad Safe m
      (where_not x (f.line ∷ body_marks f.body, g.line ∷ body_marks g.body)).0
      → IsTrue (fits_body f.body g.body)
  fits-where-safe f g l true e is safe bad = e
  fits-where-safe f g l false e is safe bad = absurd (bad.0 (subst (λ n. Safe m n) (sym is) safe))

  here-or-later : (l : ℕ) (f g : Function) (fs gs : List Function) (x : Bool) → nat_eq f.line l ≡ x
      → f.line ≡ g.line → Safe m l → Bad Safe m (changed_function f g).0
      → IsTrue (x || begins_one l fs) → (IsTrue (begins_one l fs) → MadeAt l fs gs)
      → (k : ℕ) × ((if x then 1 else suc (unit_at l fs)) ≡ suc k)
      × ((if nat_eq g.line l then 1 else suc (unit_at l gs)) ≡ suc k)
      × FitsPair (slice_get (f ∷ fs) k) (slice_get (g ∷ gs) k)
  here-or-later l f g fs gs true e is safe bad h later = (
    0,
    refl,
    subst (λ n. (if nat_eq n l then 1 else suc (unit_at l gs)) ≡ 1) is
        (subst (λ b. (if b then 1 else suc (unit_at l gs)) ≡ 1) (sym e) refl),
    fits-where-safe f g l (fits_body f.body g.body) refl (number-is f.line l e) safe
        (bad-right Safe m
        (by_parts (same_names (local_names f.params f.body) (local_names g.params g.body))
        (changed_body f.body g.body) (body_marks f.body, body_marks g.body)).0 _ bad),
  )
  here-or-later l f g fs gs false e is safe bad h later =
      let found = later h in (
        suc found.0,
        ap suc found.1,
        subst
            (λ n. (if nat_eq n l then 1 else suc (unit_at l gs)) ≡ suc (suc found.0)) is
            (subst (λ b. (if b then 1 else suc (unit_at l gs)) ≡ suc (suc found.0)) (sym e)
            (ap suc found.2)),
        found.3,
      )

  pub made-at : (l : ℕ) (fs gs : List Function) → IsTrue (same_defs fs gs)
      → Bad Safe m (changed_functions fs gs).0 → Safe m l → IsTrue (begins_one l fs)
      → MadeAt l fs gs
  unfolding unit_at
  made-at l [] [] h bad safe at = no at
  made-at l (f ∷ fs) (g ∷ gs) h bad safe at =
      let t = both (same_def f g) (same_defs fs gs) h in
      here-or-later l f g fs gs (nat_eq f.line l) refl
      (number-is f.line g.line
      (both (nat_eq f.line g.line) (is_same_text f.name g.name && same_texts f.params g.params)
      t.0).0) safe
      (bad-left Safe m (changed_function f g).0 (changed_functions fs gs).0 bad) at
      (λ later. made-at l fs gs t.1
      (bad-right Safe m (changed_function f g).0 (changed_functions fs gs).0 bad) safe later)
  made-at l [] (g ∷ gs) h bad safe at = no h
  made-at l (f ∷ fs) [] h bad safe at = no h
