-- Local slots of faithful code have names of their own.
use Rattle.std.proofs.Common.{◌≡◌, ℕ, zero, suc, List, [], ◌∷◌, ◌++◌, Option, Some, None, Bool, true, false, cond, refl, sym, ap, ◌∙◌, subst}
use Rattle.std.specs.Prelude.{not, ◌||◌, if◌then◌else◌, slice_get, bytes_eq, filter}
use Rattle.std.proofs.lemmas.Slice.Eq.{bytes_eq-Decides}
use Rattle.cov_event.specs.declared.event.CodeId.{CodeId}
use Rattle.py_syntax.specs.Functions.{Function, functions}
use Rattle.py_syntax.specs.Names.{is_among, add_name, add_names, assigned_names, declared_names, local_names}
use Rattle.py_syntax.specs.Tree.{Text, Stmts}
use Rattle.py_meaning.specs.Modules.{LoadedModule, body_of, function_in, function_found, function_or}
use Rattle.py_code.specs.Slots.{IsApart, IsDistinct, AreNamed}
use Rattle.py_code.specs.Units.{Code, Module, unit_at}
use Rattle.py_compile.specs.ProgramRuns.{AreFaithful, NoneAmong, HasOwnParameters, HaveOwnParameters, EachHasOwnParameters}
use Rattle.py_compile.proofs.CallRuns.{IsUnit, modules_pair}

append_none : (xs : List Text) → xs ++ [] ≡ xs
append_none [] = refl
append_none (x ∷ xs) = ap (λ ys. x ∷ ys) (append_none xs)

append_one : (xs : List Text) (y : Text) (zs : List Text) → (xs ++ y ∷ []) ++ zs ≡ xs ++ y ∷ zs
append_one [] y zs = refl
append_one (x ∷ xs) y zs = ap (λ ys. x ∷ ys) (append_one xs y zs)

-- ---- names that stand apart

among_apart : (xs : List Text) (x : Text) → is_among xs x ≡ false → IsApart x xs
among_apart [] x e = tt
among_apart (y ∷ ys) x e = by_test (bytes_eq x y) refl e (among_apart ys x)
  where
    by_test : (b : Bool) → bytes_eq x y ≡ b → (b || is_among ys x) ≡ false → (is_among ys x ≡ false → IsApart x ys) → IsApart x (y ∷ ys)
    by_test true f g next = absurd cc
    by_test false f g next = (λ same. absurd (let h : bytes_eq x y ≡ true = (bytes_eq-Decides x y).1 same in cc), next g)

apart_end : (y : Text) (ys : List Text) (x : Text) → IsApart y ys → (y ≡ x → ⊥) → IsApart y (ys ++ x ∷ [])
apart_end y [] x a n = (n, tt)
apart_end y (z ∷ zs) x a n = (a.0, apart_end y zs x a.1 n)

distinct_end : (xs : List Text) (x : Text) → IsDistinct xs → IsApart x xs → IsDistinct (xs ++ x ∷ [])
distinct_end [] x d a = (tt, tt)
distinct_end (y ∷ ys) x d a = (apart_end y ys x d.0 (λ e. a.0 (sym e)), distinct_end ys x d.1 a.1)

distinct_add : (xs : List Text) (x : Text) → IsDistinct xs → IsDistinct (add_name xs x)
distinct_add xs x d = by_case (is_among xs x) refl
  where
    by_case : (b : Bool) → is_among xs x ≡ b → IsDistinct (if b then xs else xs ++ x ∷ [])
    by_case true e = d
    by_case false e = distinct_end xs x d (among_apart xs x e)

distinct_adds : (ys xs : List Text) → IsDistinct xs → IsDistinct (add_names xs ys)
distinct_adds [] xs d = d
distinct_adds (y ∷ ys) xs d = distinct_adds ys (add_name xs y) (distinct_add xs y d)

apart_filter : (test : Text → Bool) (x : Text) (xs : List Text) → IsApart x xs → IsApart x (filter test xs)
apart_filter test x [] a = tt
apart_filter test x (y ∷ ys) a = by_case (test y) (apart_filter test x ys a.1)
  where
    by_case : (b : Bool) → IsApart x (filter test ys) → IsApart x (cond b (y ∷ filter test ys) (filter test ys))
    by_case true h = (a.0, h)
    by_case false h = h

distinct_filter : (test : Text → Bool) (xs : List Text) → IsDistinct xs → IsDistinct (filter test xs)
distinct_filter test [] d = tt
distinct_filter test (y ∷ ys) d = by_case (test y) (distinct_filter test ys d.1)
  where
    by_case : (b : Bool) → IsDistinct (filter test ys) → IsDistinct (cond b (y ∷ filter test ys) (filter test ys))
    by_case true h = (apart_filter test y ys d.0, h)
    by_case false h = h

-- ---- parameters come first

apart_middle : (y : Text) (ys : List Text) (x : Text) (zs : List Text) → IsApart y (ys ++ x ∷ zs) → y ≡ x → ⊥
apart_middle y [] x zs a e = a.0 e
apart_middle y (z ∷ ys) x zs a e = apart_middle y ys x zs a.1 e

not_among : (xs : List Text) (x : Text) (zs : List Text) → IsDistinct (xs ++ x ∷ zs) → is_among xs x ≡ false
not_among [] x zs d = refl
not_among (y ∷ ys) x zs d = by_test (bytes_eq x y) refl (not_among ys x zs d.1)
  where
    by_test : (b : Bool) → bytes_eq x y ≡ b → is_among ys x ≡ false → (b || is_among ys x) ≡ false
    by_test true f g = absurd (apart_middle y ys x zs d.0 (sym ((bytes_eq-Decides x y).0 f)))
    by_test false f g = g

adds_distinct : (ps xs : List Text) → IsDistinct (xs ++ ps) → add_names xs ps ≡ xs ++ ps
adds_distinct [] xs d = sym (append_none xs)
adds_distinct (p ∷ ps) xs d =
    let new : add_name xs p ≡ xs ++ p ∷ [] = ap (λ b. if b then xs else xs ++ p ∷ []) (not_among xs p ps d) in
    ap (λ ys. add_names ys ps) new ∙ (adds_distinct ps (xs ++ p ∷ []) (subst IsDistinct (sym (append_one xs p ps)) d) ∙ append_one xs p ps)

adds_append : (bs cs xs : List Text) → add_names xs (bs ++ cs) ≡ add_names (add_names xs bs) cs
adds_append [] cs xs = refl
adds_append (b ∷ bs) cs xs = adds_append bs cs (add_name xs b)

record Extends (xs ys : List Text) : Type 0 where
  rest : List Text
  is : ys ≡ xs ++ rest

extends : (ys xs : List Text) → Extends xs (add_names xs ys)
extends [] xs = record { rest = []; is = sym (append_none xs) }
extends (y ∷ ys) xs = by_case (is_among xs y) refl (extends ys (add_name xs y))
  where
    by_case : (b : Bool) → add_name xs y ≡ (if b then xs else xs ++ y ∷ []) → Extends (add_name xs y) (add_names (add_name xs y) ys) → Extends xs (add_names (add_name xs y) ys)
    by_case true e h = record { rest = h.rest; is = h.is ∙ ap (λ zs. zs ++ h.rest) e }
    by_case false e h = record { rest = y ∷ h.rest; is = h.is ∙ (ap (λ zs. zs ++ h.rest) e ∙ append_one xs y h.rest) }

kept_front : (ds ps rest : List Text) → NoneAmong ds ps → filter (λ x. not (is_among ds x)) (ps ++ rest) ≡ ps ++ filter (λ x. not (is_among ds x)) rest
kept_front ds [] rest h = refl
kept_front ds (p ∷ ps) rest h =
    ap (λ b. cond (not b) (p ∷ filter (λ x. not (is_among ds x)) (ps ++ rest)) (filter (λ x. not (is_among ds x)) (ps ++ rest))) h.0
    ∙ ap (λ ys. p ∷ ys) (kept_front ds ps rest h.1)

local_distinct : (ps : List Text) (b : Stmts) → IsDistinct (local_names ps b)
local_distinct ps b = distinct_filter _ (add_names [] (ps ++ assigned_names b)) (distinct_adds (ps ++ assigned_names b) [] tt)

local_first : (ps : List Text) (b : Stmts) → IsDistinct ps → NoneAmong (declared_names b) ps → (rest : List Text) × (local_names ps b ≡ ps ++ rest)
local_first ps b d h =
    let more = extends (assigned_names b) ps in
    let keep : Text → Bool = λ x. not (is_among (declared_names b) x) in (
      filter keep more.rest,
      ap (filter keep) (adds_append ps (assigned_names b) [] ∙ (ap (λ ys. add_names ys (assigned_names b)) (adds_distinct ps [] d) ∙ more.is)) ∙ kept_front (declared_names b) ps more.rest h,
    )

-- ---- units

own_function : (fs : List Function) → EachHasOwnParameters fs → (k : ℕ) (f : Function) → slice_get fs k ≡ Some f → HasOwnParameters f
own_function [] h k f e = absurd cc
own_function (g ∷ fs) h zero f e = let same : g ≡ f = cc in subst HasOwnParameters same h.0
own_function (g ∷ fs) h (suc k) f e = own_function fs h.1 k f e

own_unit : (ms : List LoadedModule) → HaveOwnParameters ms → (m k : ℕ) (f : Function) → function_in (slice_get ms m) (suc k) ≡ Some f → HasOwnParameters f
own_unit [] h m k f e = absurd cc
own_unit (l ∷ ls) h zero k f e = own_function (functions l.body) h.0 k f e
own_unit (l ∷ ls) h (suc m) k f e = own_unit ls h.1 m k f e

unit_distinct : (b : Stmts) (k : ℕ) (u : Code) (o : Option Code) (q : Option Function) → IsUnit b k o q → o ≡ Some u → IsDistinct u.locals
unit_distinct b k u None q h e = absurd cc
unit_distinct b k u (Some v) None h e = absurd h
unit_distinct b zero u (Some v) (Some f) h e = let same : v ≡ u = cc in subst (λ x. IsDistinct x.locals) same (subst IsDistinct (sym h.1.locals) tt)
unit_distinct b (suc k) u (Some v) (Some f) h e = let same : v ≡ u = cc in subst (λ x. IsDistinct x.locals) same (subst IsDistinct (sym h.1.locals) (local_distinct f.params f.body))

-- the parameters of a function, or the body of a module, which has none
abbrev FirstOf : Code → Type 0
FirstOf u = (rest : List Text) × (u.locals ≡ u.params ++ rest)

unit_first : (b : Stmts) (k : ℕ) (u : Code) (o : Option Code) (q : Option Function) → IsUnit b (suc k) o q → o ≡ Some u → ((f : Function) → q ≡ Some f → HasOwnParameters f) → FirstOf u
unit_first b k u None q h e own = absurd cc
unit_first b k u (Some v) None h e own = absurd h
unit_first b k u (Some v) (Some f) h e own =
    let same : v ≡ u = cc in
    let has = own f refl in
    let first = local_first f.params f.body has.0 has.1 in
    subst FirstOf same (first.0, h.1.locals ∙ (first.1 ∙ ap (λ ps. ps ++ first.0) (sym h.1.params)))

body_first : (b : Stmts) (u : Code) (o : Option Code) (q : Option Function) → IsUnit b 0 o q → o ≡ Some u → ((f : Function) → q ≡ Some f → f.params ≡ []) → FirstOf u
body_first b u None q h e bare = absurd cc
body_first b u (Some v) None h e bare = absurd h
body_first b u (Some v) (Some f) h e bare =
    let same : v ≡ u = cc in
    let none : v.params ≡ [] = h.1.params ∙ bare f refl in
    subst FirstOf same ([], h.1.locals ∙ sym (ap (λ ps. ps ++ []) none))

bare_body : (o : Option LoadedModule) (f : Function) → function_in o 0 ≡ Some f → f.params ≡ []
bare_body None f e = absurd cc
bare_body (Some l) f e = let same : function_or l.body None ≡ f = cc in ap (λ g. g.params) (sym same)

pub are_named : (cs : List Module) (ms : List LoadedModule) → AreFaithful cs ms → HaveOwnParameters ms → AreNamed cs
are_named cs ms faithful own = record {
  distinct = λ code u e. unit_distinct (body_of ms code.module) code.unit u (unit_at cs code) (function_found ms code) (modules_pair cs ms faithful code.module code.unit) e;
  first = λ code u e. first_of code.module code.unit u e;
}
  where
    first_of : (m k : ℕ) (u : Code) → unit_at cs (record { «module» = m; unit = k }) ≡ Some u → FirstOf u
    first_of m zero u e =
        let code : CodeId = record { «module» = m; unit = 0 } in
        body_first (body_of ms m) u (unit_at cs code) (function_found ms code) (modules_pair cs ms faithful m 0) e (bare_body (slice_get ms m))
    first_of m (suc k) u e =
        let code : CodeId = record { «module» = m; unit = suc k } in
        unit_first (body_of ms m) k u (unit_at cs code) (function_found ms code) (modules_pair cs ms faithful m (suc k)) e (own_unit ms own m k)
