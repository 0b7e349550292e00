-- A function without a fault has parameters of its own: no two have one name, and none is declared `global`.
use Rattle.std.proofs.Common.{◌≡◌, Bool, true, false, ◌||◌, List, [], ◌∷◌, refl, sym, subst, ◌∙◌}
use Rattle.std.specs.Str.{bytes_eq}
use Rattle.std.proofs.lemmas.Slice.Eq.{bytes_eq-Decides}
use Rattle.py_syntax.specs.Functions.{Function}
use Rattle.py_syntax.specs.Names.{is_among, add_name, distinct, declared_in, declared_names}
use Rattle.py_syntax.specs.Tree.{Text}
use Rattle.py_scope.specs.declared.error.ScopeError.{ScopeError}
use Rattle.py_scope.specs.declared.error.ScopeError.TheVariants.{GlobalAfterUse}
use Rattle.py_scope.specs.declared.occurrence.Occurrence.{Occurrence}
use Rattle.py_scope.specs.declared.occurrence.Occurrence.TheVariants.{Uses, Assigns, Declares}
use Rattle.py_scope.specs.Faults.{fault_if, late_globals}
use Rattle.py_scope.specs.Occurrences.{occurrences}
use Rattle.py_scope.specs.Patterns.{repeats_in, has_repeats}
use Rattle.py_scope.proofs.Linking.{bound, all-bound}
use Rattle.py_scope.proofs.Scoped.{among-add_name, among-distinct}
use Rattle.py_code.specs.Slots.{IsApart, IsDistinct}
use Rattle.py_compile.specs.ProgramRuns.{NoneAmong, HasOwnParameters}
use Rattle.py_compile_laws.proofs.Nothing.{left_false, right_false, front-none, back-none}

-- ---- names among others

-- what is among none of some names is among none of fewer
none-fewer : (xs : List Text) (x : Text) (ys : List Text) → NoneAmong (add_name xs x) ys → NoneAmong xs ys
none-fewer xs x [] h = tt
none-fewer xs x (y ∷ ys) h = (left_false (is_among xs y) (bytes_eq y x) (sym (among-add_name xs x y) ∙ h.0), none-fewer xs x ys h.1)

apart-last : (xs : List Text) (x : Text) (ys : List Text) → NoneAmong (add_name xs x) ys → IsApart x ys
apart-last xs x [] h = tt
apart-last xs x (y ∷ ys) h = (λ same. other same (right_false (is_among xs y) (bytes_eq y x) (sym (among-add_name xs x y) ∙ h.0)), apart-last xs x ys h.1)
  where
    other : x ≡ y → bytes_eq y x ≡ false → ⊥
    other same differs = let equal : bytes_eq y x ≡ true = (bytes_eq-Decides y x).1 (sym same) in absurd cc

none-distinct : (xs ys : List Text) → NoneAmong (distinct xs) ys → NoneAmong xs ys
none-distinct xs [] h = tt
none-distinct xs (y ∷ ys) h = (sym (among-distinct xs y) ∙ h.0, none-distinct xs ys h.1)

-- where none of some names is among others, none of those is among these
out-of : (ds : List Text) (p : Text) (ps : List Text) → NoneAmong (p ∷ ps) ds → is_among ds p ≡ false
out-of [] p ps h = refl
out-of (d ∷ ds) p ps h = by (bytes_eq p d) refl (left_false (bytes_eq d p) (is_among ps d) h.0) (out-of ds p ps h.1)
  where
    by : (b : Bool) → bytes_eq p d ≡ b → bytes_eq d p ≡ false → is_among ds p ≡ false → (b || is_among ds p) ≡ false
    by true e other rest = absurd (let equal : bytes_eq d p ≡ true = (bytes_eq-Decides d p).1 (sym ((bytes_eq-Decides p d).0 e)) in cc)
    by false e other rest = rest

out-of-rest : (ds : List Text) (p : Text) (ps : List Text) → NoneAmong (p ∷ ps) ds → NoneAmong ps ds
out-of-rest [] p ps h = tt
out-of-rest (d ∷ ds) p ps h = (right_false (bytes_eq d p) (is_among ps d) h.0, out-of-rest ds p ps h.1)

swapped : (ps ds : List Text) → NoneAmong ps ds → NoneAmong ds ps
swapped [] ds h = tt
swapped (p ∷ ps) ds h = (out-of ds p ps h, swapped ps ds (out-of-rest ds p ps h))

-- ---- parameters

once : (before xs : List Text) → repeats_in before xs ≡ false → NoneAmong before xs × IsDistinct xs
once before [] h = (tt, tt)
once before (x ∷ xs) h =
    let rest = once (add_name before x) xs (right_false (is_among before x) (repeats_in (add_name before x) xs) h) in
    ((left_false (is_among before x) (repeats_in (add_name before x) xs) h, none-fewer before x xs rest.0), (apart-last before x xs rest.0, rest.1))

no-fault : (b : Bool) (e : ScopeError) → fault_if b e ≡ [] → b ≡ false
no-fault true e h = cc
no-fault false e h = refl

-- no name that is used is declared later
not-late : (os : List Occurrence) (used : List Text) → late_globals used os ≡ [] → NoneAmong used (declared_in (bound os))
not-late [] used h = tt
not-late (Uses x ∷ os) used h = none-fewer used x (declared_in (bound os)) (not-late os (add_name used x) h)
not-late (Assigns x ∷ os) used h = none-fewer used x (declared_in (bound os)) (not-late os (add_name used x) h)
not-late (Declares x line ∷ os) used h =
    let here = fault_if (is_among used x) (GlobalAfterUse line) in
    (no-fault (is_among used x) (GlobalAfterUse line) (front-none here (late_globals used os) h), not-late os used (back-none here (late_globals used os) h))

pub own-parameters : (f : Function) → has_repeats f.params ≡ false → late_globals (distinct f.params) (occurrences f.body) ≡ [] → HasOwnParameters f
own-parameters f apart late =
    let out = not-late (occurrences f.body) (distinct f.params) late in
    let named : NoneAmong (distinct f.params) (declared_names f.body) = subst (λ bs. NoneAmong (distinct f.params) (declared_in bs)) (all-bound f.body) out in
    ((once [] f.params apart).1, swapped f.params (declared_names f.body) (none-distinct f.params (declared_names f.body) named))
