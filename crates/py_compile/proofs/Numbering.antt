-- What is put into the lists of a unit is found there, also after more that is put in.
use Rattle.std.proofs.Common.{◌≡◌, ℕ, suc, ◌==◌, Bool, true, false, List, [], ◌∷◌, Some, refl, sym, ap, ◌∙◌, subst}
use Rattle.std.specs.Prelude.{slice_get, if◌then◌else◌, ◌||◌, bytes_eq}
use Rattle.std.specs.List.{list_any}
use Rattle.std.proofs.lemmas.Bool.Decides.{Decides-eqb, Decides-int_eq}
use Rattle.std.proofs.lemmas.Slice.Eq.{bytes_eq-Decides}
use Rattle.py_text.specs.Comparison.{is_same_text}
use Rattle.py_text.proofs.SameTexts.{same_text, text_is_same}
use Rattle.py_syntax.specs.Names.{is_among}
use Rattle.py_syntax.specs.Tree.{Text}
use Rattle.py_code.specs.declared.unit.Constant.{Constant}
use Rattle.py_code.specs.declared.unit.Constant.TheVariants.{None as NoneConstant, Bool as BoolConstant, Int as IntConstant, Str as StrConstant}
use Rattle.py_compile_expr.specs.Cells.{Op, constant, load, store, unset, attribute, method, imports, module_named, takes, marks, marks_again, plain, Cell, place_in, is_same_constant, add_new, Tables, with_global_name, with_name, tables_with, tables_of}
use Rattle.py_compile_expr.specs.Stands.{Finds, HasVariable, IsKnown}

-- a test that tells what is one
record Tells {A : Type 0} (same : A → A → Bool) : Type 0 where
  one : (x y : A) → same x y ≡ true → x ≡ y
  self : (x : A) → same x x ≡ true

module _ {A : Type 0} (same : A → A → Bool) (tells : Tells same) where
  finds_added : (xs : List A) (x : A) → Finds same (add_new same xs x) x
  finds_added [] x = ap (λ b. slice_get (x ∷ []) (if b then 0 else 1)) (tells.self x)
  finds_added (y ∷ ys) x = by_case (same x y) refl (finds_added ys x)
    where
      by_case : (b : Bool) → same x y ≡ b → Finds same (add_new same ys x) x → Finds same (if b then y ∷ ys else y ∷ add_new same ys x) x
      by_case true e h = ap (λ b. slice_get (y ∷ ys) (if b then 0 else suc (place_in same ys x))) e ∙ ap (λ z. Some z) (sym (tells.one x y e))
      by_case false e h = ap (λ b. slice_get (y ∷ add_new same ys x) (if b then 0 else suc (place_in same (add_new same ys x) x))) e ∙ h

  finds_kept : (xs : List A) (x y : A) → Finds same xs y → Finds same (add_new same xs x) y
  finds_kept [] x y h = absurd cc
  finds_kept (z ∷ zs) x y h = by_case (same y z) refl (finds_kept zs x y)
    where
      head : (ws : List A) → same y z ≡ true → Finds same (z ∷ ws) y
      head ws e = ap (λ b. slice_get (z ∷ ws) (if b then 0 else suc (place_in same ws y))) e ∙ ap (λ v. Some v) (sym (tells.one y z e))

      tail : (ws : List A) → same y z ≡ false → Finds same ws y → Finds same (z ∷ ws) y
      tail ws e k = ap (λ b. slice_get (z ∷ ws) (if b then 0 else suc (place_in same ws y))) e ∙ k

      rest : same y z ≡ false → Finds same zs y
      rest e = sym (ap (λ b. slice_get (z ∷ zs) (if b then 0 else suc (place_in same zs y))) e) ∙ h

      by_new : (b : Bool) → same y z ≡ false → (Finds same zs y → Finds same (add_new same zs x) y) → Finds same (if b then z ∷ zs else z ∷ add_new same zs x) y
      by_new true e k = h
      by_new false e k = tail (add_new same zs x) e (k (rest e))

      by_head : (b : Bool) → same y z ≡ true → Finds same (if b then z ∷ zs else z ∷ add_new same zs x) y
      by_head true e = h
      by_head false e = head (add_new same zs x) e

      by_case : (b : Bool) → same y z ≡ b → (Finds same zs y → Finds same (add_new same zs x) y) → Finds same (add_new same (z ∷ zs) x) y
      by_case true e k = by_head (same x z) e
      by_case false e k = by_new (same x z) e k

-- ---- the three tests

text_tells : Tells is_same_text
text_tells = record { one = same_text; self = text_is_same }

line_tells : Tells {A = ℕ} (λ a b. a == b)
line_tells = record { one = λ a b e. (Decides-eqb a b).0 e; self = λ a. (Decides-eqb a a).1 refl }

bool_one : (a b : Bool) → (if a then b else (if b then false else true)) ≡ true → a ≡ b
bool_one true true e = refl
bool_one true false e = absurd cc
bool_one false true e = absurd cc
bool_one false false e = refl

bool_self : (a : Bool) → (if a then a else (if a then false else true)) ≡ true
bool_self true = refl
bool_self false = refl

constant_one : (a b : Constant) → is_same_constant a b ≡ true → a ≡ b
constant_one NoneConstant NoneConstant e = refl
constant_one NoneConstant (BoolConstant b) e = absurd cc
constant_one NoneConstant (IntConstant n) e = absurd cc
constant_one NoneConstant (StrConstant y) e = absurd cc
constant_one (BoolConstant a) NoneConstant e = absurd cc
constant_one (BoolConstant a) (BoolConstant b) e = ap BoolConstant (bool_one a b e)
constant_one (BoolConstant a) (IntConstant n) e = absurd cc
constant_one (BoolConstant a) (StrConstant y) e = absurd cc
constant_one (IntConstant m) NoneConstant e = absurd cc
constant_one (IntConstant m) (BoolConstant b) e = absurd cc
constant_one (IntConstant m) (IntConstant n) e = ap IntConstant ((Decides-int_eq m n).0 e)
constant_one (IntConstant m) (StrConstant y) e = absurd cc
constant_one (StrConstant x) NoneConstant e = absurd cc
constant_one (StrConstant x) (BoolConstant b) e = absurd cc
constant_one (StrConstant x) (IntConstant n) e = absurd cc
constant_one (StrConstant x) (StrConstant y) e = ap StrConstant (same_text x y e)

constant_self : (a : Constant) → is_same_constant a a ≡ true
constant_self NoneConstant = refl
constant_self (BoolConstant b) = bool_self b
constant_self (IntConstant n) = (Decides-int_eq n n).1 refl
constant_self (StrConstant x) = text_is_same x

constant_tells : Tells is_same_constant
constant_tells = record { one = constant_one; self = constant_self }

-- a name that is among others is found there
among_found : (xs : List Text) (x : Text) → is_among xs x ≡ true → Finds is_same_text xs x
among_found [] x e = absurd cc
among_found (y ∷ ys) x e = by_case (is_same_text x y) refl (among_found ys x)
  where
    by_test : (b : Bool) → bytes_eq x y ≡ b → (b || list_any (bytes_eq x) ys) ≡ true → is_same_text x y ≡ false → list_any (bytes_eq x) ys ≡ true
    by_test true f g h = let same : x ≡ y = (bytes_eq-Decides x y).0 f in absurd (let twice = ap (λ z. is_same_text x z) (sym same) ∙ text_is_same x in cc)
    by_test false f g h = g

    by_case : (b : Bool) → is_same_text x y ≡ b → (is_among ys x ≡ true → Finds is_same_text ys x) → Finds is_same_text (y ∷ ys) x
    by_case true f k = ap (λ b. slice_get (y ∷ ys) (if b then 0 else suc (place_in is_same_text ys x))) f ∙ ap (λ v. Some v) (sym (same_text x y f))
    by_case false f k = ap (λ b. slice_get (y ∷ ys) (if b then 0 else suc (place_in is_same_text ys x))) f ∙ k (by_test (bytes_eq x y) refl e f)

-- ---- lists that grow

pub record Grows (t v : Tables) : Type 0 where
  pub own : t.own ≡ v.own
  pub names : (x : Text) → Finds is_same_text t.names x → Finds is_same_text v.names x
  pub constants : (k : Constant) → Finds is_same_constant t.constants k → Finds is_same_constant v.constants k
  pub lines : (l : ℕ) → Finds (λ a b. a == b) t.lines l → Finds (λ a b. a == b) v.lines l

grows_not : (t : Tables) → Grows t t
grows_not t = record { own = refl; names = λ x h. h; constants = λ k h. h; lines = λ l h. h }

grows_on : (t v w : Tables) → Grows t v → Grows v w → Grows t w
grows_on t v w g h = record {
  own = g.own ∙ h.own;
  names = λ x k. h.names x (g.names x k);
  constants = λ x k. h.constants x (g.constants x k);
  lines = λ x k. h.lines x (g.lines x k);
}

grows_name : (t : Tables) (x : Text) → Grows t (with_name t x)
grows_name t x = record { own = refl; names = λ y h. finds_kept is_same_text text_tells t.names x y h; constants = λ k h. h; lines = λ l h. h }

grows_global : (t : Tables) (x : Text) → Grows t (with_global_name t x)
grows_global t x = by_case (is_among t.own x)
  where
    by_case : (b : Bool) → Grows t (if b then t else record t { names = add_new is_same_text t.names x })
    by_case true = grows_not t
    by_case false = grows_name t x

grows_by : (t : Tables) (op : Op) → Grows t (tables_with t op)
grows_by t (constant k) = record { own = refl; names = λ y h. h; constants = λ y h. finds_kept is_same_constant constant_tells t.constants k y h; lines = λ l h. h }
grows_by t (load x) = grows_global t x
grows_by t (store x) = grows_global t x
grows_by t (unset x) = grows_global t x
grows_by t (attribute x) = grows_name t x
grows_by t (method x) = grows_name t x
grows_by t (imports x) = grows_name t x
grows_by t (module_named x) = grows_name t x
grows_by t (takes m x) = grows_on t (with_name t m) (with_name (with_name t m) x) (grows_name t m) (grows_name (with_name t m) x)
grows_by t (marks l) = record { own = refl; names = λ y h. h; constants = λ k h. h; lines = λ y h. finds_kept (λ a b. a == b) line_tells t.lines l y h }
grows_by t (marks_again l) = record { own = refl; names = λ y h. h; constants = λ k h. h; lines = λ y h. finds_kept (λ a b. a == b) line_tells t.lines l y h }
grows_by t (plain i) = grows_not t

pub grows_all : (t : Tables) (cs : List Cell) → Grows t (tables_of t cs)
grows_all t [] = grows_not t
grows_all t (c ∷ cs) = grows_on t (tables_with t c.op) (tables_of (tables_with t c.op) cs) (grows_by t c.op) (grows_all (tables_with t c.op) cs)

-- ---- what an instruction needs

known_global : (t : Tables) (x : Text) → HasVariable (is_among (with_global_name t x).own x) (with_global_name t x) x
known_global t x = by_case (is_among t.own x) refl
  where
    by_case : (b : Bool) → is_among t.own x ≡ b
        → HasVariable (is_among (if b then t else record t { names = add_new is_same_text t.names x }).own x) (if b then t else record t { names = add_new is_same_text t.names x }) x
    by_case true e = subst (λ b. HasVariable b t x) (sym e) (among_found t.own x e)
    by_case false e = subst (λ b. HasVariable b (record t { names = add_new is_same_text t.names x }) x) (sym e) (finds_added is_same_text text_tells t.names x)

known_at_once : (t : Tables) (op : Op) → IsKnown (tables_with t op) op
known_at_once t (constant k) = finds_added is_same_constant constant_tells t.constants k
known_at_once t (load x) = known_global t x
known_at_once t (store x) = known_global t x
known_at_once t (unset x) = known_global t x
known_at_once t (attribute x) = finds_added is_same_text text_tells t.names x
known_at_once t (method x) = finds_added is_same_text text_tells t.names x
known_at_once t (imports x) = finds_added is_same_text text_tells t.names x
known_at_once t (module_named x) = finds_added is_same_text text_tells t.names x
known_at_once t (takes m x) =
    let first = add_new is_same_text t.names m in
    (finds_kept is_same_text text_tells first x m (finds_added is_same_text text_tells t.names m), finds_added is_same_text text_tells first x)
known_at_once t (marks l) = finds_added (λ a b. a == b) line_tells t.lines l
known_at_once t (marks_again l) = finds_added (λ a b. a == b) line_tells t.lines l
known_at_once t (plain i) = tt

has_variable : (t v : Tables) → Grows t v → (x : Text) (b : Bool) → HasVariable b t x → HasVariable b v x
has_variable t v g x true h = subst (λ xs. Finds is_same_text xs x) g.own h
has_variable t v g x false h = g.names x h

known_variable : (t v : Tables) → Grows t v → (x : Text) → HasVariable (is_among t.own x) t x → HasVariable (is_among v.own x) v x
known_variable t v g x h = subst (λ xs. HasVariable (is_among xs x) v x) g.own (has_variable t v g x (is_among t.own x) h)

pub known_still : (t v : Tables) → Grows t v → (op : Op) → IsKnown t op → IsKnown v op
known_still t v g (constant k) h = g.constants k h
known_still t v g (load x) h = known_variable t v g x h
known_still t v g (store x) h = known_variable t v g x h
known_still t v g (unset x) h = known_variable t v g x h
known_still t v g (attribute x) h = g.names x h
known_still t v g (method x) h = g.names x h
known_still t v g (imports x) h = g.names x h
known_still t v g (module_named x) h = g.names x h
known_still t v g (takes m x) h = (g.names m h.0, g.names x h.1)
known_still t v g (marks l) h = g.lines l h
known_still t v g (marks_again l) h = g.lines l h
known_still t v g (plain i) h = tt

-- each of these cells, in lists that grew further
abbrev pub AllKnown : Tables → List Cell → Type 0
AllKnown t [] = Unit {0}
AllKnown t (c ∷ cs) = IsKnown t c.op × AllKnown t cs

pub all_known : (t : Tables) (cs : List Cell) (v : Tables) → Grows (tables_of t cs) v → AllKnown v cs
all_known t [] v g = tt
all_known t (c ∷ cs) v g =
    let next = tables_with t c.op in
    (known_still next v (grows_on next (tables_of next cs) v (grows_all next cs) g) c.op (known_at_once t c.op), all_known next cs v g)

pub all_known_here : (t : Tables) (cs : List Cell) → AllKnown (tables_of t cs) cs
all_known_here t cs = all_known t cs (tables_of t cs) (grows_not (tables_of t cs))
