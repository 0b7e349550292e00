-- The number of a name, a constant or a line stays where more of them come.
--     place_after, place_added          places in lists that grow
--     Grows                              lists of a unit that grow
--     stays                              an instruction by lists with what it names, and by all lists
use Rattle.std.proofs.Common.{◌≡◌, ℕ, suc, ◌+◌, ◌<◌, ◌==◌, Bool, true, false, List, [], ◌∷◌, ◌++◌, length, refl, sym, ap, ◌∙◌, subst, arith, append_assoc}
use Rattle.std.specs.Prelude.{if◌then◌else◌}
use Rattle.std.proofs.lemmas.Bool.Decides.{Decides-eqb, Decides-int_eq}
use Rattle.std.proofs.lemmas.List.{append-nil}
use Rattle.py_text.specs.Comparison.{is_same_text}
use Rattle.py_text.proofs.SameTexts.{text_is_same}
use Rattle.py_syntax.specs.Names.{is_among}
use Rattle.py_syntax.specs.Tree.{Text}
use Rattle.py_code.specs.declared.instr.Instr.TheVariants.{Constant as ConstantAt, LoadLocal, StoreLocal, UnsetLocal, LoadGlobal, StoreGlobal, UnsetGlobal, Attribute, Mark, Again, Method, Import, Module, Take}
use Rattle.py_code.specs.declared.unit.Constant.{Constant}
use Rattle.py_code.specs.declared.unit.Constant.TheVariants.{None as NoneConstant, Bool as BoolConstant, Int as IntConstant, Str as StrConstant}
use Rattle.py_compile_expr.specs.Cells.{Op, constant, load, store, unset, attribute, method, imports, module_named, takes, marks, marks_again, plain, Cell, Tables, place_in, is_same_constant, add_new, instr_of, with_global_name, with_name, tables_with, tables_of}

-- ---- places in lists that grow

abbrev Extends : {A : Type 0} → List A → List A → Type 0
Extends {A} xs ys = (zs : List A) × (ys ≡ xs ++ zs)

chosen : {B : Type 0} (b : Bool) (l g h : B) → (b ≡ false → g ≡ h) → (if b then l else g) ≡ (if b then l else h)
chosen true l g h f = refl
chosen false l g h f = f refl

module _ {A : Type 0} (same : A → A → Bool) where
  place_after : (xs zs : List A) (x : A) → place_in same xs x < length xs → place_in same (xs ++ zs) x ≡ place_in same xs x
  place_after [] zs x lt = absurd (omega arith)
  place_after (y ∷ ys) zs x lt =
      by_case (same x y) (place_in same (ys ++ zs) x) (place_in same ys x) (length ys) lt (place_after ys zs x)
    where
      by_case : (b : Bool) (p q n : ℕ) → (if b then 0 else suc q) < suc n → (q < n → p ≡ q) → (if b then 0 else suc p) ≡ (if b then 0 else suc q)
      by_case true p q n lt f = refl
      by_case false p q n lt f = ap suc (f (omega arith))

  place_stays : (xs ys : List A) (x : A) → Extends xs ys → place_in same xs x < length xs → place_in same ys x ≡ place_in same xs x
  place_stays xs ys x e lt = ap (λ zs. place_in same zs x) e.1 ∙ place_after xs e.0 x lt

  extends_added : (xs : List A) (x : A) → Extends xs (add_new same xs x)
  extends_added [] x = (x ∷ [], refl)
  extends_added (y ∷ ys) x = by_case (same x y) (extends_added ys x)
    where
      by_case : (b : Bool) → Extends ys (add_new same ys x) → Extends (y ∷ ys) (if b then y ∷ ys else y ∷ add_new same ys x)
      by_case true e = ([], sym (append-nil (y ∷ ys)))
      by_case false e = (e.0, ap (λ zs. y ∷ zs) e.1)

  place_added : (x : A) → same x x ≡ true → (xs : List A) → place_in same (add_new same xs x) x < length (add_new same xs x)
  place_added x self [] = subst (λ b. (if b then 0 else 1) < 1) (sym self) (omega arith)
  place_added x self (y ∷ ys) = by_case (same x y) refl (place_added x self ys)
    where
      by_case : (b : Bool) → same x y ≡ b → place_in same (add_new same ys x) x < length (add_new same ys x)
          → place_in same (if b then y ∷ ys else y ∷ add_new same ys x) x < length (if b then y ∷ ys else y ∷ add_new same ys x)
      by_case true e h = subst (λ b. (if b then 0 else suc (place_in same ys x)) < suc (length ys)) (sym e) (omega arith)
      by_case false e h = subst (λ b. (if b then 0 else suc (place_in same (add_new same ys x) x)) < suc (length (add_new same ys x))) (sym e) (omega arith)

-- the place of what is added
pub place_new : {A : Type 0} (same : A → A → Bool) (x : A) → same x x ≡ true → (xs : List A) → place_in same xs x ≡ place_in same (add_new same xs x) x
place_new same x self [] = ap (λ b. if b then 0 else 1) (sym self)
place_new same x self (y ∷ ys) = by_case (same x y) refl (place_new same x self ys)
  where
    by_case : (b : Bool) → same x y ≡ b → place_in same ys x ≡ place_in same (add_new same ys x) x
        → (if same x y then 0 else suc (place_in same ys x)) ≡ place_in same (if b then y ∷ ys else y ∷ add_new same ys x) x
    by_case true e h = refl
    by_case false e h = ap (λ n. if same x y then 0 else suc n) h

all_of : {A : Type 0} (xs : List A) → Extends xs xs
all_of xs = ([], sym (append-nil xs))

further : {A : Type 0} (xs ys zs : List A) → Extends xs ys → Extends ys zs → Extends xs zs
further xs ys zs e f = (e.0 ++ f.0, f.1 ∙ ap (λ l. l ++ f.0) e.1 ∙ append_assoc xs e.0 f.0)

-- ---- a constant and a line are themselves

bool_is_same : (a : Bool) → (if a then a else (if a then false else true)) ≡ true
bool_is_same true = refl
bool_is_same false = refl

pub constant_is_same : (k : Constant) → is_same_constant k k ≡ true
constant_is_same NoneConstant = refl
constant_is_same (BoolConstant b) = bool_is_same b
constant_is_same (IntConstant n) = (Decides-int_eq n n).1 refl
constant_is_same (StrConstant x) = text_is_same x

pub line_is_same : (l : ℕ) → (l == l) ≡ true
line_is_same l = (Decides-eqb l l).1 refl

-- ---- lists of a unit that grow

record Grows (t v : Tables) : Type 0 where
  own : v.own ≡ t.own
  names : Extends t.names v.names
  constants : Extends t.constants v.constants
  lines : Extends t.lines v.lines

grown : (t : Tables) → Grows t t
grown t = record { own = refl; names = all_of t.names; constants = all_of t.constants; lines = all_of t.lines }

and_on : (t u v : Tables) → Grows t u → Grows u v → Grows t v
and_on t u v a b = record {
  own = b.own ∙ a.own;
  names = further t.names u.names v.names a.names b.names;
  constants = further t.constants u.constants v.constants a.constants b.constants;
  lines = further t.lines u.lines v.lines a.lines b.lines;
}

grows_name : (t : Tables) (x : Text) → Grows t (with_name t x)
grows_name t x = record { own = refl; names = extends_added is_same_text t.names x; constants = all_of t.constants; lines = all_of t.lines }

grows_global : (t : Tables) (x : Text) → Grows t (with_global_name t x)
grows_global t x = by_case (is_among t.own x)
  where
    by_case : (b : Bool) → Grows t (if b then t else record t { names = add_new is_same_text t.names x })
    by_case true = grown t
    by_case false = grows_name t x

grows_line : (t : Tables) (l : ℕ) → Grows t (record t { lines = add_new (λ a b. a == b) t.lines l })
grows_line t l = record { own = refl; names = all_of t.names; constants = all_of t.constants; lines = extends_added (λ a b. a == b) t.lines l }

grows : (t : Tables) (op : Op) → Grows t (tables_with t op)
grows t (constant k) = record { own = refl; names = all_of t.names; constants = extends_added is_same_constant t.constants k; lines = all_of t.lines }
grows t (load x) = grows_global t x
grows t (store x) = grows_global t x
grows t (unset x) = grows_global t x
grows t (attribute x) = grows_name t x
grows t (method x) = grows_name t x
grows t (imports x) = grows_name t x
grows t (module_named x) = grows_name t x
grows t (takes m x) = and_on t (with_name t m) (with_name (with_name t m) x) (grows_name t m) (grows_name (with_name t m) x)
grows t (marks l) = grows_line t l
grows t (marks_again l) = grows_line t l
grows t (plain i) = grown t

grows_all : (t : Tables) (cs : List Cell) → Grows t (tables_of t cs)
grows_all t [] = grown t
grows_all t (c ∷ cs) = and_on t (tables_with t c.op) (tables_of (tables_with t c.op) cs) (grows t c.op) (grows_all (tables_with t c.op) cs)

-- ---- what an instruction names is in the lists

abbrev HasName : Tables → Text → Type 0
HasName t x = place_in is_same_text t.names x < length t.names

abbrev HasGlobal : Tables → Text → Type 0
HasGlobal t x = is_among t.own x ≡ false → HasName t x

abbrev HasLine : Tables → ℕ → Type 0
HasLine t l = place_in (λ a b. a == b) t.lines l < length t.lines

abbrev Has : Tables → Op → Type 0
Has t (constant k) = place_in is_same_constant t.constants k < length t.constants
Has t (load x) = HasGlobal t x
Has t (store x) = HasGlobal t x
Has t (unset x) = HasGlobal t x
Has t (attribute x) = HasName t x
Has t (method x) = HasName t x
Has t (imports x) = HasName t x
Has t (module_named x) = HasName t x
Has t (takes m x) = HasName t m × HasName t x
Has t (marks l) = HasLine t l
Has t (marks_again l) = HasLine t l
Has t (plain i) = Unit {0}

has_name : (t : Tables) (x : Text) → HasName (with_name t x) x
has_name t x = place_added is_same_text x (text_is_same x) t.names

has_global : (t : Tables) (x : Text) → HasGlobal (with_global_name t x) x
has_global t x = by_case (is_among t.own x) refl
  where
    by_case : (b : Bool) → is_among t.own x ≡ b → HasGlobal (if b then t else record t { names = add_new is_same_text t.names x }) x
    by_case true e = λ no. absurd (let twice = sym e ∙ no in cc)
    by_case false e = λ no. has_name t x

has_line : (t : Tables) (l : ℕ) → HasLine (record t { lines = add_new (λ a b. a == b) t.lines l }) l
has_line t l = place_added (λ a b. a == b) l (line_is_same l) t.lines

kept_name : (t v : Tables) (x : Text) → Grows t v → HasName t x → place_in is_same_text v.names x ≡ place_in is_same_text t.names x
kept_name t v x g lt = place_stays is_same_text t.names v.names x g.names lt

longer : (t v : Tables) (x : Text) → Grows t v → HasName t x → HasName v x
longer t v x g lt =
    let same = kept_name t v x g lt in
    let more_names : length v.names ≡ length t.names + length g.names.0 = ap length g.names.1 ∙ length_of t.names g.names.0 in omega (arith, same, more_names)
  where
    length_of : (xs ys : List Text) → length (xs ++ ys) ≡ length xs + length ys
    length_of [] ys = omega arith
    length_of (x ∷ xs) ys = let h = length_of xs ys in omega (arith, h)

has : (t : Tables) (op : Op) → Has (tables_with t op) op
has t (constant k) = place_added is_same_constant k (constant_is_same k) t.constants
has t (load x) = has_global t x
has t (store x) = has_global t x
has t (unset x) = has_global t x
has t (attribute x) = has_name t x
has t (method x) = has_name t x
has t (imports x) = has_name t x
has t (module_named x) = has_name t x
has t (takes m x) = (longer (with_name t m) (with_name (with_name t m) x) m (grows_name (with_name t m) x) (has_name t m), has_name (with_name t m) x)
has t (marks l) = has_line t l
has t (marks_again l) = has_line t l
has t (plain i) = tt

-- ---- instructions

kept_line : (t v : Tables) (l : ℕ) → Grows t v → HasLine t l → place_in (λ a b. a == b) v.lines l ≡ place_in (λ a b. a == b) t.lines l
kept_line t v l g lt = place_stays (λ a b. a == b) t.lines v.lines l g.lines lt

same_instr : (t v : Tables) (op : Op) → Grows t v → Has t op → instr_of v op ≡ instr_of t op
same_instr t v (constant k) g h = ap ConstantAt (place_stays is_same_constant t.constants v.constants k g.constants h)
same_instr t v (load x) g h =
    ap (λ o. if is_among o x then LoadLocal (place_in is_same_text o x) else LoadGlobal (place_in is_same_text v.names x)) g.own
    ∙ chosen (is_among t.own x) (LoadLocal (place_in is_same_text t.own x)) (LoadGlobal (place_in is_same_text v.names x)) (LoadGlobal (place_in is_same_text t.names x)) (λ e. ap LoadGlobal (kept_name t v x g (h e)))
same_instr t v (store x) g h =
    ap (λ o. if is_among o x then StoreLocal (place_in is_same_text o x) else StoreGlobal (place_in is_same_text v.names x)) g.own
    ∙ chosen (is_among t.own x) (StoreLocal (place_in is_same_text t.own x)) (StoreGlobal (place_in is_same_text v.names x)) (StoreGlobal (place_in is_same_text t.names x)) (λ e. ap StoreGlobal (kept_name t v x g (h e)))
same_instr t v (unset x) g h =
    ap (λ o. if is_among o x then UnsetLocal (place_in is_same_text o x) else UnsetGlobal (place_in is_same_text v.names x)) g.own
    ∙ chosen (is_among t.own x) (UnsetLocal (place_in is_same_text t.own x)) (UnsetGlobal (place_in is_same_text v.names x)) (UnsetGlobal (place_in is_same_text t.names x)) (λ e. ap UnsetGlobal (kept_name t v x g (h e)))
same_instr t v (attribute x) g h = ap Attribute (kept_name t v x g h)
same_instr t v (method x) g h = ap Method (kept_name t v x g h)
same_instr t v (imports x) g h = ap Import (kept_name t v x g h)
same_instr t v (module_named x) g h = ap Module (kept_name t v x g h)
same_instr t v (takes m x) g h = ap (λ n. Take n (place_in is_same_text v.names x)) (kept_name t v m g h.0) ∙ ap (Take (place_in is_same_text t.names m)) (kept_name t v x g h.1)
same_instr t v (marks l) g h = ap Mark (kept_line t v l g h)
same_instr t v (marks_again l) g h = ap Again (kept_line t v l g h)
same_instr t v (plain i) g h = refl

-- after all other cells an instruction is as it was
pub stays : (t : Tables) (op : Op) (cs : List Cell) → instr_of (tables_with t op) op ≡ instr_of (tables_of (tables_with t op) cs) op
stays t op cs = sym (same_instr (tables_with t op) (tables_of (tables_with t op) cs) op (grows_all (tables_with t op) cs) (has t op))

-- the first of two names
pub first_stays : (t : Tables) (m x : Text) → place_in is_same_text (with_name t m).names m ≡ place_in is_same_text (with_name (with_name t m) x).names m
first_stays t m x = sym (kept_name (with_name t m) (with_name (with_name t m) x) m (grows_name (with_name t m) x) (has_name t m))
