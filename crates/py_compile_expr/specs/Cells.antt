-- Instructions as a tree gives them: with names, constants and lines in place of their numbers.
--     Op, ops                a symbolic instruction
--     Tables, instr_of       the instruction that it is, by the lists of a unit
--     Guard, Cell            an instruction with the handler of its place
use Rattle.std.specs.Prelude.{ℕ, suc, ◌==◌, Bool, true, false, if◌then◌else◌, List, [], ◌∷◌, Option}
use Rattle.std.specs.Ordering.{int_eq}
use Rattle.py_text.specs.Comparison.{is_same_text}
use Rattle.py_syntax.specs.Names.{is_among}
use Rattle.py_syntax.specs.Tree.{Text}
use Rattle.py_code.specs.declared.instr.Instr.{Instr}
use Rattle.py_code.specs.declared.instr.Instr.TheVariants.{Constant as ConstantAt, LoadLocal, StoreLocal, UnsetLocal, LoadGlobal, StoreGlobal, UnsetGlobal, Attribute, Mark, Again, Method, Import, Module, Take}
use Rattle.py_code.specs.declared.unit.Constant.{Constant}
use Rattle.py_code.specs.declared.unit.Constant.TheVariants.{None as NoneConstant, Bool as BoolConstant, Int as IntConstant, Str as StrConstant}

-- a constant, a name that is loaded, stored or unset, an attribute, a method, an import, the module
-- of a name, a name of a module, a line that is marked or marked again; or an instruction that
-- knows neither names nor lines
pub data Op : Type 0 where
  constant : (k : Constant) → Op
  load : (x : Text) → Op
  store : (x : Text) → Op
  unset : (x : Text) → Op
  attribute : (x : Text) → Op
  method : (x : Text) → Op
  imports : (x : Text) → Op
  module_named : (x : Text) → Op
  takes : (m x : Text) → Op
  marks : (l : ℕ) → Op
  marks_again : (l : ℕ) → Op
  plain : (i : Instr) → Op

-- where an exception goes on, and with how many operands
pub record Guard : Type 0 where
  pub target : ℕ
  pub depth : ℕ

-- an instruction with the handler of its place, if there is one
pub record Cell : Type 0 where
  pub op : Op
  pub guard : Option Guard

-- a cell by its parts
abbrev pub cell : Option Guard → Op → Cell
cell g op = record { op = op; guard = g }

-- a cell in front of others
abbrev pub put : Option Guard → Op → List Cell → List Cell
put g op cs = cell g op ∷ cs

-- ---- numbers in lists

-- the place of the first one that is the same, or the length of the list
abbrev pub place_in : {A : Type 0} → (A → A → Bool) → List A → A → ℕ
place_in same [] x = 0
place_in same (y ∷ ys) x = if same x y then 0 else suc (place_in same ys x)

-- whether two constants are one: of one kind, and equal
abbrev pub is_same_constant : Constant → Constant → Bool
is_same_constant NoneConstant NoneConstant = true
is_same_constant NoneConstant (BoolConstant b) = false
is_same_constant NoneConstant (IntConstant n) = false
is_same_constant NoneConstant (StrConstant y) = false
is_same_constant (BoolConstant a) NoneConstant = false
is_same_constant (BoolConstant a) (BoolConstant b) = if a then b else (if b then false else true)
is_same_constant (BoolConstant a) (IntConstant n) = false
is_same_constant (BoolConstant a) (StrConstant y) = false
is_same_constant (IntConstant m) NoneConstant = false
is_same_constant (IntConstant m) (BoolConstant b) = false
is_same_constant (IntConstant m) (IntConstant n) = int_eq m n
is_same_constant (IntConstant m) (StrConstant y) = false
is_same_constant (StrConstant x) NoneConstant = false
is_same_constant (StrConstant x) (BoolConstant b) = false
is_same_constant (StrConstant x) (IntConstant n) = false
is_same_constant (StrConstant x) (StrConstant y) = is_same_text x y

-- each once, where it first stands
abbrev pub add_new : {A : Type 0} → (A → A → Bool) → List A → A → List A
add_new same [] x = x ∷ []
add_new same (y ∷ ys) x = if same x y then y ∷ ys else y ∷ add_new same ys x

-- the lists of a unit
pub record Tables : Type 0 where
  pub own : List Text
  pub names : List Text
  pub constants : List Constant
  pub lines : List ℕ

-- the place of a name among those that are no slots
abbrev pub name_at : Tables → Text → ℕ
name_at t x = place_in is_same_text t.names x

-- the place of a line
abbrev pub line_at : Tables → ℕ → ℕ
line_at t l = place_in (λ a b. a == b) t.lines l

-- the instruction that a symbolic one is, by the lists of its unit
abbrev pub instr_of : Tables → Op → Instr
instr_of t (constant k) = ConstantAt (place_in is_same_constant t.constants k)
instr_of t (load x) =
    if is_among t.own x then LoadLocal (place_in is_same_text t.own x) else LoadGlobal (name_at t x)
instr_of t (store x) =
    if is_among t.own x
    then StoreLocal (place_in is_same_text t.own x)
    else StoreGlobal (name_at t x)
instr_of t (unset x) =
    if is_among t.own x
    then UnsetLocal (place_in is_same_text t.own x)
    else UnsetGlobal (name_at t x)
instr_of t (attribute x) = Attribute (name_at t x)
instr_of t (method x) = Method (name_at t x)
instr_of t (imports x) = Import (name_at t x)
instr_of t (module_named x) = Module (name_at t x)
instr_of t (takes m x) = Take (name_at t m) (name_at t x)
instr_of t (marks l) = Mark (line_at t l)
instr_of t (marks_again l) = Again (line_at t l)
instr_of t (plain i) = i

-- a name, unless it is one of the unit's own
abbrev pub with_global_name : Tables → Text → Tables
with_global_name t x =
    if is_among t.own x then t else record t { names = add_new is_same_text t.names x }

-- the lists with a name that is no slot
abbrev pub with_name : Tables → Text → Tables
with_name t x = record t { names = add_new is_same_text t.names x }

-- the lists with what an instruction needs
abbrev pub tables_with : Tables → Op → Tables
tables_with t (constant k) = record t { constants = add_new is_same_constant t.constants k }
tables_with t (load x) = with_global_name t x
tables_with t (store x) = with_global_name t x
tables_with t (unset x) = with_global_name t x
tables_with t (attribute x) = with_name t x
tables_with t (method x) = with_name t x
tables_with t (imports x) = with_name t x
tables_with t (module_named x) = with_name t x
tables_with t (takes m x) = with_name (with_name t m) x
tables_with t (marks l) = record t { lines = add_new (λ a b. a == b) t.lines l }
tables_with t (marks_again l) = record t { lines = add_new (λ a b. a == b) t.lines l }
tables_with t (plain i) = t

-- the lists with what cells need, one after the other
abbrev pub tables_of : Tables → List Cell → Tables
tables_of t [] = t
tables_of t (c ∷ cs) = tables_of (tables_with t c.op) cs
