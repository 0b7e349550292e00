-- Places of a unit to which something may lead, and cells there.
--     Free, GuardFree       no function with defaults is made there
--     Makes, AllMake        cells at their places make functions as the units ask
--     Made                  the same of a piece of code, at whose first place no such function is made
--     put_made, seq_made    a cell in front, and pieces in a row
--     part_then             a piece, and what follows it
use Rattle.std.proofs.Common.{◌≡◌, ℕ, suc, ◌+◌, Bool, true, false, List, [], ◌∷◌, ◌++◌, length, Option, Some, None, refl, ap, ◌∙◌, subst, arith}
use Rattle.std.specs.Prelude.{slice_get, if◌then◌else◌}
use Rattle.py_syntax.specs.Names.{is_among}
use Rattle.py_code.specs.declared.instr.Instr.{Instr}
use Rattle.py_code.specs.declared.instr.Instr.TheVariants.{LoadLocal, StoreLocal, UnsetLocal, LoadGlobal, StoreGlobal, UnsetGlobal, List as MakeList, Function, FunctionWith}
use Rattle.py_code.specs.Footprints.{footprint}
use Rattle.py_code.specs.Units.{Code}
use Rattle.py_compile_expr.specs.Cells.{Op, constant, load, store, unset, attribute, method, imports, module_named, takes, marks, marks_again, plain, Guard, Cell, cell, Tables, instr_of}
use Rattle.py_compile_expr.specs.Stands.{tables_in, StandsAt, HasAt}
use Rattle.py_compile_expr.proofs.Places.{has_front}
use Rattle.py_code_laws.proofs.Blocks.{print, IsPlain, IsNamed}
use Rattle.py_world_laws.specs.Making.{made_with, LeadElsewhere, IsHanded, MakesAt}

abbrev pub Free : Code → ℕ → Type 0
Free u p = made_with (slice_get u.instrs p) ≡ None

abbrev pub GuardFree : Code → Option Guard → Type 0
GuardFree u None = Unit {0}
GuardFree u (Some g) = Free u g.target

-- a cell at a place, and its handler
pub record Makes (us : List Code) (u : Code) (p : ℕ) (c : Cell) : Type 0 where
  pub at : MakesAt us u p (instr_of (tables_in u) c.op)
  pub handler : GuardFree u c.guard

abbrev pub AllMake : List Code → Code → ℕ → List Cell → Type 0
AllMake us u p [] = Unit {0}
AllMake us u p (c ∷ cs) = Makes us u p c × AllMake us u (p + 1) cs

pub record Made (us : List Code) (u : Code) (p : ℕ) (cs : List Cell) : Type 0 where
  pub free : Free u p
  pub all : AllMake us u p cs

-- ---- instructions that make no function

made_by : (t : Tables) (op : Op) → IsNamed 0 op → made_with (Some (instr_of t op)) ≡ None
made_by t (constant k) named = refl
made_by t (load x) named = by_case (is_among t.own x) _ _
  where
    by_case : (b : Bool) (m n : ℕ) → made_with (Some (if b then LoadLocal m else LoadGlobal n)) ≡ None
    by_case true m n = refl
    by_case false m n = refl
made_by t (store x) named = by_case (is_among t.own x) _ _
  where
    by_case : (b : Bool) (m n : ℕ) → made_with (Some (if b then StoreLocal m else StoreGlobal n)) ≡ None
    by_case true m n = refl
    by_case false m n = refl
made_by t (unset x) named = by_case (is_among t.own x) _ _
  where
    by_case : (b : Bool) (m n : ℕ) → made_with (Some (if b then UnsetLocal m else UnsetGlobal n)) ≡ None
    by_case true m n = refl
    by_case false m n = refl
made_by t (attribute x) named = refl
made_by t (method x) named = refl
made_by t (imports x) named = refl
made_by t (module_named x) named = refl
made_by t (takes m x) named = refl
made_by t (marks l) named = refl
made_by t (marks_again l) named = refl
made_by t (plain (FunctionWith k)) named = let lt = named.1 in absurd (omega (arith, lt))
made_by t (plain i) named = refl

pub op_free : (u : Code) (p : ℕ) (c : Cell) → IsNamed 0 c.op → StandsAt u p c → Free u p
op_free u p c named k = ap made_with k.instr ∙ made_by (tables_in u) c.op named

handed : (us : List Code) (n : ℕ) (o : Option ℕ) → o ≡ None → IsHanded us n o
handed us n None h = tt
handed us n (Some k) h = absurd cc

plain_at : (us : List Code) (u : Code) (p : ℕ) (i : Instr) → IsPlain 0 i → LeadElsewhere u (footprint p i).exits → MakesAt us u p i
plain_at us u p (MakeList n) named h = handed us n (made_with (slice_get u.instrs (suc p))) h.0
plain_at us u p (Function k) named h = let lt = named.1 in absurd (omega (arith, lt))
plain_at us u p i named h = h

pub op_at : (us : List Code) (u : Code) (p : ℕ) (op : Op) → IsNamed 0 op → LeadElsewhere u (print p op).exits → MakesAt us u p (instr_of (tables_in u) op)
op_at us u p (constant k) named h = h
op_at us u p (load x) named h = by_case (is_among u.locals x) _ _
  where
    by_case : (b : Bool) (m n : ℕ) → MakesAt us u p (if b then LoadLocal m else LoadGlobal n)
    by_case true m n = h
    by_case false m n = h
op_at us u p (store x) named h = by_case (is_among u.locals x) _ _
  where
    by_case : (b : Bool) (m n : ℕ) → MakesAt us u p (if b then StoreLocal m else StoreGlobal n)
    by_case true m n = h
    by_case false m n = h
op_at us u p (unset x) named h = by_case (is_among u.locals x) _ _
  where
    by_case : (b : Bool) (m n : ℕ) → MakesAt us u p (if b then UnsetLocal m else UnsetGlobal n)
    by_case true m n = h
    by_case false m n = h
op_at us u p (attribute x) named h = h
op_at us u p (method x) named h = h
op_at us u p (imports x) named h = h
op_at us u p (module_named x) named h = h
op_at us u p (takes m x) named h = h
op_at us u p (marks l) named h = h
op_at us u p (marks_again l) named h = h
op_at us u p (plain i) named h = plain_at us u p i named h

-- ---- pieces in a row

both_make : (us : List Code) (u : Code) (p r : ℕ) (xs ys : List Cell) → r ≡ p + length xs → AllMake us u p xs → AllMake us u r ys → AllMake us u p (xs ++ ys)
both_make us u p r [] ys at a b = subst (λ q. AllMake us u q ys) (omega arith) b
both_make us u p r (x ∷ xs) ys at a b = (a.0, both_make us u (p + 1) r xs ys (omega arith) a.1 b)

-- a place that is written otherwise
pub free_at : (u : Code) (p q : ℕ) → p ≡ q → Free u p → Free u q
free_at u p q e h = subst (λ r. Free u r) e h

module _ (us : List Code) (u : Code) where
  pub nothing : (p q : ℕ) → q ≡ p → Free u q → Made us u p []
  nothing p q e h = record { free = free_at u q p e h; all = tt }

  pub moved : {cs : List Cell} (p q : ℕ) → p ≡ q → Made us u p cs → Made us u q cs
  moved {cs} p q e m = subst (λ r. Made us u r cs) e m

  -- a cell in front, which is told that no function is made at the next place
  pub put_made : (g : Option Guard) (p : ℕ) (op : Op) {cs : List Cell} → Made us u (p + 1) cs → IsNamed 0 op → GuardFree u g → (Free u (suc p) → LeadElsewhere u (print p op).exits) → StandsAt u p (cell g op) → Made us u p (cell g op ∷ cs)
  put_made g p op m named guard leads k = record {
    free = op_free u p (cell g op) named k;
    all = (record { at = op_at us u p op named (leads (free_at u (p + 1) (suc p) (omega arith) m.free)); handler = guard }, m.all);
  }

  -- the last one of a unit
  pub last_made : (g : Option Guard) (p : ℕ) (op : Op) → IsNamed 0 op → GuardFree u g → LeadElsewhere u (print p op).exits → StandsAt u p (cell g op) → Made us u p (cell g op ∷ [])
  last_made g p op named guard leads k = record { free = op_free u p (cell g op) named k; all = (record { at = op_at us u p op named leads; handler = guard }, tt) }

  pub seq_made : {xs ys : List Cell} (p n r : ℕ) → length xs ≡ n → r ≡ p + n → Made us u p xs → Made us u r ys → Made us u p (xs ++ ys)
  seq_made {xs} {ys} p n r long at a b = record { free = a.free; all = both_make us u p r xs ys (omega arith) a.all b.all }

  -- a piece, and what follows it
  pub part_then : (p n : ℕ) (xs : List Cell) {ys : List Cell} → length xs ≡ n → (Free u (p + n) → HasAt u p xs → Made us u p xs) → Made us u (p + n) ys → HasAt u p (xs ++ ys) → Made us u p (xs ++ ys)
  part_then p n xs {ys} long make m has = seq_made p n (p + n) long refl (make m.free (has_front u p xs ys has)) m
