-- Pieces of code whose places have one number of operands each, whatever stands round them.
--     Layout                         how many operands stand at each place, and whether it marks a line
--     print                          what a cell finds and leaves, and where it goes on
--     Fits, AllFit                   cells at places
--     Block                          a piece of code
--     after, step, fork, jump, stop  pieces in a row
use Rattle.std.proofs.Common.{◌≡◌, ℕ, suc, ◌+◌, ◌<◌, ◌≤◌, ◌⊎◌, Bool, true, false, List, [], ◌∷◌, ◌++◌, length, Option, Some, None, refl, sym, ap, ◌∙◌, subst, arith}
use Rattle.std.proofs.lemmas.List.{length-append}
use Rattle.py_code.specs.declared.instr.Instr.{Instr}
use Rattle.py_code.specs.declared.instr.Instr.TheVariants.{Constant, Pop, Copy, Sink, Roll, LoadLocal, StoreLocal, UnsetLocal, LoadGlobal, StoreGlobal, UnsetGlobal, Text, Extend, Tuple, List as MakeList, Dict, AddPair, Not, Binary, InPlace, Compare, Index, Slice, Attribute, StoreIndex, Unpack}
use Rattle.py_code.specs.declared.instr.Instr.TheVariants.{Goto, IfFalse, IfTrue, And, Or, Link, Unless, Sequence, Mark, Again, Walk, Next as NextItem, Method, Call, Return, Function, FunctionWith, Import, Module as LoadModule, Take}
use Rattle.py_code.specs.declared.instr.Instr.TheVariants.{Raise, Reraise, Assertion, AssertionWith, Catches, Caught, Uncaught, Leave, Ending, Breaking, Continuing, Returning, Settle, Release}
use Rattle.py_code.specs.Footprints.{Exit, Footprint, quiet, risky, footprint}
use Rattle.py_compile_expr.specs.Cells.{Op, constant, load, store, unset, attribute, method, imports, module_named, takes, marks, marks_again, plain, Guard, Cell}

pub record Layout : Type 0 where
  pub depth : ℕ → Option ℕ
  pub marked : ℕ → Bool

-- ---- cells

-- what an instruction finds and leaves, whatever the numbers of its names
abbrev pub print : ℕ → Op → Footprint
print p (constant k) = quiet p 0 1
print p (load x) = risky p 0 1
print p (store x) = quiet p 1 0
print p (unset x) = quiet p 0 0
print p (attribute x) = risky p 1 1
print p (method x) = risky p 1 1
print p (imports x) = risky p 0 1
print p (module_named x) = risky p 0 1
print p (takes m x) = risky p 1 2
print p (marks l) = quiet p 0 0
print p (marks_again l) = quiet p 0 0
print p (plain i) = footprint p i

-- a line begins
abbrev pub marks_line : Op → Bool
marks_line (constant k) = false
marks_line (load x) = false
marks_line (store x) = false
marks_line (unset x) = false
marks_line (attribute x) = false
marks_line (method x) = false
marks_line (imports x) = false
marks_line (module_named x) = false
marks_line (takes m x) = false
marks_line (marks l) = true
marks_line (marks_again l) = true
marks_line (plain i) = false

-- an instruction without numbers of the lists of its unit, whose units are functions of so many
abbrev pub IsPlain : ℕ → Instr → Type 0
IsPlain units (Constant n) = ⊥
IsPlain units Pop = Unit {0}
IsPlain units (Copy n) = Unit {0}
IsPlain units (Sink n) = Unit {0}
IsPlain units (Roll n) = Unit {0}
IsPlain units (LoadLocal n) = ⊥
IsPlain units (StoreLocal n) = ⊥
IsPlain units (UnsetLocal n) = ⊥
IsPlain units (LoadGlobal n) = ⊥
IsPlain units (StoreGlobal n) = ⊥
IsPlain units (UnsetGlobal n) = ⊥
IsPlain units Text = Unit {0}
IsPlain units Extend = Unit {0}
IsPlain units (Tuple n) = Unit {0}
IsPlain units (MakeList n) = Unit {0}
IsPlain units Dict = Unit {0}
IsPlain units AddPair = Unit {0}
IsPlain units Not = Unit {0}
IsPlain units (Binary op) = Unit {0}
IsPlain units (InPlace op) = Unit {0}
IsPlain units (Compare q) = Unit {0}
IsPlain units Index = Unit {0}
IsPlain units (Slice b) = Unit {0}
IsPlain units (Attribute n) = ⊥
IsPlain units StoreIndex = Unit {0}
IsPlain units (Unpack n) = Unit {0}
IsPlain units (Goto to) = Unit {0}
IsPlain units (IfFalse to) = Unit {0}
IsPlain units (IfTrue to) = Unit {0}
IsPlain units (And to) = Unit {0}
IsPlain units (Or to) = Unit {0}
IsPlain units (Link q to) = Unit {0}
IsPlain units (Unless n to) = Unit {0}
IsPlain units (Sequence k n to) = Unit {0}
IsPlain units (Mark n) = ⊥
IsPlain units (Again n) = ⊥
IsPlain units Walk = Unit {0}
IsPlain units (NextItem to) = Unit {0}
IsPlain units (Method n) = ⊥
IsPlain units (Call n) = Unit {0}
IsPlain units Return = Unit {0}
IsPlain units (Function k) = (0 < k) × (k < units)
IsPlain units (FunctionWith k) = (0 < k) × (k < units)
IsPlain units (Import n) = ⊥
IsPlain units (LoadModule n) = ⊥
IsPlain units (Take m n) = ⊥
IsPlain units Raise = Unit {0}
IsPlain units (Reraise n) = Unit {0}
IsPlain units Assertion = Unit {0}
IsPlain units AssertionWith = Unit {0}
IsPlain units Catches = Unit {0}
IsPlain units Caught = Unit {0}
IsPlain units Uncaught = Unit {0}
IsPlain units (Leave n to) = Unit {0}
IsPlain units Ending = Unit {0}
IsPlain units (Breaking n to) = Unit {0}
IsPlain units (Continuing n to) = Unit {0}
IsPlain units (Returning n to) = Unit {0}
IsPlain units Settle = Unit {0}
IsPlain units Release = Unit {0}

abbrev pub IsNamed : ℕ → Op → Type 0
IsNamed units (constant k) = Unit {0}
IsNamed units (load x) = Unit {0}
IsNamed units (store x) = Unit {0}
IsNamed units (unset x) = Unit {0}
IsNamed units (attribute x) = Unit {0}
IsNamed units (method x) = Unit {0}
IsNamed units (imports x) = Unit {0}
IsNamed units (module_named x) = Unit {0}
IsNamed units (takes m x) = Unit {0}
IsNamed units (marks l) = Unit {0}
IsNamed units (marks_again l) = Unit {0}
IsNamed units (plain i) = IsPlain units i

-- ---- where a cell goes on

pub record Goes (l : Layout) (p to d : ℕ) : Type 0 where
  pub stands : l.depth to ≡ Some d
  pub ahead : (p < to) ⊎ (l.marked to ≡ true)

abbrev pub GoAll : Layout → ℕ → ℕ → List Exit → Type 0
GoAll l p rest [] = Unit {0}
GoAll l p rest (e ∷ es) = Goes l p e.to (e.leaves + rest) × GoAll l p rest es

-- its handler lies ahead
abbrev pub LiesAhead : Layout → ℕ → Option Guard → Type 0
LiesAhead l p None = Unit {0}
LiesAhead l p (Some g) = (l.depth g.target ≡ Some (suc g.depth)) × (p < g.target)

-- where so many operands are left, a handler finds those that it keeps
abbrev pub Leaves : Option Guard → ℕ → Type 0
Leaves None rest = Unit {0}
Leaves (Some g) rest = g.depth ≤ rest

abbrev pub LeavesIf : Bool → Option Guard → ℕ → Type 0
LeavesIf false g rest = Unit {0}
LeavesIf true g rest = Leaves g rest

-- a cell at a place where so many operands stand
pub record Fits (l : Layout) (units p d : ℕ) (c : Cell) : Type 0 where
  pub rest : ℕ
  pub split : d ≡ (print p c.op).takes + rest
  pub enough : (print p c.op).needs ≤ d
  pub leads : GoAll l p rest (print p c.op).exits
  pub handler : LiesAhead l p c.guard
  pub leaves : LeavesIf (print p c.op).raises c.guard rest
  pub named : IsNamed units c.op

abbrev pub AllFit : Layout → ℕ → ℕ → List Cell → List ℕ → Type 0
AllFit l units p [] ds = Unit {0}
AllFit l units p (c ∷ cs) [] = ⊥
AllFit l units p (c ∷ cs) (d ∷ ds) = Fits l units p d c × AllFit l units (p + 1) cs ds

-- ---- pieces of code

abbrev pub Stands : Layout → ℕ → List ℕ → Type 0
Stands l p [] = Unit {0}
Stands l p (d ∷ ds) = (l.depth p ≡ Some d) × Stands l (p + 1) ds

abbrev pub MarksLines : Layout → ℕ → List Cell → Type 0
MarksLines l p [] = Unit {0}
MarksLines l p (c ∷ cs) = (l.marked p ≡ marks_line c.op) × MarksLines l (p + 1) cs

-- Code from a place on, so long, which fits every layout that has its depths and what it needs, and gives something about that layout.
pub record Block (units : ℕ) (N P : Layout → Type 0) (p n : ℕ) (cs : List Cell) : Type 0 where
  pub depths : List ℕ
  pub long : length depths ≡ n
  pub size : length cs ≡ n
  pub gives : (l : Layout) → Stands l p depths → MarksLines l p cs → N l → P l
  pub fits : (l : Layout) → Stands l p depths → MarksLines l p cs → N l → AllFit l units p cs depths

-- ---- lists in a row

stands_first : (l : Layout) (p : ℕ) (xs ys : List ℕ) → Stands l p (xs ++ ys) → Stands l p xs
stands_first l p [] ys h = tt
stands_first l p (x ∷ xs) ys h = (h.0, stands_first l (p + 1) xs ys h.1)

stands_last : (l : Layout) (p : ℕ) (xs ys : List ℕ) → Stands l p (xs ++ ys) → Stands l (p + length xs) ys
stands_last l p [] ys h = let at : p ≡ p + 0 = omega arith in subst (λ n. Stands l n ys) at h
stands_last l p (x ∷ xs) ys h = let at : p + 1 + length xs ≡ p + suc (length xs) = omega arith in subst (λ n. Stands l n ys) at (stands_last l (p + 1) xs ys h.1)

marks_first : (l : Layout) (p : ℕ) (xs ys : List Cell) → MarksLines l p (xs ++ ys) → MarksLines l p xs
marks_first l p [] ys h = tt
marks_first l p (x ∷ xs) ys h = (h.0, marks_first l (p + 1) xs ys h.1)

marks_last : (l : Layout) (p : ℕ) (xs ys : List Cell) → MarksLines l p (xs ++ ys) → MarksLines l (p + length xs) ys
marks_last l p [] ys h = let at : p ≡ p + 0 = omega arith in subst (λ n. MarksLines l n ys) at h
marks_last l p (x ∷ xs) ys h = let at : p + 1 + length xs ≡ p + suc (length xs) = omega arith in subst (λ n. MarksLines l n ys) at (marks_last l (p + 1) xs ys h.1)

fit_both : (l : Layout) (units p : ℕ) (cs : List Cell) (ds : List ℕ) (xs : List Cell) (es : List ℕ) → length ds ≡ length cs → AllFit l units p cs ds → AllFit l units (p + length cs) xs es → AllFit l units p (cs ++ xs) (ds ++ es)
fit_both l units p [] [] xs es e a b = let at : p + 0 ≡ p = omega arith in subst (λ n. AllFit l units n xs es) at b
fit_both l units p [] (d ∷ ds) xs es e a b = absurd cc
fit_both l units p (c ∷ cs) [] xs es e a b = absurd a
fit_both l units p (c ∷ cs) (d ∷ ds) xs es e a b =
    let at : p + suc (length cs) ≡ p + 1 + length cs = omega arith in
    (a.0, fit_both l units (p + 1) cs ds xs es (omega arith) a.1 (subst (λ n. AllFit l units n xs es) at b))

-- ---- pieces in a row

pub resize : {units : ℕ} {N P : Layout → Type 0} {p n m : ℕ} {cs : List Cell} → n ≡ m → Block units N P p n cs → Block units N P p m cs
resize e b = record { depths = b.depths; long = b.long ∙ e; size = b.size ∙ e; gives = b.gives; fits = b.fits }

pub weaken : {units : ℕ} {N N' P P' : Layout → Type 0} {p n : ℕ} {cs : List Cell} → ((l : Layout) → N' l → N l) → ((l : Layout) → N' l → P l → P' l) → Block units N P p n cs → Block units N' P' p n cs
weaken f g b = record {
  depths = b.depths;
  long = b.long;
  size = b.size;
  gives = λ l s m h. g l h (b.gives l s m (f l h));
  fits = λ l s m h. b.fits l s m (f l h);
}

pub seq : {units : ℕ} {N N1 N2 P1 P2 P : Layout → Type 0} {p n r k : ℕ} {xs ys : List Cell} → r ≡ p + n → Block units N1 P1 p n xs → Block units N2 P2 r k ys
    → ((l : Layout) → N l → N2 l) → ((l : Layout) → P2 l → N l → N1 l) → ((l : Layout) → P1 l → P2 l → N l → P l) → Block units N P p (n + k) (xs ++ ys)
seq {units} {N} {N1} {N2} {P1} {P2} {P} {p} {n} {r} {k} {xs} {ys} at a b f g h =
    let first : (l : Layout) → Stands l p (a.depths ++ b.depths) → Stands l p a.depths = λ l s. stands_first l p a.depths b.depths s in
    let second : (l : Layout) → Stands l p (a.depths ++ b.depths) → Stands l r b.depths = λ l s.
    subst (λ q. Stands l q b.depths) (ap (λ c. p + c) a.long ∙ sym at) (stands_last l p a.depths b.depths s) in
    let first_m : (l : Layout) → MarksLines l p (xs ++ ys) → MarksLines l p xs = λ l m. marks_first l p xs ys m in
    let second_m : (l : Layout) → MarksLines l p (xs ++ ys) → MarksLines l r ys = λ l m. subst (λ q. MarksLines l q ys) (ap (λ c. p + c) a.size ∙ sym at) (marks_last l p xs ys m) in
    let later : (l : Layout) → Stands l p (a.depths ++ b.depths) → MarksLines l p (xs ++ ys) → N l → P2 l = λ l s m i. b.gives l (second l s) (second_m l m) (f l i) in
    record {
      depths = a.depths ++ b.depths;
      long = length-append a.depths b.depths ∙ ap (λ c. c + length b.depths) a.long ∙ ap (λ c. n + c) b.long;
      size = length-append xs ys ∙ ap (λ c. c + length ys) a.size ∙ ap (λ c. n + c) b.size;
      gives = λ l s m i. h l (a.gives l (first l s) (first_m l m) (g l (later l s m i) i)) (later l s m i) i;
      fits = λ l s m i. fit_both l units p xs a.depths ys b.depths (a.long ∙ sym a.size)
          (a.fits l (first l s) (first_m l m) (g l (later l s m i) i))
          (subst (λ q. AllFit l units q ys b.depths) (at ∙ ap (λ c. p + c) (sym a.size)) (b.fits l (second l s) (second_m l m) (f l i)));
    }

-- a cell in front, of whose place something is needed further on
pub lead : {units : ℕ} {N N2 P2 P : Layout → Type 0} {p k : ℕ} {cs : List Cell} (d : ℕ) (c : Cell) → Block units N2 P2 (p + 1) k cs
    → ((l : Layout) → l.depth p ≡ Some d → l.marked p ≡ marks_line c.op → N l → N2 l)
    → ((l : Layout) → l.depth p ≡ Some d → l.marked p ≡ marks_line c.op → P2 l → N l → Fits l units p d c)
    → ((l : Layout) → l.depth p ≡ Some d → l.marked p ≡ marks_line c.op → P2 l → N l → P l) → Block units N P p (1 + k) (c ∷ cs)
lead {units} {N} {N2} {P2} {P} {p} {k} {cs} d c b f g h =
    let one : (n : ℕ) → suc n ≡ 1 + n = λ n. omega arith in
    record {
      depths = d ∷ b.depths;
      long = ap suc b.long ∙ one k;
      size = ap suc b.size ∙ one k;
      gives = λ l s m i. h l s.0 m.0 (b.gives l s.1 m.1 (f l s.0 m.0 i)) i;
      fits = λ l s m i. (g l s.0 m.0 (b.gives l s.1 m.1 (f l s.0 m.0 i)) i, b.fits l s.1 m.1 (f l s.0 m.0 i));
    }

-- a cell in front
pub front : {units : ℕ} {N N2 P2 P : Layout → Type 0} {p k : ℕ} {cs : List Cell} (d : ℕ) (c : Cell) → Block units N2 P2 (p + 1) k cs
    → ((l : Layout) → N l → N2 l)
    → ((l : Layout) → l.depth p ≡ Some d → l.marked p ≡ marks_line c.op → P2 l → N l → Fits l units p d c)
    → ((l : Layout) → l.depth p ≡ Some d → l.marked p ≡ marks_line c.op → P2 l → N l → P l) → Block units N P p (1 + k) (c ∷ cs)
front d c b f g h = lead d c b (λ l here mark i. f l i) g h

pub none : {units : ℕ} {N P : Layout → Type 0} {p : ℕ} → ((l : Layout) → N l → P l) → Block units N P p 0 []
none f = record { depths = []; long = refl; size = refl; gives = λ l s m i. f l i; fits = λ l s m i. tt }
