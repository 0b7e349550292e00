-- The handler table of code: ranges one after another, each in front of its target.
use Rattle.std.proofs.Common.{◌≡◌, ℕ, zero, suc, ◌+◌, ◌≤◌, ◌==◌, inl, inr, Bool, true, false, List, [], ◌∷◌, ◌++◌, length, Option, Some, None, refl, sym, ap, ◌∙◌, subst, arith}
use Rattle.std.specs.Prelude.{slice_get, ◌&&◌, if◌then◌else◌}
use Rattle.std.proofs.lemmas.Bool.Decides.{Decides-eqb}
use Rattle.py_code.specs.declared.unit.Handler.{Handler}
use Rattle.py_code.specs.Units.{Code}
use Rattle.py_code.specs.Valid.{AreNested, IsTable}
use Rattle.py_compile_expr.specs.Cells.{Guard, Cell}
use Rattle.py_compile.specs.Units.{is_same_guard, is_same, closed, ranges, handlers_of}
use Rattle.py_code_laws.proofs.Blocks.{Layout, LiesAhead, AllFit}
use Rattle.py_code_laws.proofs.Layouts.{layout_of}

-- ---- handlers that are the same

and_both : (a b : Bool) → (a && b) ≡ true → (a ≡ true) × (b ≡ true)
and_both true true e = (refl, refl)
and_both true false e = absurd cc
and_both false b e = absurd cc

same_guard : (a b : Guard) → is_same_guard a b ≡ true → a ≡ b
same_guard a b e =
    let k = and_both (a.target == b.target) (a.depth == b.depth) e in
    let t : a.target ≡ b.target = (Decides-eqb a.target b.target).0 k.0 in
    let d : a.depth ≡ b.depth = (Decides-eqb a.depth b.depth).0 k.1 in
    ap (λ n. record { target = n; depth = a.depth }) t ∙ ap (λ n. record { target = b.target; depth = n }) d

same_one : (g h : Option Guard) → is_same g h ≡ true → g ≡ h
same_one None None e = refl
same_one None (Some h) e = absurd cc
same_one (Some g) None e = absurd cc
same_one (Some g) (Some h) e = ap (λ k. Some k) (same_guard g h e)

-- ---- ranges in a row

-- a range from one place to another, in front of its target
pub record Row (l : Layout) (low high : ℕ) (h : Handler) : Type 0 where
  pub begins : low ≤ h.from
  pub ordered : h.from ≤ h.to
  pub ends : h.to ≤ high
  pub after : h.to ≤ h.target
  pub stands : l.depth h.target ≡ Some (suc h.depth)

abbrev pub Rows : Layout → (low high : ℕ) → List Handler → Type 0
Rows l low high [] = Unit {0}
Rows l low high (h ∷ hs) = Row l low high h × Rows l h.to high hs

-- a handler whose range is open in front of a place
abbrev pub Open : Layout → ℕ → Option Guard → Type 0
Open l p None = Unit {0}
Open l p (Some g) = (l.depth g.target ≡ Some (suc g.depth)) × (p ≤ g.target)

opened : (l : Layout) (p : ℕ) (g : Option Guard) → LiesAhead l p g → Open l (p + 1) g
opened l p None b = tt
opened l p (Some g) b = (b.0, omega (arith, b.1))

lower : (l : Layout) (low at high : ℕ) (hs : List Handler) → low ≤ at → Rows l at high hs → Rows l low high hs
lower l low at high [] le r = tt
lower l low at high (h ∷ hs) le r = (record { begins = omega (arith, le, r.0.begins); ordered = r.0.ordered; ends = r.0.ends; after = r.0.after; stands = r.0.stands }, r.1)

row : (l : Layout) (low from p high : ℕ) (g : Guard) → low ≤ from → from ≤ p → p ≤ high → Open l p (Some g) → Row l low high (record { from = from; to = p; target = g.target; depth = g.depth })
row l low from p high g begins ordered ends o = record { begins = begins; ordered = ordered; ends = ends; after = o.1; stands = o.0 }

closed_rows : (l : Layout) (low from p high : ℕ) (g : Option Guard) (hs : List Handler) → low ≤ from → from ≤ p → p ≤ high → Open l p g → Rows l p high hs → Rows l low high (closed from p g ++ hs)
closed_rows l low from p high None hs begins ordered ends o r = lower l low p high hs (omega (arith, begins, ordered)) r
closed_rows l low from p high (Some g) hs begins ordered ends o r = (row l low from p high g begins ordered ends o, r)

range_rows : (l : Layout) (units low from : ℕ) (g : Option Guard) (p high : ℕ) (cs : List Cell) (ds : List ℕ) → AllFit l units p cs ds → low ≤ from → from ≤ p → p + length cs ≡ high → Open l p g → Rows l low high (ranges from g p cs)
range_rows l units low from g p high [] ds all begins ordered end o = alone g o
  where
    alone : (k : Option Guard) → Open l p k → Rows l low high (closed from p k)
    alone None o = tt
    alone (Some k) o = (row l low from p high k begins ordered (omega (arith, end)) o, tt)
range_rows l units low from g p high (c ∷ cs) [] all begins ordered end o = absurd all
range_rows l units low from g p high (c ∷ cs) (d ∷ ds) all begins ordered end o =
    by_case (is_same g c.guard) refl (λ next. range_rows l units low from g (p + 1) high cs ds all.1 begins (omega (arith, ordered)) (omega (arith, end)) next)
    (range_rows l units p p c.guard (p + 1) high cs ds all.1 (omega arith) (omega arith) (omega (arith, end)) (opened l p c.guard all.0.handler))
  where
    by_case : (b : Bool) → is_same g c.guard ≡ b → (Open l (p + 1) g → Rows l low high (ranges from g (p + 1) cs)) → Rows l p high (ranges p c.guard (p + 1) cs)
        → Rows l low high (if b then ranges from g (p + 1) cs else closed from p g ++ ranges p c.guard (p + 1) cs)
    by_case true e h k = h (subst (λ x. Open l (p + 1) x) (sym (same_one g c.guard e)) (opened l p c.guard all.0.handler))
    by_case false e h k = closed_rows l low from p high g (ranges p c.guard (p + 1) cs) begins ordered (omega (arith, end)) o k

-- ---- the table

row_at : (l : Layout) (low high : ℕ) (hs : List Handler) → Rows l low high hs → (n : ℕ) (h : Handler) → slice_get hs n ≡ Some h → Row l low high h
row_at l low high [] r n h e = absurd cc
row_at l low high (x ∷ xs) r zero h e = let same : x ≡ h = cc in subst (λ y. Row l low high y) same r.0
row_at l low high (x ∷ xs) r (suc n) h e =
    let k = row_at l x.to high xs r.1 n h e in
    let b = r.0.begins in
    let o = r.0.ordered in
    record { begins = omega (arith, b, o, k.begins); ordered = k.ordered; ends = k.ends; after = k.after; stands = k.stands }

nested_rows : (l : Layout) (low high : ℕ) (hs : List Handler) → Rows l low high hs → (m n : ℕ) (h k : Handler) → slice_get hs m ≡ Some h → slice_get hs n ≡ Some k → AreNested h k
nested_rows l low high [] r m n h k e f = absurd cc
nested_rows l low high (x ∷ xs) r zero zero h k e f =
    let same : h ≡ k = cc in
    let first = ap (λ (y : Handler). y.from) same in
    let last = ap (λ (y : Handler). y.to) same in
    inr (inr (inl (omega (arith, first), omega (arith, last))))
nested_rows l low high (x ∷ xs) r zero (suc n) h k e f =
    let same : x ≡ h = cc in
    let last = ap (λ (y : Handler). y.to) same in
    let other = (row_at l x.to high xs r.1 n k f).begins in
    inl (omega (arith, last, other))
nested_rows l low high (x ∷ xs) r (suc m) zero h k e f =
    let same : x ≡ k = cc in
    let last = ap (λ (y : Handler). y.to) same in
    let other = (row_at l x.to high xs r.1 m h e).begins in
    inr (inl (omega (arith, last, other)))
nested_rows l low high (x ∷ xs) r (suc m) (suc n) h k e f = nested_rows l x.to high xs r.1 m n h k e f

pub table : (u : Code) (units : ℕ) (cs : List Cell) (ds : List ℕ) → AllFit (layout_of cs ds) units 0 cs ds → length u.instrs ≡ length cs → u.handlers ≡ handlers_of cs → IsTable u ds
table u units cs ds all whole is =
    let rows = range_rows (layout_of cs ds) units 0 0 None 0 (length cs) cs ds all (omega arith) (omega arith) (omega arith) tt in
    record {
      each = λ n h e.
          let r = row_at (layout_of cs ds) 0 (length cs) (handlers_of cs) rows n h (sym (ap (λ hs. slice_get hs n) is) ∙ e) in
          let ends = r.ends in
          record { ordered = r.ordered; inside = omega (arith, ends, whole); after = r.after; stands = r.stands };
      nested = λ m n h k e f. nested_rows (layout_of cs ds) 0 (length cs) (handlers_of cs) rows m n h k (sym (ap (λ hs. slice_get hs m) is) ∙ e) (sym (ap (λ hs. slice_get hs n) is) ∙ f);
    }
