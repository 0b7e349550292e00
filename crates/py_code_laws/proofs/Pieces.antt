-- Pieces of code with one handler, which go on at their end or jump.
--     Handles, Run, At, Any          what a piece needs of a layout, and what it gives
--     step, fork, jump, stop         an instruction in front
--     turn, jump_back                the mark of a further turn, and the jump back to it
--     spread                         an instruction that goes on at one of the four places of a way out
--     after, beside, placed, finish  pieces in a row
use Rattle.std.proofs.Common.{◌≡◌, ℕ, suc, ◌+◌, ◌<◌, ◌≤◌, inl, inr, Bool, true, false, List, [], ◌∷◌, ◌++◌, Option, Some, None, refl, sym, ap, ◌∙◌, subst, arith}
use Rattle.py_code.specs.declared.instr.Instr.TheVariants.{Goto}
use Rattle.py_code.specs.Footprints.{exit, Footprint, ways}
use Rattle.py_compile_expr.specs.Cells.{Op, marks_again, plain, Guard, Cell, cell}
use Rattle.py_code_laws.proofs.Blocks.{Layout, print, IsNamed, Goes, GoAll, LiesAhead, LeavesIf, Fits, Block, weaken, seq, lead, front, none}

abbrev pub Handles : Option Guard → (q m : ℕ) → Layout → Type 0
Handles None q m l = Unit {0}
Handles (Some g) q m l = (g.depth ≤ m) × (l.depth g.target ≡ Some (suc g.depth)) × (q ≤ g.target)

-- so many operands stand at its end, its handler lies there or further on, and finds operands of those below
pub record Run (g : Option Guard) (m q f : ℕ) (z : Layout → Type 0) (l : Layout) : Type 0 where
  pub ends : l.depth q ≡ Some f
  pub handles : Handles g q m l
  pub also : z l

abbrev pub At : (p d : ℕ) → (Layout → Type 0) → Layout → Type 0
At p d y l = (l.depth p ≡ Some d) × y l

abbrev pub Any : Layout → Type 0
Any l = Unit {0}

pub handled_before : (g : Option Guard) (q r m : ℕ) (l : Layout) → r ≤ q → Handles g q m l → Handles g r m l
handled_before None q r m l le h = tt
handled_before (Some g) q r m l le h = (h.0, h.1, omega (arith, le, h.2))

pub handled_above : (g : Option Guard) (q m n : ℕ) (l : Layout) → m ≤ n → Handles g q m l → Handles g q n l
handled_above None q m n l le h = tt
handled_above (Some g) q m n l le h = (omega (arith, le, h.0), h.1, h.2)

pub ahead_of : (g : Option Guard) (p q m : ℕ) (l : Layout) → p < q → Handles g q m l → LiesAhead l p g
ahead_of None p q m l lt h = tt
ahead_of (Some g) p q m l lt h = (h.1, omega (arith, lt, h.2))

pub left_over : (b : Bool) (g : Option Guard) (q m rest : ℕ) (l : Layout) → m ≤ rest → Handles g q m l → LeavesIf b g rest
left_over false g q m rest l le h = tt
left_over true None q m rest l le h = tt
left_over true (Some g) q m rest l le h = omega (arith, le, h.0)

pub fits_by : (l : Layout) (units p d rest : ℕ) (g : Option Guard) (op : Op) (f : Footprint) → print p op ≡ f → d ≡ f.takes + rest → f.needs ≤ d → GoAll l p rest f.exits → LiesAhead l p g → LeavesIf f.raises g rest → IsNamed units op → Fits l units p d (cell g op)
fits_by l units p d rest g op f e split enough leads handler leaves named = record {
  rest = rest;
  split = subst (λ (k : Footprint). d ≡ k.takes + rest) (sym e) split;
  enough = subst (λ (k : Footprint). k.needs ≤ d) (sym e) enough;
  leads = subst (λ (k : Footprint). GoAll l p rest k.exits) (sym e) leads;
  handler = handler;
  leaves = subst (λ (k : Footprint). LeavesIf k.raises g rest) (sym e) leaves;
  named = named;
}

pub goes : (l : Layout) (p to d e : ℕ) → l.depth to ≡ Some d → d ≡ e → p < to → Goes l p to e
goes l p to d e h is lt = record { stands = h ∙ ap (λ n. Some n) is; ahead = inl lt }

pub next_place : (l : Layout) (p e : ℕ) → l.depth (p + 1) ≡ Some e → l.depth (suc p) ≡ Some e
next_place l p e h = let same : suc p ≡ p + 1 = omega arith in ap l.depth same ∙ h

-- so many operands stand at a place that is written otherwise
pub elsewhere : (l : Layout) {a b d : ℕ} → l.depth a ≡ Some d → b ≡ a → l.depth b ≡ Some d
elsewhere l h same = ap l.depth same ∙ h

goes_on : (l : Layout) (p at to d e : ℕ) → l.depth at ≡ Some d → to ≡ at → d ≡ e → p < to → Goes l p to e
goes_on l p at to d e h same is lt = goes l p to d e (ap l.depth same ∙ h) is lt

-- at a mark
goes_back : (l : Layout) (p to d e : ℕ) → l.depth to ≡ Some d → l.marked to ≡ true → d ≡ e → Goes l p to e
goes_back l p to d e h mark is = record { stands = h ∙ ap (λ n. Some n) is; ahead = inr mark }

-- the places of the four ways out of a suite
abbrev pub FourAt : (p d : ℕ) → (Layout → Type 0) → Layout → Type 0
FourAt p d y = At p d (At (p + 1) d (At (p + 1 + 1) (suc d) (At (p + 1 + 1 + 1) d y)))

-- a line is marked there, where so many operands stand
pub record Marked (to d : ℕ) (z : Layout → Type 0) (l : Layout) : Type 0 where
  pub here : l.depth to ≡ Some d
  pub mark : l.marked to ≡ true
  pub also : z l

module _ {units : ℕ} {z y : Layout → Type 0} {g : Option Guard} {m q f p k : ℕ} {cs : List Cell} where
  -- goes on at the next place
  pub step : (op : Op) (takes leaves rest d e : ℕ) (b : Bool) → print p op ≡ record { needs = takes; takes = takes; exits = exit (suc p) leaves ∷ []; raises = b } → d ≡ takes + rest → e ≡ leaves + rest → m ≤ rest → IsNamed units op → p < q
      → Block units (Run g m q f z) (At (p + 1) e y) (p + 1) k cs → Block units (Run g m q f z) (At p d (At (p + 1) e y)) p (1 + k) (cell g op ∷ cs)
  step op takes leaves rest d e b is split out low named lt next =
      front d (cell g op) next (λ l h. h)
      (λ l here mark there h. fits_by l units p d rest g op _ is split (omega arith) (goes l p (suc p) e (leaves + rest) (next_place l p e there.0) out (omega arith), tt) (ahead_of g p q m l lt h.handles) (left_over b g q m rest l low h.handles) named)
      (λ l here mark there h. (here, there))

  -- the same without an exception
  pub calm : (op : Op) (takes leaves rest d e : ℕ) → print p op ≡ record { needs = takes; takes = takes; exits = exit (suc p) leaves ∷ []; raises = false } → d ≡ takes + rest → e ≡ leaves + rest → IsNamed units op → p < q
      → Block units (Run g m q f z) (At (p + 1) e y) (p + 1) k cs → Block units (Run g m q f z) (At p d (At (p + 1) e y)) p (1 + k) (cell g op ∷ cs)
  calm op takes leaves rest d e is split out named lt next =
      front d (cell g op) next (λ l h. h)
      (λ l here mark there h. fits_by l units p d rest g op _ is split (omega arith) (goes l p (suc p) e (leaves + rest) (next_place l p e there.0) out (omega arith), tt) (ahead_of g p q m l lt h.handles) tt named)
      (λ l here mark there h. (here, there))

  -- goes on at the next place, or at another one
  pub fork : (op : Op) (takes stay go rest d e x to : ℕ) (b : Bool) → print p op ≡ record { needs = takes; takes = takes; exits = exit (suc p) stay ∷ exit to go ∷ []; raises = b } → d ≡ takes + rest → e ≡ stay + rest → x ≡ go + rest → m ≤ rest → IsNamed units op → p < to → p < q
      → Block units (Run g m q f z) (At (p + 1) e y) (p + 1) k cs → ((l : Layout) → At (p + 1) e y l → Run g m q f z l → l.depth to ≡ Some x) → Block units (Run g m q f z) (At p d (At (p + 1) e y)) p (1 + k) (cell g op ∷ cs)
  fork op takes stay go rest d e x to b is split out other low named ahead lt next there_too =
      front d (cell g op) next (λ l h. h)
      (λ l here mark there h. fits_by l units p d rest g op _ is split (omega arith) (goes l p (suc p) e (stay + rest) (next_place l p e there.0) out (omega arith), (goes l p to x (go + rest) (there_too l there h) other ahead, tt)) (ahead_of g p q m l lt h.handles) (left_over b g q m rest l low h.handles) named)
      (λ l here mark there h. (here, there))

  -- goes on at another place
  pub jump : (op : Op) (takes go rest d e x to : ℕ) (b : Bool) → print p op ≡ record { needs = takes; takes = takes; exits = exit to go ∷ []; raises = b } → d ≡ takes + rest → x ≡ go + rest → m ≤ rest → IsNamed units op → p < to → p < q
      → Block units (Run g m q f z) (At (p + 1) e y) (p + 1) k cs → ((l : Layout) → At (p + 1) e y l → Run g m q f z l → l.depth to ≡ Some x) → Block units (Run g m q f z) (At p d (At (p + 1) e y)) p (1 + k) (cell g op ∷ cs)
  jump op takes go rest d e x to b is split other low named ahead lt next there_too =
      front d (cell g op) next (λ l h. h)
      (λ l here mark there h. fits_by l units p d rest g op _ is split (omega arith) (goes l p to x (go + rest) (there_too l there h) other ahead, tt) (ahead_of g p q m l lt h.handles) (left_over b g q m rest l low h.handles) named)
      (λ l here mark there h. (here, there))

  -- goes on nowhere in the unit
  pub stop : (op : Op) (needs takes rest d e : ℕ) (b : Bool) → print p op ≡ record { needs = needs; takes = takes; exits = []; raises = b } → d ≡ takes + rest → needs ≤ d → m ≤ rest → IsNamed units op → p < q
      → Block units (Run g m q f z) (At (p + 1) e y) (p + 1) k cs → Block units (Run g m q f z) (At p d (At (p + 1) e y)) p (1 + k) (cell g op ∷ cs)
  stop op needs takes rest d e b is split enough low named lt next =
      front d (cell g op) next (λ l h. h)
      (λ l here mark there h. fits_by l units p d rest g op _ is split enough tt (ahead_of g p q m l lt h.handles) (left_over b g q m rest l low h.handles) named)
      (λ l here mark there h. (here, there))

  -- marks a line, to which a jump further on may lead back
  pub turn : (line d at : ℕ) → at ≡ p → p < q
      → Block units (Run g m q f (Marked at d z)) (At (p + 1) d y) (p + 1) k cs → Block units (Run g m q f z) (At p d (At (p + 1) d y)) p (1 + k) (cell g (marks_again line) ∷ cs)
  turn line d at same lt next =
      lead d (cell g (marks_again line)) next (λ l here mark h. record { ends = h.ends; handles = h.handles; also = record { here = ap l.depth same ∙ here; mark = ap l.marked same ∙ mark; also = h.also } })
      (λ l here mark there h. fits_by l units p d d g (marks_again line) _ refl (omega arith) (omega arith) (goes l p (suc p) d (0 + d) (next_place l p d there.0) (omega arith) (omega arith), tt) (ahead_of g p q m l lt h.handles) tt tt)
      (λ l here mark there h. (here, there))

  -- goes on at a mark
  pub jump_back : (d e to : ℕ) → p < q
      → Block units (Run g m q f z) (At (p + 1) e y) (p + 1) k cs → ((l : Layout) → z l → (l.depth to ≡ Some d) × (l.marked to ≡ true)) → Block units (Run g m q f z) (At p d (At (p + 1) e y)) p (1 + k) (cell g (plain (Goto to)) ∷ cs)
  jump_back d e to lt next there_too =
      front d (cell g (plain (Goto to))) next (λ l h. h)
      (λ l here mark there h. fits_by l units p d d g (plain (Goto to)) _ refl (omega arith) (omega arith) (goes_back l p to d (0 + d) (there_too l h.also).0 (there_too l h.also).1 (omega arith), tt) (ahead_of g p q m l lt h.handles) tt tt)
      (λ l here mark there h. (here, there))

  -- takes a way out, and goes on at one of four places
  pub spread : (op : Op) (d rest : ℕ) → print p op ≡ record { needs = 1; takes = 1; exits = ways p; raises = true } → d ≡ 1 + rest → m ≤ rest → IsNamed units op → p < q
      → Block units (Run g m q f z) (FourAt (p + 1) rest y) (p + 1) k cs
      → Block units (Run g m q f z) (At p d (FourAt (p + 1) rest y)) p (1 + k) (cell g op ∷ cs)
  spread op d rest is split low named lt next =
      front d (cell g op) next (λ l h. h)
      (λ l here mark there h. fits_by l units p d rest g op _ is split (omega arith) (
        goes_on l p (p + 1 + 1 + 1 + 1) (4 + p) rest (0 + rest) there.1.1.1.0 (omega arith) (omega arith) (omega arith),
        (
          goes_on l p (p + 1) (1 + p) rest (0 + rest) there.0 (omega arith) (omega arith) (omega arith),
          (
            goes_on l p (p + 1 + 1) (2 + p) rest (0 + rest) there.1.0 (omega arith) (omega arith) (omega arith),
            (goes_on l p (p + 1 + 1 + 1) (3 + p) (suc rest) (1 + rest) there.1.1.0 (omega arith) (omega arith) (omega arith), tt),
          ),
        ),
      ) (ahead_of g p q m l lt h.handles) (left_over true g q m rest l low h.handles) named)
      (λ l here mark there h. (here, there))

-- nothing is left
pub finish : {units : ℕ} {z : Layout → Type 0} {g : Option Guard} {m q f p d : ℕ} → p ≡ q → d ≡ f → Block units (Run g m q f z) (At p d Any) p 0 []
finish {units} {z} {g} {m} {q} {f} {p} {d} e same = none (λ l h. (ap l.depth e ∙ h.ends ∙ ap (λ n. Some n) (sym same), tt))

-- a piece, and what follows it
pub after : {units : ℕ} {z w y : Layout → Type 0} {g : Option Guard} {m q f d e p n r k : ℕ} {xs ys : List Cell} → r ≡ p + n → r ≤ q → Block units (Run g m r e Any) (At p d w) p n xs → Block units (Run g m q f z) (At r e y) r k ys
    → Block units (Run g m q f z) (At p d (At r e y)) p (n + k) (xs ++ ys)
after {units} {z} {w} {y} {g} {m} {q} {f} {d} {e} {p} {n} {r} {k} at le a b =
    seq at a b (λ l h. h) (λ l there h. record { ends = there.0; handles = handled_before g q r m l le h.handles; also = tt }) (λ l here there h. (here.0, there))

-- at a place that is written otherwise
pub moved : {units : ℕ} {N y : Layout → Type 0} {p r d n : ℕ} {cs : List Cell} → p ≡ r → Block units N (At p d y) p n cs → Block units N (At r d y) r n cs
moved {units} {N} {y} {p} {r} {d} {n} {cs} e b = subst (λ k. Block units N (At k d y) k n cs) e b

pub four_moved : {units : ℕ} {N y : Layout → Type 0} {p r d n : ℕ} {cs : List Cell} → p ≡ r → Block units N (FourAt p d y) p n cs → Block units N (FourAt r d y) r n cs
four_moved {units} {N} {y} {p} {r} {d} {n} {cs} e b = subst (λ k. Block units N (FourAt k d y) k n cs) e b

-- what is given of places after the first one is of no more use
pub only : {units : ℕ} {N y : Layout → Type 0} {p d n : ℕ} {cs : List Cell} → Block units N (At p d y) p n cs → Block units N (At p d Any) p n cs
only b = weaken (λ l h. h) (λ l h g. (g.0, tt)) b

-- the number of operands at the first place, written otherwise
pub starts : {units : ℕ} {N y : Layout → Type 0} {p d e n : ℕ} {cs : List Cell} → d ≡ e → Block units N (At p d y) p n cs → Block units N (At p e y) p n cs
starts is b = weaken (λ l h. h) (λ l h g. (g.0 ∙ ap (λ n. Some n) is, g.1)) b

-- the same where both pieces need something else
pub beside : {units : ℕ} {z w y : Layout → Type 0} {g : Option Guard} {m q f d e p n r k : ℕ} {xs ys : List Cell} → r ≡ p + n → r ≤ q → Block units (Run g m r e z) (At p d w) p n xs → Block units (Run g m q f z) (At r e y) r k ys
    → Block units (Run g m q f z) (At p d (At r e y)) p (n + k) (xs ++ ys)
beside {units} {z} {w} {y} {g} {m} {q} {f} {d} {e} {p} {n} {r} {k} at le a b =
    seq at a b (λ l h. h) (λ l there h. record { ends = there.0; handles = handled_before g q r m l le h.handles; also = h.also }) (λ l here there h. (here.0, there))

-- a piece that needs something of its own, which what follows it tells
pub placed : {units : ℕ} {N N1 w y : Layout → Type 0} {d e p n r k : ℕ} {xs ys : List Cell} → r ≡ p + n → Block units N1 (At p d w) p n xs → Block units N (At r e y) r k ys
    → ((l : Layout) → At r e y l → N l → N1 l) → Block units N (At p d (At r e y)) p (n + k) (xs ++ ys)
placed at a b f = seq at a b (λ l h. h) f (λ l here there h. (here.0, there))

-- what is needed besides, written otherwise
pub also_by : {units : ℕ} {z v P : Layout → Type 0} {g : Option Guard} {m q f p n : ℕ} {cs : List Cell} → ((l : Layout) → v l → z l) → Block units (Run g m q f z) P p n cs → Block units (Run g m q f v) P p n cs
also_by f b = weaken (λ l h. record { ends = h.ends; handles = h.handles; also = f l h.also }) (λ l h g. g) b

pub anywhere : {units : ℕ} {z P : Layout → Type 0} {g : Option Guard} {m q f p n : ℕ} {cs : List Cell} → Block units (Run g m q f Any) P p n cs → Block units (Run g m q f z) P p n cs
anywhere b = also_by (λ l h. tt) b
