-- Suites: pieces of code that are left at their end or by the ways out of what stands round them.
--     Leads, Outs                    ways out lead ahead, to places that keep operands
--     outs_before and the like       the same ways out from parts of a suite
--     exit_break and the like        instructions that take a way out
--     exits_fit                      the four ways after a suite that each way out goes through
use Rattle.std.proofs.Common.{◌≡◌, ℕ, suc, ◌+◌, ◌<◌, ◌≤◌, List, ◌∷◌, ◌++◌, Option, Some, refl, ap, ◌∙◌, arith}
use Rattle.py_code.specs.declared.instr.Instr.TheVariants.{Goto, Return, Leave, Breaking, Continuing, Returning}
use Rattle.py_compile_expr.specs.Cells.{plain, Guard, Cell, cell}
use Rattle.py_compile.specs.Statements.{exits_code}
use Rattle.py_compile.specs.Ways.{Route, out, straight, through, Ways, lower, under, in_finally, in_try, in_loop, in_clause, break_exit, continue_exit, return_exit}
use Rattle.py_code_laws.proofs.Blocks.{Layout, LiesAhead, Fits, Block, seq, front}
use Rattle.py_code_laws.proofs.Pieces.{Handles, Run, At, Any, FourAt, handled_before, ahead_of, fits_by, goes, finish}

-- a way out takes operands away, and leads to a place where the others stand, with k more
pub record Way (k drops to q d : ℕ) (l : Layout) : Type 0 where
  pub below : ℕ
  pub split : d ≡ drops + below
  pub stands : l.depth to ≡ Some (k + below)
  pub ahead : q ≤ to

abbrev pub Leads : Route → (q d : ℕ) → Layout → Type 0
Leads out q d l = Unit {0}
Leads (straight drops to) q d l = Way 0 drops to q d l
Leads (through drops to) q d l = Way 1 drops to q d l

-- the ways out of a suite that ends at a place
pub record Outs (w : Ways) (q : ℕ) (l : Layout) : Type 0 where
  pub breaks : Leads w.on_break q w.depth l
  pub continues : Leads w.on_continue q w.depth l
  pub returns : Leads w.on_return q w.depth l

abbrev pub Suite : (units : ℕ) → Ways → (p q n : ℕ) → List Cell → Type 0
Suite units w p q n cs = Block units (Run w.guard w.depth q w.depth (Outs w q)) (At p w.depth Any) p n cs

-- ---- ways out of parts

leads_before : (r : Route) (q s d : ℕ) (l : Layout) → s ≤ q → Leads r q d l → Leads r s d l
leads_before out q s d l le h = tt
leads_before (straight drops to) q s d l le h = record { below = h.below; split = h.split; stands = h.stands; ahead = omega (arith, le, h.ahead) }
leads_before (through drops to) q s d l le h = record { below = h.below; split = h.split; stands = h.stands; ahead = omega (arith, le, h.ahead) }

leads_under : (r : Route) (q d : ℕ) (l : Layout) → Leads r q d l → Leads (lower r) q (suc d) l
leads_under out q d l h = tt
leads_under (straight drops to) q d l h = record { below = h.below; split = omega (arith, h.split); stands = h.stands; ahead = h.ahead }
leads_under (through drops to) q d l h = record { below = h.below; split = omega (arith, h.split); stands = h.stands; ahead = h.ahead }

pub outs_before : (w : Ways) (q s : ℕ) (l : Layout) → s ≤ q → Outs w q l → Outs w s l
outs_before w q s l le h = record {
  breaks = leads_before w.on_break q s w.depth l le h.breaks;
  continues = leads_before w.on_continue q s w.depth l le h.continues;
  returns = leads_before w.on_return q s w.depth l le h.returns;
}

pub outs_under : (w : Ways) (q : ℕ) (l : Layout) → Outs w q l → Outs (under w) q l
outs_under w q l h = record {
  breaks = leads_under w.on_break q w.depth l h.breaks;
  continues = leads_under w.on_continue q w.depth l h.continues;
  returns = leads_under w.on_return q w.depth l h.returns;
}

pub outs_clause : (w : Ways) (q : ℕ) (l : Layout) → Outs w q l → Outs (in_clause w) q l
outs_clause w q l h = record {
  breaks = leads_under w.on_break q w.depth l h.breaks;
  continues = leads_under w.on_continue q w.depth l h.continues;
  returns = leads_under w.on_return q w.depth l h.returns;
}

pub outs_try : (w : Ways) (to q : ℕ) (l : Layout) → Outs w q l → Outs (in_try w to) q l
outs_try w to q l h = record { breaks = h.breaks; continues = h.continues; returns = h.returns }

-- each leads to a place where the way stands on top
pub outs_finally : (w : Ways) (to q : ℕ) (l : Layout) → l.depth to ≡ Some (suc w.depth) → q ≤ to → Outs (in_finally w to) q l
outs_finally w to q l h le =
    let one : suc w.depth ≡ 1 + w.depth = omega arith in
    let none : w.depth ≡ 0 + w.depth = omega arith in
    let way : Way 1 0 to q w.depth l = record { below = w.depth; split = none; stands = h ∙ ap (λ n. Some n) one; ahead = le } in
    record { breaks = way; continues = way; returns = way }

-- the suite of a loop, below which so many operands stand
pub outs_loop : (w : Ways) (drops end back below : ℕ) (l : Layout) → w.depth ≡ drops + below → l.depth end ≡ Some below → back ≤ end → l.depth back ≡ Some w.depth → Leads w.on_return back w.depth l → Outs (in_loop w drops end back) back l
outs_loop w drops end back below l split h le at returns =
    let none : (n : ℕ) → n ≡ 0 + n = λ n. omega arith in
    record {
      breaks = record { below = below; split = split; stands = h ∙ ap (λ n. Some n) (none below); ahead = le };
      continues = record { below = w.depth; split = none w.depth; stands = at ∙ ap (λ n. Some n) (none w.depth); ahead = omega arith };
      returns = returns;
    }

-- the suite from its front to a place
pub suite_at : (w : Ways) (q s r : ℕ) (l : Layout) → r ≤ q → r ≤ s → l.depth r ≡ Some w.depth → Handles w.guard q w.depth l → Outs w s l → Run w.guard w.depth r w.depth (Outs w r) l
suite_at w q s r l le small e handles outs = record { ends = e; handles = handled_before w.guard q r w.depth l le handles; also = outs_before w s r l small outs }

-- ---- instructions

break_fits : (units : ℕ) (r : Route) (g : Option Guard) (l : Layout) (p q d next : ℕ) → Leads r q d l → p < q → l.depth next ≡ Some d → p < next → LiesAhead l p g → Fits l units p d (cell g (plain (break_exit r next)))
break_fits units out g l p q d next way lt there ahead handler =
    fits_by l units p d d g (plain (Goto next)) _ refl (omega arith) (omega arith) (goes l p next d (0 + d) there (omega arith) ahead, tt) handler tt tt
break_fits units (straight drops to) g l p q d next way lt there ahead handler =
    fits_by l units p d way.below g (plain (Leave drops to)) _ refl way.split (omega (arith, way.split)) (goes l p to (0 + way.below) (0 + way.below) way.stands refl (omega (arith, lt, way.ahead)), tt) handler tt tt
break_fits units (through drops to) g l p q d next way lt there ahead handler =
    fits_by l units p d way.below g (plain (Breaking drops to)) _ refl way.split (omega (arith, way.split)) (goes l p to (1 + way.below) (1 + way.below) way.stands refl (omega (arith, lt, way.ahead)), tt) handler tt tt

continue_fits : (units : ℕ) (r : Route) (g : Option Guard) (l : Layout) (p q d next : ℕ) → Leads r q d l → p < q → l.depth next ≡ Some d → p < next → LiesAhead l p g → Fits l units p d (cell g (plain (continue_exit r next)))
continue_fits units out g l p q d next way lt there ahead handler =
    fits_by l units p d d g (plain (Goto next)) _ refl (omega arith) (omega arith) (goes l p next d (0 + d) there (omega arith) ahead, tt) handler tt tt
continue_fits units (straight drops to) g l p q d next way lt there ahead handler =
    fits_by l units p d way.below g (plain (Leave drops to)) _ refl way.split (omega (arith, way.split)) (goes l p to (0 + way.below) (0 + way.below) way.stands refl (omega (arith, lt, way.ahead)), tt) handler tt tt
continue_fits units (through drops to) g l p q d next way lt there ahead handler =
    fits_by l units p d way.below g (plain (Continuing drops to)) _ refl way.split (omega (arith, way.split)) (goes l p to (1 + way.below) (1 + way.below) way.stands refl (omega (arith, lt, way.ahead)), tt) handler tt tt

return_fits : (units : ℕ) (r : Route) (g : Option Guard) (l : Layout) (p q d : ℕ) → Leads r q d l → p < q → LiesAhead l p g → Fits l units p (suc d) (cell g (plain (return_exit r)))
return_fits units out g l p q d way lt handler = fits_by l units p (suc d) d g (plain Return) _ refl (omega arith) (omega arith) tt handler tt tt
return_fits units (straight drops to) g l p q d way lt handler = fits_by l units p (suc d) d g (plain Return) _ refl (omega arith) (omega arith) tt handler tt tt
return_fits units (through drops to) g l p q d way lt handler =
    fits_by l units p (suc d) way.below g (plain (Returning drops to)) _ refl (omega (arith, way.split)) (omega (arith, way.split)) (goes l p to (1 + way.below) (1 + way.below) way.stands refl (omega (arith, lt, way.ahead)), tt) handler tt tt

module _ {units : ℕ} {y : Layout → Type 0} {q f p k : ℕ} {cs : List Cell} (w : Ways) where
  pub exit_break : (next : ℕ) → p < q → p < next → Block units (Run w.guard w.depth q f (Outs w q)) (At (p + 1) w.depth y) (p + 1) k cs
      → ((l : Layout) → At (p + 1) w.depth y l → Run w.guard w.depth q f (Outs w q) l → l.depth next ≡ Some w.depth)
      → Block units (Run w.guard w.depth q f (Outs w q)) (At p w.depth (At (p + 1) w.depth y)) p (1 + k) (cell w.guard (plain (break_exit w.on_break next)) ∷ cs)
  exit_break next lt ahead tail there_too =
      front w.depth (cell w.guard (plain (break_exit w.on_break next))) tail (λ l h. h)
      (λ l here mark there h. break_fits units w.on_break w.guard l p q w.depth next h.also.breaks lt (there_too l there h) ahead (ahead_of w.guard p q w.depth l lt h.handles))
      (λ l here mark there h. (here, there))

  pub exit_continue : {e : ℕ} (next : ℕ) → p < q → p < next → Block units (Run w.guard w.depth q f (Outs w q)) (At (p + 1) e y) (p + 1) k cs
      → ((l : Layout) → At (p + 1) e y l → Run w.guard w.depth q f (Outs w q) l → l.depth next ≡ Some w.depth)
      → Block units (Run w.guard w.depth q f (Outs w q)) (At p w.depth (At (p + 1) e y)) p (1 + k) (cell w.guard (plain (continue_exit w.on_continue next)) ∷ cs)
  exit_continue next lt ahead tail there_too =
      front w.depth (cell w.guard (plain (continue_exit w.on_continue next))) tail (λ l h. h)
      (λ l here mark there h. continue_fits units w.on_continue w.guard l p q w.depth next h.also.continues lt (there_too l there h) ahead (ahead_of w.guard p q w.depth l lt h.handles))
      (λ l here mark there h. (here, there))

  -- with the value on top
  pub exit_return : {e : ℕ} → p < q → Block units (Run w.guard w.depth q f (Outs w q)) (At (p + 1) e y) (p + 1) k cs
      → Block units (Run w.guard w.depth q f (Outs w q)) (At p (suc w.depth) (At (p + 1) e y)) p (1 + k) (cell w.guard (plain (return_exit w.on_return)) ∷ cs)
  exit_return lt tail =
      front (suc w.depth) (cell w.guard (plain (return_exit w.on_return))) tail (λ l h. h)
      (λ l here mark there h. return_fits units w.on_return w.guard l p q w.depth h.also.returns lt (ahead_of w.guard p q w.depth l lt h.handles))
      (λ l here mark there h. (here, there))

pub exits_fit : {units : ℕ} (w : Ways) (p q : ℕ) → p + 3 ≡ q → Block units (Run w.guard w.depth q w.depth (Outs w q)) (FourAt p w.depth Any) p 3 (exits_code w p)
exits_fit w p q at =
    exit_break w (p + 3) (omega arith) (omega arith)
    (exit_continue w (p + 3) (omega arith) (omega arith)
    (exit_return w (omega arith) (finish (omega arith) refl))
    (λ l there h. ap l.depth at ∙ h.ends))
    (λ l there h. ap l.depth at ∙ h.ends)

-- the same in front of what follows
pub exits_then : {units : ℕ} {N y : Layout → Type 0} {k : ℕ} {ys : List Cell} (w : Ways) (p : ℕ) → Block units N (At (p + 1 + 1 + 1) w.depth y) (p + 1 + 1 + 1) k ys
    → ((l : Layout) → At (p + 1 + 1 + 1) w.depth y l → N l → Run w.guard w.depth (p + 1 + 1 + 1) w.depth (Outs w (p + 1 + 1 + 1)) l)
    → Block units N (FourAt p w.depth y) p (3 + k) (exits_code w p ++ ys)
exits_then w p tail f = seq (omega arith) (exits_fit w p (p + 1 + 1 + 1) (omega arith)) tail (λ l h. h) f (λ l here there h. (here.0, (here.1.0, (here.1.1.0, there))))
