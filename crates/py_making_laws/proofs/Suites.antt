-- Suites, and the ways out of them.
--     RouteFree, Around       no function is made where ways out lead
--     around_at and the like  the same of parts of a suite, and of suites in it
--     break_made and the like instructions that take a way out
--     Four, exits_make        the four ways after a suite that each way out goes through
use Rattle.std.proofs.Common.{◌≡◌, ℕ, ◌+◌, ◌≤◌, List, ◌∷◌, ◌++◌, Option, arith}
use Rattle.py_code.specs.declared.instr.Instr.TheVariants.{Goto, Return, Leave, Breaking, Continuing, Returning}
use Rattle.py_code.specs.Footprints.{ways}
use Rattle.py_code.specs.Units.{Code}
use Rattle.py_compile_expr.specs.Cells.{plain, Guard, Cell, cell}
use Rattle.py_compile_expr.specs.Stands.{HasAt}
use Rattle.py_compile.specs.Statements.{exits_code}
use Rattle.py_compile.specs.Ways.{Route, out, straight, through, Ways, lower, under, in_finally, in_try, in_loop, in_clause, break_exit, continue_exit, return_exit}
use Rattle.py_world_laws.specs.Making.{LeadElsewhere}
use Rattle.py_making_laws.proofs.Places.{Free, GuardFree, Made, free_at, put_made}
use Rattle.py_making_laws.proofs.Leaves.{FreeAfter, earlier}

abbrev pub RouteFree : Code → Route → Type 0
RouteFree u out = Unit {0}
RouteFree u (straight drops to) = Free u to
RouteFree u (through drops to) = Free u to

-- what a suite that ends at a place needs of what stands round it
pub record Around (u : Code) (w : Ways) (q : ℕ) : Type 0 where
  pub after : FreeAfter u w.guard q
  pub breaks : RouteFree u w.on_break
  pub continues : RouteFree u w.on_continue
  pub returns : RouteFree u w.on_return

lower_free : (u : Code) (r : Route) → RouteFree u r → RouteFree u (lower r)
lower_free u out h = tt
lower_free u (straight drops to) h = h
lower_free u (through drops to) h = h

pub around_at : (u : Code) (w : Ways) (p q : ℕ) → p ≤ q → Free u p → Around u w q → Around u w p
around_at u w p q le free k = record { after = earlier u w.guard p q le free k.after; breaks = k.breaks; continues = k.continues; returns = k.returns }

pub around_under : (u : Code) (w : Ways) (q : ℕ) → Around u w q → Around u (under w) q
around_under u w q k = record { after = k.after; breaks = lower_free u w.on_break k.breaks; continues = lower_free u w.on_continue k.continues; returns = lower_free u w.on_return k.returns }

pub around_clause : (u : Code) (w : Ways) (q : ℕ) → Around u w q → Around u (in_clause w) q
around_clause u w q k = record { after = k.after; breaks = lower_free u w.on_break k.breaks; continues = lower_free u w.on_continue k.continues; returns = lower_free u w.on_return k.returns }

pub around_try : (u : Code) (w : Ways) (to q : ℕ) → Free u to → q ≤ to → Around u w q → Around u (in_try w to) q
around_try u w to q free le k = record { after = record { ends = k.after.ends; guard = free; past = le }; breaks = k.breaks; continues = k.continues; returns = k.returns }

pub around_finally : (u : Code) (w : Ways) (to q : ℕ) → Free u to → q ≤ to → Free u q → Around u (in_finally w to) q
around_finally u w to q free le end = record { after = record { ends = end; guard = free; past = le }; breaks = free; continues = free; returns = free }

pub around_loop : (u : Code) (w : Ways) (drops end back : ℕ) → Free u end → Around u w back → Around u (in_loop w drops end back) back
around_loop u w drops end back free k = record { after = k.after; breaks = free; continues = k.after.ends; returns = k.returns }

-- the four ways in front of what follows, and that no function is made at any of them
pub record Four (us : List Code) (u : Code) (w : Ways) (p : ℕ) (ys : List Cell) : Type 0 where
  pub made : Made us u p (exits_code w p ++ ys)
  pub second : Free u (p + 1)
  pub third : Free u (p + 1 + 1)
  pub last : Free u (p + 1 + 1 + 1)

module _ (us : List Code) (u : Code) where
  -- ---- instructions

  pub break_made : (g : Option Guard) (p next : ℕ) (r : Route) {cs : List Cell} → Made us u (p + 1) cs → RouteFree u r → Free u next → GuardFree u g → HasAt u p (cell g (plain (break_exit r next)) ∷ cs) → Made us u p (cell g (plain (break_exit r next)) ∷ cs)
  break_made g p next out m way free guard has = put_made us u g p (plain (Goto next)) m tt guard (λ f. (free, tt)) has.0
  break_made g p next (straight drops to) m way free guard has = put_made us u g p (plain (Leave drops to)) m tt guard (λ f. (way, tt)) has.0
  break_made g p next (through drops to) m way free guard has = put_made us u g p (plain (Breaking drops to)) m tt guard (λ f. (way, tt)) has.0

  pub continue_made : (g : Option Guard) (p next : ℕ) (r : Route) {cs : List Cell} → Made us u (p + 1) cs → RouteFree u r → Free u next → GuardFree u g → HasAt u p (cell g (plain (continue_exit r next)) ∷ cs) → Made us u p (cell g (plain (continue_exit r next)) ∷ cs)
  continue_made g p next out m way free guard has = put_made us u g p (plain (Goto next)) m tt guard (λ f. (free, tt)) has.0
  continue_made g p next (straight drops to) m way free guard has = put_made us u g p (plain (Leave drops to)) m tt guard (λ f. (way, tt)) has.0
  continue_made g p next (through drops to) m way free guard has = put_made us u g p (plain (Continuing drops to)) m tt guard (λ f. (way, tt)) has.0

  pub return_made : (g : Option Guard) (p : ℕ) (r : Route) {cs : List Cell} → Made us u (p + 1) cs → RouteFree u r → GuardFree u g → HasAt u p (cell g (plain (return_exit r)) ∷ cs) → Made us u p (cell g (plain (return_exit r)) ∷ cs)
  return_made g p out m way guard has = put_made us u g p (plain Return) m tt guard (λ f. tt) has.0
  return_made g p (straight drops to) m way guard has = put_made us u g p (plain Return) m tt guard (λ f. tt) has.0
  return_made g p (through drops to) m way guard has = put_made us u g p (plain (Returning drops to)) m tt guard (λ f. (way, tt)) has.0

  -- ---- the four ways after a suite

  pub exits_make : (w : Ways) (p : ℕ) {ys : List Cell} → Made us u (p + 1 + 1 + 1) ys → Around u w (p + 3) → HasAt u p (exits_code w p ++ ys) → Four us u w p ys
  exits_make w p m k has =
      let g = w.guard in
      let third = return_made g (p + 1 + 1) w.on_return m k.returns k.after.guard has.1.1 in
      let second = continue_made g (p + 1) (p + 3) w.on_continue third k.continues k.after.ends k.after.guard has.1 in
      record { made = break_made g p (p + 3) w.on_break second k.breaks k.after.ends k.after.guard has; second = second.free; third = third.free; last = m.free }

  -- an instruction in front of them goes on at one of the four
  pub ways_free : {w : Ways} {ys : List Cell} (p e : ℕ) → e ≡ p + 1 → Four us u w e ys → LeadElsewhere u (ways p)
  ways_free p e at f = (
    free_at u (e + 1 + 1 + 1) (4 + p) (omega arith) f.last,
    (
      free_at u e (1 + p) (omega arith) f.made.free,
      (free_at u (e + 1) (2 + p) (omega arith) f.second, (free_at u (e + 1 + 1) (3 + p) (omega arith) f.third, tt)),
    ),
  )
