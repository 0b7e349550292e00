-- How the code of a suite goes on where it is left.
--     Route                          where one way out leads
--     Ways, under, in_finally        all of them
--     in_hand                        whether a bare `raise` has an exception
--     break_exit and the like        the instructions that take them
use Rattle.std.specs.Prelude.{Bool, true, false, ℕ, suc, Option, Some, None}
use Rattle.py_code.specs.declared.instr.Instr.{Instr}
use Rattle.py_code.specs.declared.instr.Instr.TheVariants.{Goto, Return, Leave, Breaking, Continuing, Returning}
use Rattle.py_compile_expr.specs.Cells.{Guard}

-- Nowhere inside the body, straight on, or through the suite of a `finally`; so many operands are
-- taken away.
pub data Route : Type 0 where
  out : Route
  straight : (drops to : ℕ) → Route
  through : (drops to : ℕ) → Route

-- Where `break`, `continue` and `return` lead, the handler, how many operands stand below, and how
-- many stand below the exception that is handled.
pub record Ways : Type 0 where
  pub on_break : Route
  pub on_continue : Route
  pub on_return : Route
  pub guard : Option Guard
  pub depth : ℕ
  pub handled : Option ℕ

-- the body of a module or a function, whose statements end at a place. Outside of a loop `break`
-- and `continue` lead there too
abbrev pub outermost : (end : ℕ) → Ways
outermost end = record {
  on_break = straight 0 end;
  on_continue = straight 0 end;
  on_return = out;
  guard = None;
  depth = 0;
  handled = None;
}

-- a way out with one more operand to take away
abbrev pub lower : Route → Route
lower out = out
lower (straight drops to) = straight (suc drops) to
lower (through drops to) = through (suc drops) to

-- with one more operand below
abbrev pub under : Ways → Ways
under w = record w {
  on_break = lower w.on_break;
  on_continue = lower w.on_continue;
  on_return = lower w.on_return;
  depth = suc w.depth;
}

-- in front of a suite that each way out goes through
abbrev pub in_finally : Ways → ℕ → Ways
in_finally w to = record w {
  on_break = through 0 to;
  on_continue = through 0 to;
  on_return = through 0 to;
  guard = Some (record { target = to; depth = w.depth });
}

-- in the body of a `try` whose clauses begin there
abbrev pub in_try : Ways → ℕ → Ways
in_try w to = record w { guard = Some (record { target = to; depth = w.depth }) }

-- in the suite of a loop on whose line `break` goes on, and `continue` at the jump back
abbrev pub in_loop : Ways → (drops end back : ℕ) → Ways
in_loop w drops end back = record w { on_break = straight drops end; on_continue = straight 0 back }

-- in the suite of a clause: the exception stands on top of what stood there
abbrev pub in_clause : Ways → Ways
in_clause w = record (under w) { handled = Some w.depth }

-- whether an exception is handled
abbrev pub is_there : Option ℕ → Bool
is_there None = false
is_there (Some n) = true

-- whether a bare `raise` has an exception
abbrev pub in_hand : Ways → Bool
in_hand w = is_there w.handled

-- `break` and `continue` lead somewhere in every body; where they led nowhere, the next place would
-- be as good as any
abbrev pub break_exit : Route → ℕ → Instr
break_exit out next = Goto next
break_exit (straight drops to) next = Leave drops to
break_exit (through drops to) next = Breaking drops to

-- the instruction of `continue`
abbrev pub continue_exit : Route → ℕ → Instr
continue_exit out next = Goto next
continue_exit (straight drops to) next = Leave drops to
continue_exit (through drops to) next = Continuing drops to

-- the instruction of `return`
abbrev pub return_exit : Route → Instr
return_exit out = Return
return_exit (straight drops to) = Return
return_exit (through drops to) = Returning drops to
