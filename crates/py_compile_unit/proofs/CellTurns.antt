-- Turns of loops over the cells of a unit.
use Rattle.std.proofs.Common.{◌≡◌, ℕ, ◌+◌, ◌<◌, List, [], ◌∷◌, ◌++◌, map, drop, length, get_or, sym, ap, ◌∙◌}
use Rattle.py_code.specs.declared.instr.Instr.{Instr}
use Rattle.py_code.specs.declared.unit.Handler.{Handler}
use Rattle.py_compile_expr.specs.declared.cells.Cell.{Cell as CellNode}
use Rattle.py_compile_expr.specs.Cells.{Op, Cell, Tables, cell, instr_of, tables_with, tables_of}
use Rattle.py_compile_expr.specs.CellView.{plain_op, plain_guard, plain_cell}
use Rattle.py_compile_expr.proofs.Turns.{the_drop, a_turn}
use Rattle.py_compile_unit.specs.Lists.{instrs_of}
use Rattle.py_compile_unit.proofs.Numbers.{stays}

shown : (xs : List CellNode) (i : ℕ) (c : CellNode) → i < length xs → c ≡ get_or xs i c → map plain_cell (drop i xs) ≡ plain_cell c ∷ map plain_cell (drop (i + 1) xs)
shown xs i c lt is = ap (map plain_cell) (the_drop xs i c lt is)

pub lists_turn : (xs : List CellNode) (i : ℕ) (c : CellNode) (t v all : Tables) → i < length xs → c ≡ get_or xs i c → v ≡ tables_with t (plain_op c.op)
    → tables_of t (map plain_cell (drop i xs)) ≡ all → tables_of v (map plain_cell (drop (i + 1) xs)) ≡ all
lists_turn xs i c t v all lt is e h = ap (λ k. tables_of k (map plain_cell (drop (i + 1) xs))) e ∙ sym (ap (tables_of t) (shown xs i c lt is)) ∙ h

pub instrs_turn : (xs : List CellNode) (i : ℕ) (c : CellNode) (t all : Tables) (n : Instr) (now next w : List Instr) → i < length xs → c ≡ get_or xs i c
    → n ≡ instr_of (tables_with t (plain_op c.op)) (plain_op c.op) → next ≡ now ++ n ∷ []
    → tables_of t (map plain_cell (drop i xs)) ≡ all → now ++ instrs_of all (map plain_cell (drop i xs)) ≡ w → next ++ instrs_of all (map plain_cell (drop (i + 1) xs)) ≡ w
instrs_turn xs i c t all n now next w lt is e f g h =
    let rest = map plain_cell (drop (i + 1) xs) in
    let whole : tables_of (tables_with t (plain_op c.op)) rest ≡ all = sym (ap (tables_of t) (shown xs i c lt is)) ∙ g in
    let same : n ≡ instr_of all (plain_op c.op) = e ∙ stays t (plain_op c.op) rest ∙ ap (λ k. instr_of k (plain_op c.op)) whole in
    a_turn now next w (n ∷ []) (instrs_of all rest) (instrs_of all (map plain_cell (drop i xs))) f
    (ap (instrs_of all) (shown xs i c lt is) ∙ ap (λ k. k ∷ instrs_of all rest) (sym same)) h

pub ranges_turn : (xs : List CellNode) (i : ℕ) (c : CellNode) (now next w : List Handler) → i < length xs → c ≡ get_or xs i c
    → (F G : List Cell → List Handler) → ((op : Op) (cs : List Cell) → next ++ G cs ≡ now ++ F (cell (plain_guard c.guard) op ∷ cs))
    → now ++ F (map plain_cell (drop i xs)) ≡ w → next ++ G (map plain_cell (drop (i + 1) xs)) ≡ w
ranges_turn xs i c now next w lt is F G e h =
    e (plain_op c.op) (map plain_cell (drop (i + 1) xs)) ∙ sym (ap (λ cs. now ++ F cs) (shown xs i c lt is)) ∙ h
