-- The sizes of two parts, of imports and of functions, the place after a part,
-- and the code of functions with defaults.
use Rattle.std.proofs.Common.{◌≡◌, ℕ, ◌+◌, ◌*◌, ◌<◌, ◌==◌, List, [], ◌∷◌, ◌++◌, drop, get_or, length, true, false, true≢false, Option, Result, Ok, IfOk, refl, sym, ap, subst, ◌∙◌, arith, append_assoc}
use Rattle.py_syntax.specs.declared.expr.Expr.{Expr as Node}
use Rattle.py_syntax.specs.declared.stmt.Alias.{Alias as AliasNode}
use Rattle.py_operator.specs.declared.operator.BinOp.{BinOp}
use Rattle.py_syntax.specs.Names.{alias_name}
use Rattle.py_syntax.specs.Tree.{Text, Expr, index}
use Rattle.py_syntax.specs.View.{plain_exprs, plain_alias, plain_aliases}
use Rattle.py_code.specs.declared.instr.Instr.TheVariants.{List as MakeList, Function as MakeFunction, FunctionWith}
use Rattle.py_compile_expr.proofs.Turns.{a_turn, and_then, the_drop, the_number}
use Rattle.py_compile_expr.specs.Cells.{store, takes, plain, Guard, Cell, put}
use Rattle.py_compile_expr.specs.Patterns.{names_size}
use Rattle.py_compile_expr.specs.Expressions.{count, expr_size, expr_code, each_size, each_code}
use Rattle.py_compile.specs.Statements.{module_code, import_size, import_code, take_size, take_code, function_size, function_code, augment_code}
use Rattle.py_compile_body.proofs.Ends.{not_none}
use Rattle.py_compile_body.specs.Parts.{read_item_code, written_item_code}

-- two parts and so many instructions
pub both_sized : {E : Type 0} (left right s : Result ℕ E) (a b parts more : ℕ) → left ≡ Ok a → right ≡ Ok b → parts ≡ a + b → IfOk s (λ n. n ≡ parts + more)
    → (l r : ℕ) → IfOk left (λ n. n ≡ l) → IfOk right (λ n. n ≡ r) → IfOk s (λ n. n ≡ l + r + more)
both_sized {E} left right s a b parts more is also p h l r x y =
    let x' : a ≡ l = subst (λ (z : Result ℕ E). IfOk z (λ n. n ≡ l)) is x in
    let y' : b ≡ r = subst (λ (z : Result ℕ E). IfOk z (λ n. n ≡ r)) also y in
    the_number s (parts + more) (l + r + more) h (omega (arith, p, x', y'))

-- the place after a part and so many instructions
pub after_sized : {E : Type 0} (size r : Result ℕ E) (at b end more : ℕ) → size ≡ Ok b → end ≡ at + b → IfOk r (λ n. n ≡ end + more)
    → (s : ℕ) → IfOk size (λ n. n ≡ s) → IfOk r (λ n. n ≡ at + s + more)
after_sized {E} size r at b end more is p h s x =
    let x' : b ≡ s = subst (λ (z : Result ℕ E). IfOk z (λ n. n ≡ s)) is x in
    the_number r (end + more) (at + s + more) h (omega (arith, p, x'))

pub import_size-is : (xs : List AliasNode) → length xs * 4 ≡ import_size (plain_aliases xs)
import_size-is [] = refl
import_size-is (x ∷ xs) = let h = import_size-is xs in omega (arith, h)

pub take_size-is : (xs : List AliasNode) → length xs * 2 + 1 ≡ take_size (plain_aliases xs)
take_size-is [] = refl
take_size-is (x ∷ xs) = let h = take_size-is xs in omega (arith, h)

pub function_size-is : (es : List Node) → (length es == 0) ≡ false → each_size (plain_exprs es) + 2 ≡ function_size (plain_exprs es)
function_size-is [] none = absurd cc
function_size-is (e ∷ es) none = refl

pub function_code-is : (g : Option Guard) (p unit : ℕ) (es : List Node) → (length es == 0) ≡ false
    → function_code g p unit (plain_exprs es) ≡ each_code g p (plain_exprs es) ++ (put g (plain (MakeList (count (plain_exprs es)))) [] ++ put g (plain (FunctionWith unit)) [])
function_code-is g p unit [] none = absurd cc
function_code-is g p unit (e ∷ es) none = refl

pub function_size-none : (es : List Node) → (length es == 0) ≡ true → function_size (plain_exprs es) ≡ 1
function_size-none [] none = refl
function_size-none (e ∷ es) none = absurd (true≢false (sym none ∙ not_none (length es)))

pub function_code-none : (g : Option Guard) (p unit : ℕ) (es : List Node) → (length es == 0) ≡ true → function_code g p unit (plain_exprs es) ≡ put g (plain (MakeFunction unit)) []
function_code-none g p unit [] none = refl
function_code-none g p unit (e ∷ es) none = absurd (true≢false (sym none ∙ not_none (length es)))

-- with so many defaults
pub function_node : (g : Option Guard) (p unit size : ℕ) (es : List Node) → (length es == 0) ≡ false → size ≡ count (plain_exprs es)
    → function_code g p unit (plain_exprs es) ≡ each_code g p (plain_exprs es) ++ (put g (plain (MakeList size)) [] ++ put g (plain (FunctionWith unit)) [])
function_node g p unit size es none is =
    function_code-is g p unit es none ∙ ap (λ n. each_code g p (plain_exprs es) ++ (put g (plain (MakeList n)) [] ++ put g (plain (FunctionWith unit)) [])) (sym is)

-- two instructions for each name
pub names_size-is : (xs : List Text) → length xs + length xs ≡ names_size xs
names_size-is [] = refl
names_size-is (x ∷ xs) = let h = names_size-is xs in omega (arith, h)

-- ---- `of[key] op= e`

augment_index : (g : Option Guard) (p : ℕ) (of key : Expr) (op : BinOp) (e : Expr)
    → augment_code g p (index of key) op e ≡ read_item_code g p of key ++ (expr_code g (p + expr_size of + expr_size key + 3) e ++ written_item_code g op)
augment_index g p of key op e = simp append_assoc

pub augment_node : (g : Option Guard) (p q : ℕ) (of key : Expr) (op : BinOp) (e : Expr) → q ≡ p + expr_size of + expr_size key + 3
    → augment_code g p (index of key) op e ≡ read_item_code g p of key ++ (expr_code g q e ++ written_item_code g op)
augment_node g p q of key op e a = augment_index g p of key op e ∙ ap (λ n. read_item_code g p of key ++ (expr_code g n e ++ written_item_code g op)) (sym a)

-- ---- turns of loops over imported names

aliases_shown : (xs : List AliasNode) (i : ℕ) (a : AliasNode) → i < length xs → a ≡ get_or xs i a → plain_aliases (drop i xs) ≡ plain_alias a ∷ plain_aliases (drop (i + 1) xs)
aliases_shown xs i a lt is = ap plain_aliases (the_drop xs i a lt is)

pub imported_turn : (g : Option Guard) (xs : List AliasNode) (i : ℕ) (a : AliasNode) (now one next w : List Cell) → i < length xs → a ≡ get_or xs i a
    → one ≡ now ++ module_code g a.name → next ≡ one ++ put g (store (alias_name (plain_alias a))) []
    → now ++ import_code g (plain_aliases (drop i xs)) ≡ w → next ++ import_code g (plain_aliases (drop (i + 1) xs)) ≡ w
imported_turn g xs i a now one next w lt is e f h =
    let y = put g (store (alias_name (plain_alias a))) [] in
    a_turn now next w (module_code g a.name ++ y) (import_code g (plain_aliases (drop (i + 1) xs))) (import_code g (plain_aliases (drop i xs)))
    (and_then now one next (module_code g a.name) y (module_code g a.name ++ y) f e refl) (ap (import_code g) (aliases_shown xs i a lt is)) h

pub imported_counted : (xs : List AliasNode) (i : ℕ) (a : AliasNode) (p one next w : ℕ) → i < length xs → a ≡ get_or xs i a → one ≡ p + 3 → next ≡ one + 1
    → p + import_size (plain_aliases (drop i xs)) ≡ w → next + import_size (plain_aliases (drop (i + 1) xs)) ≡ w
imported_counted xs i a p one next w lt is e f h = let t = ap import_size (aliases_shown xs i a lt is) in omega (arith, e, f, h, t)

pub taken_turn : (g : Option Guard) (m : Text) (xs : List AliasNode) (i : ℕ) (a : AliasNode) (now one next w : List Cell) → i < length xs → a ≡ get_or xs i a
    → one ≡ now ++ put g (takes m a.name) [] → next ≡ one ++ put g (store (alias_name (plain_alias a))) []
    → now ++ take_code g m (plain_aliases (drop i xs)) ≡ w → next ++ take_code g m (plain_aliases (drop (i + 1) xs)) ≡ w
taken_turn g m xs i a now one next w lt is e f h =
    let x = put g (takes m a.name) [] in
    let y = put g (store (alias_name (plain_alias a))) [] in
    a_turn now next w (x ++ y) (take_code g m (plain_aliases (drop (i + 1) xs))) (take_code g m (plain_aliases (drop i xs)))
    (and_then now one next x y (x ++ y) f e refl) (ap (take_code g m) (aliases_shown xs i a lt is)) h

pub taken_counted : (xs : List AliasNode) (i : ℕ) (a : AliasNode) (p one next w : ℕ) → i < length xs → a ≡ get_or xs i a → one ≡ p + 1 → next ≡ one + 1
    → p + take_size (plain_aliases (drop i xs)) ≡ w → next + take_size (plain_aliases (drop (i + 1) xs)) ≡ w
taken_counted xs i a p one next w lt is e f h = let t = ap take_size (aliases_shown xs i a lt is) in omega (arith, e, f, h, t)
