-- The comparisons of a chain from one of them on.
--     rest_size, rest_code                what is left of a chain, which may be nothing
--     chain_size, chain_code              that of a whole chain
--     links_added, links_counted          one of them, and what is left then
use Rattle.std.proofs.Common.{◌≡◌, ℕ, suc, ◌+◌, ◌-◌, ◌<◌, ◌==◌, List, [], ◌∷◌, ◌++◌, Option, false, length, drop, get_or, refl, sym, ap, ◌∙◌, arith, length-drop, append_assoc}
use Rattle.std.specs.Prelude.{if◌then◌else◌}
use Rattle.py_code.specs.declared.instr.Instr.{Instr}
use Rattle.py_code.specs.declared.instr.Instr.TheVariants.{Compare, Link}
use Rattle.py_code.specs.declared.instr.Question.{Question}
use Rattle.py_syntax.specs.declared.expr.Comparison.{Comparison}
use Rattle.py_syntax.specs.declared.expr.Expr.{Expr as Node}
use Rattle.py_syntax.specs.declared.expr.Link.{Link as LinkNode, out-Link}
use Rattle.py_syntax.specs.declared.expr.Link as links_
use Rattle.py_syntax.specs.Tree.{Expr, Links, no_links, link}
use Rattle.py_syntax.specs.View.{plain_expr, plain_exprs, plain_links}
use Rattle.py_compile_expr.specs.Cells.{plain, Guard, Cell, put}
use Rattle.py_compile_expr.specs.Expressions.{count, question, expr_size, expr_code, links_size, links_code}
use Rattle.py_compile_expr.specs.Pieces.{link_instr}
use Rattle.py_compile_expr.proofs.Turns.{the_drop, two_not_one, a_turn, and_then}

pub counted : (es : List Node) → count (plain_exprs es) ≡ length es
counted [] = refl
counted (e ∷ es) = ap suc (counted es)

abbrev pub link_count : Links → ℕ
link_count no_links = 0
link_count (link op e rest) = suc (link_count rest)

abbrev pub rest_size : Links → ℕ
rest_size no_links = 0
rest_size (link op e rest) = expr_size e + 1 + rest_size rest

abbrev pub rest_code : Option Guard → ℕ → (end : ℕ) → Links → List Cell
rest_code g p end no_links = []
rest_code g p end (link op e rest) =
    expr_code g p e ++ put g (plain (link_instr (question op) end (suc (link_count rest)))) (rest_code g (p + expr_size e + 1) end rest)

pub plain-Link : (l : LinkNode) (ls : List LinkNode) → plain_links (l ∷ ls) ≡ link (out-Link l).op (plain_expr (out-Link l).right) (plain_links ls)
plain-Link l ls = search links_.the_lemmas

pub count-is : (ls : List LinkNode) → link_count (plain_links ls) ≡ length ls
count-is [] = refl
count-is (l ∷ ls) = ap link_count (plain-Link l ls) ∙ ap suc (count-is ls)

some_size : (op : Comparison) (e : Expr) (rest : Links) → links_size (link op e rest) ≡ rest_size (link op e rest)
some_size op e no_links = omega arith
some_size op e (link q f rest) = ap (λ n. expr_size e + 1 + n) (some_size q f rest)

pub chain_size : (ls : List LinkNode) → (length ls == 0) ≡ false → links_size (plain_links ls) ≡ rest_size (plain_links ls)
chain_size [] no_more = absurd cc
chain_size (l ∷ ls) no_more = ap links_size (plain-Link l ls) ∙ some_size (out-Link l).op (plain_expr (out-Link l).right) (plain_links ls) ∙ sym (ap rest_size (plain-Link l ls))

-- where two comparisons are left, the first one links
linking : (q : Question) (end n : ℕ) → link_instr q end (suc (suc n)) ≡ Link q end
linking q end n = ap (λ b. if b then Compare q else Link q end) (two_not_one n)

some_code : (g : Option Guard) (p end : ℕ) (op : Comparison) (e : Expr) (rest : Links) → links_code g p end (link op e rest) ≡ rest_code g p end (link op e rest)
some_code g p end op e no_links = refl
some_code g p end op e (link q f rest) =
    ap (λ cs. expr_code g p e ++ put g (plain (Link (question op) end)) cs) (some_code g (p + expr_size e + 1) end q f rest)
    ∙ ap (λ i. expr_code g p e ++ put g (plain i) (rest_code g (p + expr_size e + 1) end (link q f rest))) (sym (linking (question op) end (link_count rest)))

pub chain_code : (g : Option Guard) (p end : ℕ) (ls : List LinkNode) → (length ls == 0) ≡ false → links_code g p end (plain_links ls) ≡ rest_code g p end (plain_links ls)
chain_code g p end [] no_more = absurd cc
chain_code g p end (l ∷ ls) no_more =
    ap (links_code g p end) (plain-Link l ls) ∙ some_code g p end (out-Link l).op (plain_expr (out-Link l).right) (plain_links ls) ∙ sym (ap (rest_code g p end) (plain-Link l ls))

left_over : (ls : List LinkNode) (i : ℕ) (l : LinkNode) → i < length ls → l ≡ get_or ls i l → suc (link_count (plain_links (drop (i + 1) ls))) ≡ length ls - i
left_over ls i l lt is =
    let a = count-is (drop (i + 1) ls) in
    let b = length-drop i ls in
    let c : length (drop i ls) ≡ suc (length (drop (i + 1) ls)) = ap length (the_drop ls i l lt is) in
    omega (arith, a, b, c, lt)

pub links_turn : (ls : List LinkNode) (i : ℕ) (l : LinkNode) → i < length ls → l ≡ get_or ls i l
    → plain_links (drop i ls) ≡ link (out-Link l).op (plain_expr (out-Link l).right) (plain_links (drop (i + 1) ls))
links_turn ls i l lt is = ap plain_links (the_drop ls i l lt is) ∙ plain-Link l (drop (i + 1) ls)

pub rest_code-turn : (g : Option Guard) (p end : ℕ) (ls : List LinkNode) (i : ℕ) (l : LinkNode) → i < length ls → l ≡ get_or ls i l
    → rest_code g p end (plain_links (drop i ls))
    ≡ expr_code g p (plain_expr (out-Link l).right) ++ put g (plain (link_instr (question (out-Link l).op) end (length ls - i))) (rest_code g (p + expr_size (plain_expr (out-Link l).right) + 1) end (plain_links (drop (i + 1) ls)))
rest_code-turn g p end ls i l lt is =
    ap (rest_code g p end) (links_turn ls i l lt is)
    ∙ ap (λ n. expr_code g p (plain_expr (out-Link l).right) ++ put g (plain (link_instr (question (out-Link l).op) end n)) (rest_code g (p + expr_size (plain_expr (out-Link l).right) + 1) end (plain_links (drop (i + 1) ls)))) (left_over ls i l lt is)

pub rest_size-turn : (ls : List LinkNode) (i : ℕ) (l : LinkNode) → i < length ls → l ≡ get_or ls i l
    → rest_size (plain_links (drop i ls)) ≡ expr_size (plain_expr (out-Link l).right) + 1 + rest_size (plain_links (drop (i + 1) ls))
rest_size-turn ls i l lt is = ap rest_size (links_turn ls i l lt is)

-- a turn over a chain: its operand, and its instruction
pub links_added : (g : Option Guard) (p q r end : ℕ) (ls : List LinkNode) (i : ℕ) (l : LinkNode) (k : Instr) (now mid next w : List Cell) → i < length ls → l ≡ get_or ls i l
    → mid ≡ now ++ expr_code g p (plain_expr (out-Link l).right) → next ≡ mid ++ put g (plain k) [] → k ≡ link_instr (question (out-Link l).op) end (length ls - i)
    → q ≡ p + expr_size (plain_expr (out-Link l).right) → r ≡ q + 1
    → now ++ rest_code g p end (plain_links (drop i ls)) ≡ w → next ++ rest_code g r end (plain_links (drop (i + 1) ls)) ≡ w
links_added g p q r end ls i l k now mid next w lt is first second instr one two h =
    let e = plain_expr (out-Link l).right in
    let E = expr_code g p e in
    let rest = plain_links (drop (i + 1) ls) in
    let place : p + expr_size e + 1 ≡ r = omega (arith, one, two) in
    let split : rest_code g p end (plain_links (drop i ls)) ≡ (E ++ put g (plain k) []) ++ rest_code g r end rest =
    rest_code-turn g p end ls i l lt is
    ∙ ap (λ j. E ++ put g (plain j) (rest_code g (p + expr_size e + 1) end rest)) (sym instr)
    ∙ ap (λ n. E ++ put g (plain k) (rest_code g n end rest)) place
    ∙ sym (append_assoc E (put g (plain k) []) (rest_code g r end rest)) in
    a_turn now next w (E ++ put g (plain k) []) (rest_code g r end rest) (rest_code g p end (plain_links (drop i ls))) (and_then now mid next E (put g (plain k) []) (E ++ put g (plain k) []) second first refl) split h

pub links_counted : (p q r : ℕ) (ls : List LinkNode) (i : ℕ) (l : LinkNode) (w : ℕ) → i < length ls → l ≡ get_or ls i l
    → q ≡ p + expr_size (plain_expr (out-Link l).right) → r ≡ q + 1 → p + rest_size (plain_links (drop i ls)) ≡ w → r + rest_size (plain_links (drop (i + 1) ls)) ≡ w
links_counted p q r ls i l w lt is one two h = let t = rest_size-turn ls i l lt is in omega (arith, one, two, h, t)
