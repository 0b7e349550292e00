-- What is added of two functions and of two modules are their changed lines.
use Rattle.std.proofs.Common.{◌≡◌, ◌≢◌, suc, Bool, true, false, List, [], ◌∷◌, ◌++◌, length, map, refl, ap, sym, subst, ◌∙◌}
use Rattle.std.proofs.lemmas.Bool.{false≢true}
use Rattle.std.proofs.lemmas.List.{append-nil, length-map}
use Rattle.py_syntax.specs.Functions.{Function, functions}
use Rattle.py_syntax.specs.Marks.{body_marks}
use Rattle.py_syntax.specs.Names.{local_names}
use Rattle.py_syntax.specs.Tree.{Text, Stmts}
use Rattle.py_changes.specs.Changed.{Lines, also, where_not, by_parts, same_names, same_def, same_defs, fits_body, changed_body, changed_function, changed_functions, changed_module}
use Rattle.cov_pieces.specs.declared.piece.Function.{Function as FunctionNode}
use Rattle.cov_pieces.specs.Pieces.{Piece, picked, mark_of, function_of, binding_of, body_pieces}
use Rattle.cov_pieces.specs.declared.piece.Piece.{Piece as PieceNode}
use Rattle.cov_pieces.specs.Views.{plain_function, pieces_of}
use Rattle.cov_pieces.proofs.Agreeing.{body-marks-are}
use Rattle.cov_pieces.proofs.Functions.{functions-are}
use Rattle.cov_pieces.proofs.Bindings.{bindings-are}
use Rattle.cov_changed.specs.Compared.{compared}
use Rattle.cov_changed.specs.Local.{AreLocal}
use Rattle.cov_changed.proofs.Compared.{also_assoc, also_none, follows-at}
use Rattle.cov_changed.proofs.Local.{same_locals}
use Rattle.cov_changed.proofs.PartsOfRows.{follows-body}
use Rattle.cov_changed.proofs.Words.{second}

-- ---- bodies by their pieces

compared-is : (a b : Stmts) → compared 0 (body_pieces a) (body_pieces b) ≡ changed_body a b
compared-is a b =
    ap (λ l. compared 0 l (body_pieces b)) (sym (append-nil (body_pieces a))) ∙ ap (λ l. compared 0 (body_pieces a ++ []) l) (sym (append-nil (body_pieces b)))
    ∙ follows-at (follows-body a b) [] [] ∙ also_none (changed_body a b)

-- all marks of two texts
abbrev pub all_marks_of : List Piece → List Piece → Lines
all_marks_of p q = (picked mark_of p, picked mark_of q)

marks-are : (a b : Stmts) → all_marks_of (body_pieces a) (body_pieces b) ≡ (body_marks a, body_marks b)
marks-are a b = ap (λ x. (x, picked mark_of (body_pieces b))) (body-marks-are a) ∙ ap (λ y. (body_marks a, y)) (body-marks-are b)

-- ---- two functions

pub changes_function : (f g : Function) (p q : List Piece) (ns ms : List Text) (same fits : Bool) (a b c : Lines) → p ≡ body_pieces f.body → q ≡ body_pieces g.body
    → AreLocal ns f.params (picked binding_of p) → AreLocal ms g.params (picked binding_of q) → same ≡ same_names ns ms → b ≡ also a (by_parts same (compared 0 p q) (all_marks_of p q))
    → fits ≡ fits_body f.body g.body → c ≡ also b (where_not fits (f.line ∷ picked mark_of p, g.line ∷ picked mark_of q)) → c ≡ also a (changed_function f g)
changes_function f g p q ns ms same fits a b c is js h k e x y z =
    let t : same ≡ same_names (local_names f.params f.body) (local_names g.params g.body) =
    e ∙ same_locals ns ms f.params g.params f.body g.body
    (subst (AreLocal ns f.params) (ap (picked binding_of) is ∙ bindings-are f.body) h)
    (subst (AreLocal ms g.params) (ap (picked binding_of) js ∙ bindings-are g.body) k) in
    let u : (picked mark_of p ≡ body_marks f.body) = ap (picked mark_of) is ∙ body-marks-are f.body in
    let v : (picked mark_of q ≡ body_marks g.body) = ap (picked mark_of) js ∙ body-marks-are g.body in
    let w : compared 0 p q ≡ changed_body f.body g.body = ap (λ l. compared 0 l q) is ∙ ap (λ l. compared 0 (body_pieces f.body) l) js ∙ compared-is f.body g.body in
    z ∙ ap (λ l. also l (where_not fits (f.line ∷ picked mark_of p, g.line ∷ picked mark_of q))) x
    ∙ also_assoc a (by_parts same (compared 0 p q) (all_marks_of p q)) (where_not fits (f.line ∷ picked mark_of p, g.line ∷ picked mark_of q))
    ∙ ap (λ s. also a (also (by_parts s (compared 0 p q) (all_marks_of p q)) (where_not fits (f.line ∷ picked mark_of p, g.line ∷ picked mark_of q)))) t
    ∙ ap (λ s. also a (also (by_parts (same_names (local_names f.params f.body) (local_names g.params g.body)) (compared 0 p q) (all_marks_of p q)) (where_not s (f.line ∷ picked mark_of p, g.line ∷ picked mark_of q)))) y
    ∙ ap (λ l. also a (also (by_parts (same_names (local_names f.params f.body) (local_names g.params g.body)) l (all_marks_of p q)) (where_not (fits_body f.body g.body) (f.line ∷ picked mark_of p, g.line ∷ picked mark_of q)))) w
    ∙ ap (λ l. also a (also (by_parts (same_names (local_names f.params f.body) (local_names g.params g.body)) (changed_body f.body g.body) (l, picked mark_of q)) (where_not (fits_body f.body g.body) (f.line ∷ l, g.line ∷ picked mark_of q)))) u
    ∙ ap (λ l. also a (also (by_parts (same_names (local_names f.params f.body) (local_names g.params g.body)) (changed_body f.body g.body) (body_marks f.body, l)) (where_not (fits_body f.body g.body) (f.line ∷ body_marks f.body, g.line ∷ l)))) v

-- ---- functions in a row

same-lengths : (fs gs : List Function) → same_defs fs gs ≡ true → length fs ≡ length gs
same-lengths [] [] h = refl
same-lengths (f ∷ fs) (g ∷ gs) h = ap suc (same-lengths fs gs (second (same_def f g) (same_defs fs gs) h))
same-lengths [] (g ∷ gs) h = absurd (false≢true h)
same-lengths (f ∷ fs) [] h = absurd (false≢true h)

pub equal-lengths : (fs gs : List FunctionNode) (b : Bool) → b ≡ same_defs (map plain_function fs) (map plain_function gs) → b ≡ true → length fs ≡ length gs
equal-lengths fs gs b e t =
    sym (length-map fs plain_function) ∙ same-lengths (map plain_function fs) (map plain_function gs) (sym e ∙ t) ∙ length-map gs plain_function

pub unlike-defs : (fs gs : List FunctionNode) → length fs ≢ length gs → false ≡ same_defs (map plain_function fs) (map plain_function gs)
unlike-defs fs gs h = by_case (same_defs (map plain_function fs) (map plain_function gs)) refl where
  by_case : (b : Bool) → same_defs (map plain_function fs) (map plain_function gs) ≡ b → false ≡ same_defs (map plain_function fs) (map plain_function gs)
  by_case true e = absurd (h (equal-lengths fs gs true (sym e) refl))
  by_case false e = sym e

-- ---- two modules

pub changes_module : (a b : Stmts) (p q : List Piece) (fs gs : List Function) (l m : Lines) → p ≡ body_pieces a → q ≡ body_pieces b → fs ≡ picked function_of p → gs ≡ picked function_of q → l ≡ ([], [])
    → m ≡ also l (by_parts (same_defs fs gs) (also (compared 0 p q) (changed_functions fs gs)) (all_marks_of p q)) → m ≡ changed_module a b
changes_module a b p q fs gs l m is js e f z h =
    let d : fs ≡ functions a = e ∙ ap (picked function_of) is ∙ functions-are a in
    let c : gs ≡ functions b = f ∙ ap (picked function_of) js ∙ functions-are b in
    h ∙ ap (λ n. also n (by_parts (same_defs fs gs) (also (compared 0 p q) (changed_functions fs gs)) (all_marks_of p q))) z
    ∙ ap (λ xs. by_parts (same_defs xs gs) (also (compared 0 p q) (changed_functions xs gs)) (all_marks_of p q)) d
    ∙ ap (λ ys. by_parts (same_defs (functions a) ys) (also (compared 0 p q) (changed_functions (functions a) ys)) (all_marks_of p q)) c
    ∙ ap (λ n. by_parts (same_defs (functions a) (functions b)) (also (compared 0 n q) (changed_functions (functions a) (functions b))) (all_marks_of n q)) is
    ∙ ap (λ n. by_parts (same_defs (functions a) (functions b)) (also (compared 0 (body_pieces a) n) (changed_functions (functions a) (functions b))) (all_marks_of (body_pieces a) n)) js
    ∙ ap (λ n. by_parts (same_defs (functions a) (functions b)) (also n (changed_functions (functions a) (functions b))) (all_marks_of (body_pieces a) (body_pieces b))) (compared-is a b)
    ∙ ap (λ n. by_parts (same_defs (functions a) (functions b)) (also (changed_body a b) (changed_functions (functions a) (functions b))) n) (marks-are a b)

-- by the pieces and functions that the code holds
abbrev pub by_nodes : List PieceNode → List FunctionNode → List PieceNode → List FunctionNode → Lines
by_nodes p fs q gs =
    by_parts (same_defs (map plain_function fs) (map plain_function gs))
    (also (compared 0 (pieces_of p) (pieces_of q)) (changed_functions (map plain_function fs) (map plain_function gs)))
    (all_marks_of (pieces_of p) (pieces_of q))

pub same_nodes : (l m : Lines) (p r : List PieceNode) (fs hs : List FunctionNode) (q s : List PieceNode) (gs is : List FunctionNode) → r ≡ p → hs ≡ fs → s ≡ q → is ≡ gs → m ≡ also l (by_nodes r hs s is) → m ≡ also l (by_nodes p fs q gs)
same_nodes l m p r fs hs q s gs is a b c d h =
    h ∙ ap (λ x. also l (by_nodes x hs s is)) a ∙ ap (λ x. also l (by_nodes p x s is)) b ∙ ap (λ x. also l (by_nodes p fs x is)) c ∙ ap (λ x. also l (by_nodes p fs q x)) d
