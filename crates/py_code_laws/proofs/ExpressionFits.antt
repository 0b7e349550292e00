-- The places of the code of expressions have one number of operands each: those below, and one more at the end.
use Rattle.std.proofs.Common.{◌≡◌, ℕ, suc, ◌+◌, ◌≤◌, Bool, true, false, List, [], ◌∷◌, ◌++◌, Option, refl, ap, ◌∙◌, arith}
use Rattle.py_syntax.specs.Tree.{Expr, name, int, str, fstr, none as none_expr, bool, tuple, list, dict, paren, not', and, or, unary, binary, compare, cond, call, index, slice, attr, Exprs, no_exprs, exprs, Pairs, no_pairs, pair, Links, no_links, link, absent, present, Fragments, no_fragments, plain as plain_piece, format, Parts, no_parts, text, field}
use Rattle.py_meaning.specs.Literals.{run_together, sign_operator}
use Rattle.py_code.specs.declared.instr.Instr.TheVariants.{Pop, Text as TextOf, Extend, Tuple, List as MakeList, Dict, AddPair, Not, Binary, Compare, Index, Slice, Goto, IfFalse, And, Or, Link, Call}
use Rattle.std.specs.Prelude.{pos}
use Rattle.py_code.specs.declared.unit.Constant.TheVariants.{None as NoneConstant, Bool as BoolConstant, Int as IntConstant, Str as StrConstant}
use Rattle.py_code.specs.declared.instr.Bounds.TheVariants.{Neither, From, To, Both}
use Rattle.py_code.specs.Footprints.{exit}
use Rattle.py_compile_expr.specs.Cells.{Op, constant, load, attribute, method, plain, Guard, Cell, cell, put}
use Rattle.py_compile_expr.specs.Expressions.{question, count, expr_size, expr_code, each_size, each_code, pairs_size, pairs_code, links_size, links_code, fragments_size, fragments_code, parts_size, parts_code}
use Rattle.py_code_laws.proofs.Blocks.{print, IsNamed, Block, resize}
use Rattle.py_code_laws.proofs.Pieces.{Run, At, Any, moved, step, fork, jump, finish, after, only}

-- One handler holds at all places, which finds m operands below. So many stand at the first place.

abbrev pub Fit : (units : ℕ) → Option Guard → (m p d q f n : ℕ) → List Cell → Type 0
Fit units g m p d q f n cs = Block units (Run g m q f Any) (At p d Any) p n cs

-- an instruction that puts a value on top
leaf : {units : ℕ} {g : Option Guard} {m p d q : ℕ} (op : Op) (b : Bool) → print p op ≡ record { needs = 0; takes = 0; exits = exit (suc p) 1 ∷ []; raises = b } → IsNamed units op → p + 1 ≡ q → m ≤ d
    → Fit units g m p d q (suc d) 1 (cell g op ∷ [])
leaf {units} {g} {m} {p} {d} {q} op b is named at le = only (step op 0 1 d d (suc d) b is (omega arith) (omega arith) le named (omega arith) (finish at refl))

-- a call of what stands below its values
called : {units : ℕ} {g : Option Guard} {m p d q n k : ℕ} {xs ys : List Cell} (c : ℕ) → Fit units g m p d (p + n) (suc d) n xs → Fit units g m (p + n) (suc d) (p + n + k) (c + suc d) k ys → p + n + k + 1 ≡ q → m ≤ d
    → Fit units g m p d q (suc d) (n + k + 1) (xs ++ (ys ++ put g (plain (Call c)) []))
called {units} {g} {m} {p} {d} {q} {n} {k} c a b at le =
    resize (omega arith) (only (after refl (omega arith) a (after refl (omega arith) b
    (step (plain (Call c)) (suc c) 1 d (c + suc d) (suc d) true refl (omega arith) (omega arith) le tt (omega arith) (finish at refl)))))

mutual
  pub expr_fits : {units : ℕ} (g : Option Guard) (m p d q : ℕ) (e : Expr) → p + expr_size e ≡ q → m ≤ d → Fit units g m p d q (suc d) (expr_size e) (expr_code g p e)
  expr_fits g m p d q (name x) at le = leaf (load x) true refl tt at le
  expr_fits g m p d q (int n) at le = leaf (constant (IntConstant n)) false refl tt at le
  expr_fits g m p d q (str ps) at le = leaf (constant (StrConstant (run_together ps))) false refl tt at le
  expr_fits g m p d q (fstr fs) at le =
      only (step (constant (StrConstant [])) 0 1 d d (suc d) false refl (omega arith) (omega arith) le tt (omega arith) (fragments_fit g m (p + 1) d q fs (omega arith) le))
  expr_fits g m p d q none_expr at le = leaf (constant NoneConstant) false refl tt at le
  expr_fits g m p d q (bool b) at le = leaf (constant (BoolConstant b)) false refl tt at le
  expr_fits g m p d q (tuple es c) at le =
      resize (omega arith) (only (after refl (omega arith) (each_fits g m p d (p + each_size es) (count es + d) es refl refl le)
      (step (plain (Tuple (count es))) (count es) 1 d (count es + d) (suc d) true refl refl (omega arith) le tt (omega arith) (finish (omega arith) refl))))
  expr_fits g m p d q (list es c) at le =
      resize (omega arith) (only (after refl (omega arith) (each_fits g m p d (p + each_size es) (count es + d) es refl refl le)
      (step (plain (MakeList (count es))) (count es) 1 d (count es + d) (suc d) true refl refl (omega arith) le tt (omega arith) (finish (omega arith) refl))))
  expr_fits g m p d q (dict ps c) at le =
      only (step (plain Dict) 0 1 d d (suc d) false refl (omega arith) (omega arith) le tt (omega arith) (pairs_fit g m (p + 1) d q ps (omega arith) le))
  expr_fits g m p d q (paren e) at le = expr_fits g m p d q e at le
  expr_fits g m p d q (not' e) at le =
      resize (omega arith) (only (after refl (omega arith) (expr_fits g m p d (p + expr_size e) e refl le)
      (step (plain Not) 1 1 d (suc d) (suc d) false refl (omega arith) (omega arith) le tt (omega arith) (finish (omega arith) refl))))
  expr_fits g m p d q (and a b) at le =
      let end = p + expr_size a + 1 + expr_size b in
      let same : end ≡ q = omega arith in
      resize (omega arith) (only (after refl (omega arith) (expr_fits g m p d (p + expr_size a) a refl le)
      (fork (plain (And end)) 1 0 1 d (suc d) d (suc d) end false refl (omega arith) (omega arith) (omega arith) le tt (omega arith) (omega arith)
      (expr_fits g m (p + expr_size a + 1) d q b same le) (λ l there h. ap l.depth same ∙ h.ends))))
  expr_fits g m p d q (or a b) at le =
      let end = p + expr_size a + 1 + expr_size b in
      let same : end ≡ q = omega arith in
      resize (omega arith) (only (after refl (omega arith) (expr_fits g m p d (p + expr_size a) a refl le)
      (fork (plain (Or end)) 1 0 1 d (suc d) d (suc d) end false refl (omega arith) (omega arith) (omega arith) le tt (omega arith) (omega arith)
      (expr_fits g m (p + expr_size a + 1) d q b same le) (λ l there h. ap l.depth same ∙ h.ends))))
  expr_fits g m p d q (unary s e) at le =
      resize (omega arith) (only (step (constant (IntConstant (pos 0))) 0 1 d d (suc d) false refl (omega arith) (omega arith) le tt (omega arith)
      (after refl (omega arith) (expr_fits g m (p + 1) (suc d) (p + 1 + expr_size e) e refl (omega arith))
      (step (plain (Binary (sign_operator s))) 2 1 d (suc (suc d)) (suc d) true refl (omega arith) (omega arith) le tt (omega arith) (finish (omega arith) refl)))))
  expr_fits g m p d q (binary op a b) at le =
      resize (omega arith) (only (after refl (omega arith) (expr_fits g m p d (p + expr_size a) a refl le)
      (after refl (omega arith) (expr_fits g m (p + expr_size a) (suc d) (p + expr_size a + expr_size b) b refl (omega arith))
      (step (plain (Binary op)) 2 1 d (suc (suc d)) (suc d) true refl (omega arith) (omega arith) le tt (omega arith) (finish (omega arith) refl)))))
  expr_fits g m p d q (compare a ls) at le =
      only (after refl (omega arith) (expr_fits g m p d (p + expr_size a) a refl le) (links_fit g m (p + expr_size a) d q (p + expr_size a + links_size ls) ls refl (omega arith) le))
  expr_fits g m p d q (cond body test orelse) at le =
      let yes = p + expr_size test + 1 in
      let away = yes + expr_size body in
      let no = away + 1 in
      let end = no + expr_size orelse in
      let same : end ≡ q = omega arith in
      resize (omega arith) (only (after refl (omega arith) (expr_fits g m p d (p + expr_size test) test refl le)
      (fork (plain (IfFalse no)) 1 0 0 d (suc d) d d no false refl (omega arith) (omega arith) (omega arith) le tt (omega arith) (omega arith)
      (after refl (omega arith) (expr_fits g m yes d away body refl le)
      (jump (plain (Goto end)) 0 0 (suc d) (suc d) d (suc d) end false refl (omega arith) (omega arith) (omega arith) tt (omega arith) (omega arith)
      (expr_fits g m no d q orelse same le) (λ l there h. ap l.depth same ∙ h.ends)))
      (λ l there h. there.1.1.0))))
  expr_fits g m p d q (call (attr e x) es c) at le =
      resize (omega arith) (only (after refl (omega arith) (expr_fits g m p d (p + expr_size e) e refl le)
      (step (method x) 1 1 d (suc d) (suc d) true refl (omega arith) (omega arith) le tt (omega arith)
      (after refl (omega arith) (each_fits g m (p + expr_size e + 1) (suc d) (p + expr_size e + 1 + each_size es) (count es + suc d) es refl refl (omega arith))
      (step (plain (Call (count es))) (suc (count es)) 1 d (count es + suc d) (suc d) true refl (omega arith) (omega arith) le tt (omega arith) (finish (omega arith) refl))))))
  expr_fits g m p d q (call (name x) es c) at le = called (count es) (expr_fits g m p d (p + expr_size (name x)) (name x) refl le) (each_fits g m (p + expr_size (name x)) (suc d) (p + expr_size (name x) + each_size es) (count es + suc d) es refl refl (omega arith)) (omega arith) le
  expr_fits g m p d q (call (int n) es c) at le = called (count es) (expr_fits g m p d (p + expr_size (int n)) (int n) refl le) (each_fits g m (p + expr_size (int n)) (suc d) (p + expr_size (int n) + each_size es) (count es + suc d) es refl refl (omega arith)) (omega arith) le
  expr_fits g m p d q (call (str ps) es c) at le = called (count es) (expr_fits g m p d (p + expr_size (str ps)) (str ps) refl le) (each_fits g m (p + expr_size (str ps)) (suc d) (p + expr_size (str ps) + each_size es) (count es + suc d) es refl refl (omega arith)) (omega arith) le
  expr_fits g m p d q (call (fstr fs) es c) at le = called (count es) (expr_fits g m p d (p + expr_size (fstr fs)) (fstr fs) refl le) (each_fits g m (p + expr_size (fstr fs)) (suc d) (p + expr_size (fstr fs) + each_size es) (count es + suc d) es refl refl (omega arith)) (omega arith) le
  expr_fits g m p d q (call none_expr es c) at le = called (count es) (expr_fits g m p d (p + expr_size none_expr) none_expr refl le) (each_fits g m (p + expr_size none_expr) (suc d) (p + expr_size none_expr + each_size es) (count es + suc d) es refl refl (omega arith)) (omega arith) le
  expr_fits g m p d q (call (bool b) es c) at le = called (count es) (expr_fits g m p d (p + expr_size (bool b)) (bool b) refl le) (each_fits g m (p + expr_size (bool b)) (suc d) (p + expr_size (bool b) + each_size es) (count es + suc d) es refl refl (omega arith)) (omega arith) le
  expr_fits g m p d q (call (tuple ts c') es c) at le = called (count es) (expr_fits g m p d (p + expr_size (tuple ts c')) (tuple ts c') refl le) (each_fits g m (p + expr_size (tuple ts c')) (suc d) (p + expr_size (tuple ts c') + each_size es) (count es + suc d) es refl refl (omega arith)) (omega arith) le
  expr_fits g m p d q (call (list ts c') es c) at le = called (count es) (expr_fits g m p d (p + expr_size (list ts c')) (list ts c') refl le) (each_fits g m (p + expr_size (list ts c')) (suc d) (p + expr_size (list ts c') + each_size es) (count es + suc d) es refl refl (omega arith)) (omega arith) le
  expr_fits g m p d q (call (dict ps c') es c) at le = called (count es) (expr_fits g m p d (p + expr_size (dict ps c')) (dict ps c') refl le) (each_fits g m (p + expr_size (dict ps c')) (suc d) (p + expr_size (dict ps c') + each_size es) (count es + suc d) es refl refl (omega arith)) (omega arith) le
  expr_fits g m p d q (call (paren f) es c) at le = called (count es) (expr_fits g m p d (p + expr_size (paren f)) (paren f) refl le) (each_fits g m (p + expr_size (paren f)) (suc d) (p + expr_size (paren f) + each_size es) (count es + suc d) es refl refl (omega arith)) (omega arith) le
  expr_fits g m p d q (call (not' f) es c) at le = called (count es) (expr_fits g m p d (p + expr_size (not' f)) (not' f) refl le) (each_fits g m (p + expr_size (not' f)) (suc d) (p + expr_size (not' f) + each_size es) (count es + suc d) es refl refl (omega arith)) (omega arith) le
  expr_fits g m p d q (call (and a b) es c) at le = called (count es) (expr_fits g m p d (p + expr_size (and a b)) (and a b) refl le) (each_fits g m (p + expr_size (and a b)) (suc d) (p + expr_size (and a b) + each_size es) (count es + suc d) es refl refl (omega arith)) (omega arith) le
  expr_fits g m p d q (call (or a b) es c) at le = called (count es) (expr_fits g m p d (p + expr_size (or a b)) (or a b) refl le) (each_fits g m (p + expr_size (or a b)) (suc d) (p + expr_size (or a b) + each_size es) (count es + suc d) es refl refl (omega arith)) (omega arith) le
  expr_fits g m p d q (call (unary s f) es c) at le = called (count es) (expr_fits g m p d (p + expr_size (unary s f)) (unary s f) refl le) (each_fits g m (p + expr_size (unary s f)) (suc d) (p + expr_size (unary s f) + each_size es) (count es + suc d) es refl refl (omega arith)) (omega arith) le
  expr_fits g m p d q (call (binary op a b) es c) at le = called (count es) (expr_fits g m p d (p + expr_size (binary op a b)) (binary op a b) refl le) (each_fits g m (p + expr_size (binary op a b)) (suc d) (p + expr_size (binary op a b) + each_size es) (count es + suc d) es refl refl (omega arith)) (omega arith) le
  expr_fits g m p d q (call (compare a ls) es c) at le = called (count es) (expr_fits g m p d (p + expr_size (compare a ls)) (compare a ls) refl le) (each_fits g m (p + expr_size (compare a ls)) (suc d) (p + expr_size (compare a ls) + each_size es) (count es + suc d) es refl refl (omega arith)) (omega arith) le
  expr_fits g m p d q (call (cond b t o) es c) at le = called (count es) (expr_fits g m p d (p + expr_size (cond b t o)) (cond b t o) refl le) (each_fits g m (p + expr_size (cond b t o)) (suc d) (p + expr_size (cond b t o) + each_size es) (count es + suc d) es refl refl (omega arith)) (omega arith) le
  expr_fits g m p d q (call (call f ts c') es c) at le = called (count es) (expr_fits g m p d (p + expr_size (call f ts c')) (call f ts c') refl le) (each_fits g m (p + expr_size (call f ts c')) (suc d) (p + expr_size (call f ts c') + each_size es) (count es + suc d) es refl refl (omega arith)) (omega arith) le
  expr_fits g m p d q (call (index a b) es c) at le = called (count es) (expr_fits g m p d (p + expr_size (index a b)) (index a b) refl le) (each_fits g m (p + expr_size (index a b)) (suc d) (p + expr_size (index a b) + each_size es) (count es + suc d) es refl refl (omega arith)) (omega arith) le
  expr_fits g m p d q (call (slice a b t) es c) at le = called (count es) (expr_fits g m p d (p + expr_size (slice a b t)) (slice a b t) refl le) (each_fits g m (p + expr_size (slice a b t)) (suc d) (p + expr_size (slice a b t) + each_size es) (count es + suc d) es refl refl (omega arith)) (omega arith) le
  expr_fits g m p d q (index of i) at le =
      resize (omega arith) (only (after refl (omega arith) (expr_fits g m p d (p + expr_size of) of refl le)
      (after refl (omega arith) (expr_fits g m (p + expr_size of) (suc d) (p + expr_size of + expr_size i) i refl (omega arith))
      (step (plain Index) 2 1 d (suc (suc d)) (suc d) true refl (omega arith) (omega arith) le tt (omega arith) (finish (omega arith) refl)))))
  expr_fits g m p d q (slice of absent absent) at le =
      resize (omega arith) (only (after refl (omega arith) (expr_fits g m p d (p + expr_size of) of refl le)
      (step (plain (Slice Neither)) 1 1 d (suc d) (suc d) true refl (omega arith) (omega arith) le tt (omega arith) (finish (omega arith) refl))))
  expr_fits g m p d q (slice of (present a) absent) at le =
      resize (omega arith) (only (after refl (omega arith) (expr_fits g m p d (p + expr_size of) of refl le)
      (after refl (omega arith) (expr_fits g m (p + expr_size of) (suc d) (p + expr_size of + expr_size a) a refl (omega arith))
      (step (plain (Slice From)) 2 1 d (suc (suc d)) (suc d) true refl (omega arith) (omega arith) le tt (omega arith) (finish (omega arith) refl)))))
  expr_fits g m p d q (slice of absent (present b)) at le =
      resize (omega arith) (only (after (omega arith) (omega arith) (expr_fits g m p d (p + expr_size of + 0) of (omega arith) le)
      (after refl (omega arith) (expr_fits g m (p + expr_size of + 0) (suc d) (p + expr_size of + 0 + expr_size b) b refl (omega arith))
      (step (plain (Slice To)) 2 1 d (suc (suc d)) (suc d) true refl (omega arith) (omega arith) le tt (omega arith) (finish (omega arith) refl)))))
  expr_fits g m p d q (slice of (present a) (present b)) at le =
      resize (omega arith) (only (after refl (omega arith) (expr_fits g m p d (p + expr_size of) of refl le)
      (after refl (omega arith) (expr_fits g m (p + expr_size of) (suc d) (p + expr_size of + expr_size a) a refl (omega arith))
      (after refl (omega arith) (expr_fits g m (p + expr_size of + expr_size a) (suc (suc d)) (p + expr_size of + expr_size a + expr_size b) b refl (omega arith))
      (step (plain (Slice Both)) 3 1 d (suc (suc (suc d))) (suc d) true refl (omega arith) (omega arith) le tt (omega arith) (finish (omega arith) refl))))))
  expr_fits g m p d q (attr e x) at le =
      resize (omega arith) (only (after refl (omega arith) (expr_fits g m p d (p + expr_size e) e refl le)
      (step (attribute x) 1 1 d (suc d) (suc d) true refl (omega arith) (omega arith) le tt (omega arith) (finish (omega arith) refl))))

  pub each_fits : {units : ℕ} (g : Option Guard) (m p d q f : ℕ) (es : Exprs) → p + each_size es ≡ q → count es + d ≡ f → m ≤ d → Fit units g m p d q f (each_size es) (each_code g p es)
  each_fits g m p d q f no_exprs at is le = finish (omega arith) (omega arith)
  each_fits g m p d q f (exprs e es) at is le =
      only (after refl (omega arith) (expr_fits g m p d (p + expr_size e) e refl le) (each_fits g m (p + expr_size e) (suc d) q f es (omega arith) (omega arith) (omega arith)))

  -- after the dict on top
  pairs_fit : {units : ℕ} (g : Option Guard) (m p d q : ℕ) (ps : Pairs) → p + pairs_size ps ≡ q → m ≤ d → Fit units g m p (suc d) q (suc d) (pairs_size ps) (pairs_code g p ps)
  pairs_fit g m p d q no_pairs at le = finish (omega arith) refl
  pairs_fit g m p d q (pair key e rest) at le =
      resize (omega arith) (only (after refl (omega arith) (expr_fits g m p (suc d) (p + expr_size key) key refl (omega arith))
      (after refl (omega arith) (expr_fits g m (p + expr_size key) (suc (suc d)) (p + expr_size key + expr_size e) e refl (omega arith))
      (step (plain AddPair) 3 1 d (suc (suc (suc d))) (suc d) true refl (omega arith) (omega arith) le tt (omega arith)
      (pairs_fit g m (p + expr_size key + expr_size e + 1) d q rest (omega arith) le)))))

  -- after the left operand on top
  links_fit : {units : ℕ} (g : Option Guard) (m p d q end : ℕ) (ls : Links) → p + links_size ls ≡ end → end ≡ q → m ≤ d → Fit units g m p (suc d) q (suc d) (links_size ls) (links_code g p end ls)
  links_fit g m p d q end no_links at is le =
      only (step (plain Pop) 1 0 d (suc d) d false refl (omega arith) (omega arith) le tt (omega arith)
      (step (constant (BoolConstant true)) 0 1 d d (suc d) false refl (omega arith) (omega arith) le tt (omega arith) (finish (omega arith) refl)))
  links_fit g m p d q end (link op e no_links) at is le =
      resize (omega arith) (only (after refl (omega arith) (expr_fits g m p (suc d) (p + expr_size e) e refl (omega arith))
      (step (plain (Compare (question op))) 2 1 d (suc (suc d)) (suc d) true refl (omega arith) (omega arith) le tt (omega arith) (finish (omega arith) refl))))
  links_fit g m p d q end (link op e (link r k rest)) at is le =
      resize (omega arith) (only (after refl (omega arith) (expr_fits g m p (suc d) (p + expr_size e) e refl (omega arith))
      (fork (plain (Link (question op) end)) 2 1 1 d (suc (suc d)) (suc d) (suc d) end true refl (omega arith) (omega arith) (omega arith) le tt (omega arith) (omega arith)
      (links_fit g m (p + expr_size e + 1) d q end (link r k rest) (omega arith) is le) (λ l there h. ap l.depth is ∙ h.ends))))

  -- after the text on top
  fragments_fit : {units : ℕ} (g : Option Guard) (m p d q : ℕ) (fs : Fragments) → p + fragments_size fs ≡ q → m ≤ d → Fit units g m p (suc d) q (suc d) (fragments_size fs) (fragments_code g p fs)
  fragments_fit g m p d q no_fragments at le = finish (omega arith) refl
  fragments_fit g m p d q (plain_piece x rest) at le =
      resize (omega arith) (only (step (constant (StrConstant x)) 0 1 (suc d) (suc d) (suc (suc d)) false refl (omega arith) (omega arith) (omega arith) tt (omega arith)
      (step (plain Extend) 2 1 d (suc (suc d)) (suc d) true refl (omega arith) (omega arith) le tt (omega arith) (moved (omega arith) (fragments_fit g m (p + 2) d q rest (omega arith) le)))))
  fragments_fit g m p d q (format parts rest) at le =
      only (after refl (omega arith) (parts_fit g m p d (p + parts_size parts) parts refl le) (fragments_fit g m (p + parts_size parts) d q rest (omega arith) le))

  parts_fit : {units : ℕ} (g : Option Guard) (m p d q : ℕ) (ps : Parts) → p + parts_size ps ≡ q → m ≤ d → Fit units g m p (suc d) q (suc d) (parts_size ps) (parts_code g p ps)
  parts_fit g m p d q no_parts at le = finish (omega arith) refl
  parts_fit g m p d q (text x rest) at le =
      resize (omega arith) (only (step (constant (StrConstant x)) 0 1 (suc d) (suc d) (suc (suc d)) false refl (omega arith) (omega arith) (omega arith) tt (omega arith)
      (step (plain Extend) 2 1 d (suc (suc d)) (suc d) true refl (omega arith) (omega arith) le tt (omega arith) (moved (omega arith) (parts_fit g m (p + 2) d q rest (omega arith) le)))))
  parts_fit g m p d q (field e rest) at le =
      resize (omega arith) (only (after refl (omega arith) (expr_fits g m p (suc d) (p + expr_size e) e refl (omega arith))
      (step (plain TextOf) 1 1 (suc d) (suc (suc d)) (suc (suc d)) true refl (omega arith) (omega arith) (omega arith) tt (omega arith)
      (step (plain Extend) 2 1 d (suc (suc d)) (suc d) true refl (omega arith) (omega arith) le tt (omega arith) (moved (omega arith) (parts_fit g m (p + expr_size e + 2) d q rest (omega arith) le))))))
