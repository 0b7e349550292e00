-- The code of `if`, `while` and `for` makes functions as the units ask, where that of their suites does.
use Rattle.std.proofs.Common.{ℕ, ◌+◌, ◌≤◌, Bool, List, ◌∷◌, ◌++◌, Option, refl, arith}
use Rattle.py_syntax.specs.Functions.{Function}
use Rattle.py_syntax.specs.Tree.{Expr, Stmts, suite, OptSuite, Arms, no_arms, arm, if', while, for}
use Rattle.py_code.specs.declared.instr.Instr.TheVariants.{Goto, IfFalse, Walk, Next}
use Rattle.py_code.specs.Units.{Code}
use Rattle.py_compile_expr.specs.Cells.{marks, marks_again, plain, Guard, Cell, cell}
use Rattle.py_compile_expr.specs.Expressions.{expr_size, expr_code}
use Rattle.py_compile_expr.specs.Stands.{HasAt}
use Rattle.py_compile_expr.specs.Targets.{target_size, target_code}
use Rattle.py_compile_expr.proofs.Places.{has_behind, has_at}
use Rattle.py_compile_expr.proofs.Sizes.{expr_length, target_length}
use Rattle.py_compile.specs.Statements.{stmts_size, opt_size, arms_size, stmts_code, opt_code, arms_code}
use Rattle.py_compile.specs.Ways.{Ways, under, in_loop, in_hand}
use Rattle.py_compile.specs.Laws.{SizesHold}
use Rattle.py_making_laws.proofs.Places.{Free, Made, op_free, free_at, nothing, moved, put_made, part_then}
use Rattle.py_making_laws.proofs.Lengths.{stmts_length, arms_length}
use Rattle.py_making_laws.proofs.Leaves.{FreeAfter, earlier}
use Rattle.py_making_laws.proofs.Parts.{expr_make, target_make}
use Rattle.py_making_laws.proofs.Suites.{Around, around_at, around_under, around_loop}
use Rattle.py_making_laws.proofs.Forms.{StmtsMake, KindMakes, OptMakes, ArmsMake}

-- what follows an expression, and what follows statements
pub has_after_expr : (u : Code) (g : Option Guard) (p : ℕ) (e : Expr) (ys : List Cell) → HasAt u p (expr_code g p e ++ ys) → HasAt u (p + expr_size e) ys
has_after_expr u g p e ys has = has_behind u p (expr_size e) (expr_code g p e) ys (expr_length g p e) has

pub has_after_stmts : (sizes : SizesHold) (u : Code) (fs : List Function) (w : Ways) (p : ℕ) (ss : Stmts) (ys : List Cell) → HasAt u p (stmts_code fs w p ss ++ ys) → HasAt u (p + stmts_size (in_hand w) ss) ys
has_after_stmts sizes u fs w p ss ys has = has_behind u p (stmts_size (in_hand w) ss) (stmts_code fs w p ss) ys (stmts_length sizes fs w p ss) has

module _ (us : List Code) (u : Code) where
  pub expr_then : (g : Option Guard) (p q : ℕ) (e : Expr) {ys : List Cell} → p + expr_size e ≤ q → FreeAfter u g q → Made us u (p + expr_size e) ys → HasAt u p (expr_code g p e ++ ys) → Made us u p (expr_code g p e ++ ys)
  expr_then g p q e {ys} le k m has = part_then us u p (expr_size e) (expr_code g p e) (expr_length g p e) (λ free i. expr_make us u g p (p + expr_size e) e refl (earlier u g (p + expr_size e) q le free k) i) m has

module _ (sizes : SizesHold) (us : List Code) (u : Code) (fs : List Function) where
  pub stmts_then : (w : Ways) (p : ℕ) (ss : Stmts) {ys : List Cell} → StmtsMake us u fs ss → (Free u (p + stmts_size (in_hand w) ss) → Around u w (p + stmts_size (in_hand w) ss)) → Made us u (p + stmts_size (in_hand w) ss) ys → HasAt u p (stmts_code fs w p ss ++ ys)
      → Made us u p (stmts_code fs w p ss ++ ys)
  stmts_then w p ss {ys} b k m has = part_then us u p (stmts_size (in_hand w) ss) (stmts_code fs w p ss) (stmts_length sizes fs w p ss) (λ free i. b w p (p + stmts_size (in_hand w) ss) refl (k free) i) m has

  -- ---- `if`

  pub no_arms_form : ArmsMake us u fs no_arms
  no_arms_form w p q end at free k has = nothing us u p q (omega arith) k.after.ends

  pub arm_form : (test : Expr) (first last : ℕ) (inline : Bool) (body : Stmts) (rest : Arms) → StmtsMake us u fs body → ArmsMake us u fs rest → ArmsMake us u fs (arm test (suite first last inline body) rest)
  arm_form test first last inline body rest b r w p q end at free k has =
      let g = w.guard in
      let mid = p + 1 + expr_size test in
      let begin = mid + 1 in
      let close = begin + stmts_size (in_hand w) body in
      let next = close + 1 in
      let h = has_after_expr u g (p + 1) test _ has.1 in
      let i = has_after_stmts sizes u fs w begin body _ h.1 in
      let others = r w next q end (omega arith) free k i.1 in
      let away = put_made us u g close (plain (Goto end)) others tt k.after.guard (λ f. (free, tt)) i.0 in
      let inner = stmts_then w begin body b (λ ends. around_at u w close q (omega arith) ends k) away h.1 in
      let fork = put_made us u g mid (plain (IfFalse next)) inner tt k.after.guard (λ f. (f, (others.free, tt))) h.0 in
      let value = expr_then us u g (p + 1) q test (omega arith) k.after fork has.1 in
      put_made us u g p (marks first) value tt k.after.guard (λ f. (f, tt)) has.0

  pub if_form : (l : ℕ) (arms : Arms) (orelse : OptSuite) → ArmsMake us u fs arms → OptMakes us u fs orelse → KindMakes us u fs l (if' arms orelse)
  if_form line arms orelse a o w p q at k has =
      let rest = p + arms_size (in_hand w) arms in
      let end = rest + opt_size (in_hand w) orelse in
      let xs = arms_code fs w p end arms in
      let h = has_behind u p (arms_size (in_hand w) arms) xs (opt_code fs w rest orelse) (arms_length sizes fs w p arms orelse) has in
      let other = o w rest q (omega arith) k h in
      part_then us u p (arms_size (in_hand w) arms) xs (arms_length sizes fs w p arms orelse) (λ free i. a w p rest end refl (free_at u q end (omega arith) k.after.ends) (around_at u w rest q (omega arith) free k) i) other has

  -- ---- loops

  pub while_form : (line : ℕ) (test : Expr) (first last : ℕ) (inline : Bool) (body : Stmts) (orelse : OptSuite) → StmtsMake us u fs body → OptMakes us u fs orelse → KindMakes us u fs line (while test (suite first last inline body) orelse)
  while_form line test first last inline body orelse b o w p q at k has =
      let g = w.guard in
      let mid = p + 3 + expr_size test in
      let begin = mid + 1 in
      let back = begin + stmts_size (in_hand w) body in
      let rest = back + 1 in
      let end = rest + opt_size (in_hand w) orelse in
      let v = in_loop w 0 end back in
      let tested = has_at u (p + 1 + 1 + 1) (p + 3) _ (omega arith) has.1.1.1 in
      let h = has_after_expr u g (p + 3) test _ tested in
      let i = has_after_stmts sizes u fs v begin body _ h.1 in
      let other = o w rest q (omega arith) k i.1 in
      let again : Free u (p + 2) = free_at u (p + 1 + 1) (p + 2) (omega arith) (op_free u (p + 1 + 1) (cell g (marks_again line)) tt has.1.1.0) in
      let turn = put_made us u g back (plain (Goto (p + 2))) other tt k.after.guard (λ f. (again, tt)) i.0 in
      let inner = stmts_then v begin body b (λ ends. around_loop u w 0 end back (free_at u q end (omega arith) k.after.ends) (around_at u w back q (omega arith) ends k)) turn h.1 in
      let fork = put_made us u g mid (plain (IfFalse rest)) inner tt k.after.guard (λ f. (f, (other.free, tt))) h.0 in
      let value = expr_then us u g (p + 3) q test (omega arith) k.after fork tested in
      let mark = put_made us u g (p + 1 + 1) (marks_again line) (moved us u (p + 3) (p + 1 + 1 + 1) (omega arith) value) tt k.after.guard (λ f. (f, tt)) has.1.1.0 in
      let away = put_made us u g (p + 1) (plain (Goto (p + 3))) mark tt k.after.guard (λ f. (value.free, tt)) has.1.0 in
      put_made us u g p (marks line) away tt k.after.guard (λ f. (f, tt)) has.0

  pub for_form : (line : ℕ) (target over : Expr) (first last : ℕ) (inline : Bool) (body : Stmts) (orelse : OptSuite) → StmtsMake us u fs body → OptMakes us u fs orelse
      → KindMakes us u fs line (for target over (suite first last inline body) orelse)
  for_form line target over first last inline body orelse b o w p q at k has =
      let g = w.guard in
      let mid = p + 1 + expr_size over in
      let again = mid + 2 in
      let bind = again + 2 in
      let n = target_size target in
      let begin = bind + n in
      let back = begin + stmts_size (in_hand w) body in
      let rest = back + 1 in
      let end = rest + opt_size (in_hand w) orelse in
      let v = in_loop (under w) 1 end back in
      let xs = target_code g bind target in
      let h = has_after_expr u g (p + 1) over _ has.1 in
      let turns = cell g (marks_again line) ∷ cell g (plain (Next rest)) ∷ xs ++ (stmts_code fs v begin body ++ cell g (plain (Goto again)) ∷ opt_code fs w rest orelse) in
      let marked = has_at u (mid + 1 + 1) again turns (omega arith) h.1.1 in
      let bound = has_at u (again + 1 + 1) bind _ (omega arith) marked.1.1 in
      let i = has_behind u bind n xs _ (target_length g bind target) bound in
      let j = has_after_stmts sizes u fs v begin body _ i in
      let other = o w rest q (omega arith) k j.1 in
      let again_free : Free u again = op_free u again (cell g (marks_again line)) tt marked.0 in
      let turn = put_made us u g back (plain (Goto again)) other tt k.after.guard (λ f. (again_free, tt)) j.0 in
      let inner = stmts_then v begin body b (λ ends. around_loop u (under w) 1 end back (free_at u q end (omega arith) k.after.ends) (around_under u w back (around_at u w back q (omega arith) ends k))) turn i in
      let taken = part_then us u bind n xs (target_length g bind target) (λ free t. target_make us u g bind begin target refl (earlier u g begin q (omega arith) free k.after) t) inner bound in
      let next = put_made us u g (again + 1) (plain (Next rest)) (moved us u bind (again + 1 + 1) (omega arith) taken) tt k.after.guard (λ f. (f, (other.free, tt))) marked.1.0 in
      let mark = put_made us u g again (marks_again line) next tt k.after.guard (λ f. (f, tt)) marked.0 in
      let away = put_made us u g (mid + 1) (plain (Goto (again + 1))) (moved us u again (mid + 1 + 1) (omega arith) mark) tt k.after.guard (λ f. (next.free, tt)) h.1.0 in
      let walk = put_made us u g mid (plain Walk) away tt k.after.guard (λ f. (f, tt)) h.0 in
      let value = expr_then us u g (p + 1) q over (omega arith) k.after walk has.1 in
      put_made us u g p (marks line) value tt k.after.guard (λ f. (f, tt)) has.0
