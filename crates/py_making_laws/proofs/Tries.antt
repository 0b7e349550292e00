-- The code of `try` makes functions as the units ask, where that of its suites does.
use Rattle.std.proofs.Common.{◌≡◌, ℕ, ◌+◌, Bool, true, false, List, ◌∷◌, ◌++◌, Option, Some, None, refl, arith}
use Rattle.py_syntax.specs.Functions.{Function}
use Rattle.py_syntax.specs.Tree.{Text, Expr, Stmts, suite, OptSuite, no_suite, has_suite, Clauses, no_clauses, clause, try}
use Rattle.py_meaning.specs.Statements.{has_clauses}
use Rattle.py_code.specs.declared.instr.Instr.TheVariants.{Pop, Goto, Caught, Uncaught, Ending, Settle, Release}
use Rattle.py_code.specs.Units.{Code}
use Rattle.py_compile_expr.specs.Cells.{store, unset, marks, plain, Cell, cell}
use Rattle.py_compile_expr.specs.Stands.{HasAt}
use Rattle.py_compile_expr.proofs.Places.{has_behind, has_at}
use Rattle.py_compile.specs.Statements.{caught_size, caught_code, tried_size, tried_code, stmts_size, opt_size, clauses_size, exits_code, stmts_code, opt_code, clauses_code}
use Rattle.py_compile.specs.Ways.{Ways, under, in_finally, in_try, in_clause, in_hand}
use Rattle.py_compile.specs.Laws.{SizesHold}
use Rattle.py_making_laws.proofs.Places.{Free, Made, free_at, nothing, moved, put_made, part_then}
use Rattle.py_making_laws.proofs.Lengths.{caught_length, opt_length, tried_length}
use Rattle.py_making_laws.proofs.Leaves.{earlier}
use Rattle.py_making_laws.proofs.Parts.{caught_make}
use Rattle.py_making_laws.proofs.Suites.{Around, around_at, around_under, around_clause, around_try, around_finally, exits_make, ways_free}
use Rattle.py_making_laws.proofs.Forms.{StmtsMake, KindMakes, OptMakes, ClausesMake}
use Rattle.py_making_laws.proofs.Branches.{has_after_stmts, stmts_then}

module _ (sizes : SizesHold) (us : List Code) (u : Code) (fs : List Function) where
  -- ---- clauses

  pub no_clauses_form : ClausesMake us u fs no_clauses
  no_clauses_form w p q end at free k has = put_made us u w.guard p (plain Uncaught) (nothing us u (p + 1) q (omega arith) k.after.ends) tt k.after.guard (λ f. tt) has.0

  pub clause_form : (kind : Option Expr) (first last : ℕ) (inline : Bool) (body : Stmts) (rest : Clauses) → StmtsMake us u fs body → ClausesMake us u fs rest → ClausesMake us u fs (clause kind None (suite first last inline body) rest)
  clause_form kind first last inline body rest b r w p q end at free k has =
      let g = w.guard in
      let n = caught_size kind in
      let begin = p + 1 + n in
      let close = begin + stmts_size true body in
      let next = close + 2 in
      let v = in_clause w in
      let xs = caught_code g (p + 1) next kind in
      let h = has_behind u (p + 1) n xs _ (caught_length g (p + 1) next kind) has.1 in
      let i = has_after_stmts sizes u fs v begin body _ h in
      let others = r w next q end (omega arith) free k (has_at u (close + 1 + 1) next _ (omega arith) i.1.1) in
      let away = put_made us u g (close + 1) (plain (Goto end)) (moved us u next (close + 1 + 1) (omega arith) others) tt k.after.guard (λ f. (free, tt)) i.1.0 in
      let popped = put_made us u g close (plain Pop) away tt k.after.guard (λ f. (f, tt)) i.0 in
      let inner = stmts_then sizes us u fs v begin body b (λ ends. around_clause u w close (around_at u w close q (omega arith) ends k)) popped h in
      let caught = part_then us u (p + 1) n xs (caught_length g (p + 1) next kind) (λ ends j. caught_make us u g (p + 1) begin next kind refl (omega arith) others.free (earlier u g begin q (omega arith) ends k.after) j) inner has.1 in
      put_made us u g p (marks first) caught tt k.after.guard (λ f. (f, tt)) has.0

  pub named_clause_form : (kind : Option Expr) (x : Text) (first last : ℕ) (inline : Bool) (body : Stmts) (rest : Clauses) → StmtsMake us u fs body → ClausesMake us u fs rest
      → ClausesMake us u fs (clause kind (Some x) (suite first last inline body) rest)
  named_clause_form kind x first last inline body rest b r w p q end at free k has =
      let g = w.guard in
      let n = caught_size kind in
      let found = p + 1 + n in
      let begin = found + 2 in
      let close = begin + stmts_size true body in
      let release = close + 1 in
      let out = release + 2 in
      let next = release + 7 in
      let v = in_finally (in_clause w) release in
      let xs = caught_code g (p + 1) next kind in
      let tail = cell g (plain Pop) ∷ cell g (plain (Goto end)) ∷ clauses_code fs w next end rest in
      let h = has_behind u (p + 1) n xs _ (caught_length g (p + 1) next kind) has.1 in
      let inside = has_at u (found + 1 + 1) begin _ (omega arith) h.1.1 in
      let i = has_after_stmts sizes u fs v begin body _ inside in
      let o = has_at u (release + 1 + 1) out (exits_code (under w) out ++ tail) (omega arith) i.1.1.1 in
      let t = o.1.1.1 in
      let others = r w next q end (omega arith) free k (has_at u (out + 1 + 1 + 1 + 1 + 1) next _ (omega arith) t.1.1) in
      let away = put_made us u g (out + 1 + 1 + 1 + 1) (plain (Goto end)) (moved us u next (out + 1 + 1 + 1 + 1 + 1) (omega arith) others) tt k.after.guard (λ f. (free, tt)) t.1.0 in
      let popped = put_made us u g (out + 1 + 1 + 1) (plain Pop) away tt k.after.guard (λ f. (f, tt)) t.0 in
      let four = exits_make us u (under w) out popped (around_under u w (out + 3) (around_at u w (out + 3) q (omega arith) (free_at u (out + 1 + 1 + 1) (out + 3) (omega arith) popped.free) k)) o in
      let released = put_made us u g (release + 1) (plain Release) (moved us u out (release + 1 + 1) (omega arith) four.made) tt k.after.guard (λ f. ways_free us u (release + 1) out (omega arith) four) i.1.1.0 in
      let unbound = put_made us u g release (unset x) released tt k.after.guard (λ f. (f, tt)) i.1.0 in
      let ending = put_made us u g close (plain Ending) unbound tt k.after.guard (λ f. (f, tt)) i.0 in
      let inner = moved us u begin (found + 1 + 1) (omega arith) (stmts_then sizes us u fs v begin body b (λ ends. around_finally u (in_clause w) release close unbound.free (omega arith) ends) ending inside) in
      let bound = put_made us u g (found + 1) (store x) inner tt k.after.guard (λ f. (f, tt)) h.1.0 in
      let got = put_made us u g found (plain Caught) bound tt k.after.guard (λ f. (f, tt)) h.0 in
      let caught = part_then us u (p + 1) n xs (caught_length g (p + 1) next kind) (λ ends j. caught_make us u g (p + 1) found next kind refl (omega arith) others.free (earlier u g found q (omega arith) ends k.after) j) got has.1 in
      put_made us u g p (marks first) caught tt k.after.guard (λ f. (f, tt)) has.0

  -- ---- a body, its `else`, and its clauses where there are some

  module _ (body : Stmts) (orelse : OptSuite) (clauses : Clauses) (b : StmtsMake us u fs body) (o : OptMakes us u fs orelse) (c : ClausesMake us u fs clauses) where
    abbrev tried : Bool → Ways → ℕ → List Cell
    tried has w p = tried_code has w p (stmts_size (in_hand w) body) (opt_size (in_hand w) orelse) (clauses_size (in_hand w) clauses) (λ v q. stmts_code fs v q body) (λ q. opt_code fs w q orelse) (λ q end. clauses_code fs w q end clauses)

    abbrev size : Bool → Ways → ℕ
    size has w = tried_size has (stmts_size (in_hand w) body) (opt_size (in_hand w) orelse) (clauses_size (in_hand w) clauses)

    tried_make : (clauses_there : Bool) (w : Ways) (p q : ℕ) → p + size clauses_there w ≡ q → Around u w q → HasAt u p (tried clauses_there w p) → Made us u p (tried clauses_there w p)
    tried_make false w p q at k has =
        let r = p + stmts_size (in_hand w) body in
        let other = o w r q (omega arith) k (has_after_stmts sizes u fs w p body (opt_code fs w r orelse) has) in
        stmts_then sizes us u fs w p body b (λ ends. around_at u w r q (omega arith) ends k) other has
    tried_make true w p q at k has =
        let g = w.guard in
        let m = opt_size (in_hand w) orelse in
        let r = p + stmts_size (in_hand w) body in
        let e = r + m in
        let begin = e + 1 in
        let end = begin + clauses_size (in_hand w) clauses in
        let v = in_try w begin in
        let xs = opt_code fs w r orelse in
        let h = has_after_stmts sizes u fs v p body _ has in
        let i = has_behind u r m xs _ (opt_length sizes fs w r orelse) h in
        let free : Free u end = free_at u q end (omega arith) k.after.ends in
        let others = c w begin q end (omega arith) free k i.1 in
        let away = put_made us u g e (plain (Goto end)) others tt k.after.guard (λ f. (free, tt)) i.0 in
        let other = part_then us u r m xs (opt_length sizes fs w r orelse) (λ ends j. o w r e refl (around_at u w e q (omega arith) ends k) j) away h in
        stmts_then sizes us u fs v p body b (λ ends. around_try u w begin r others.free (omega arith) (around_at u w r q (omega arith) ends k)) other has

    -- ---- the whole

    pub try_form : (line first last : ℕ) (inline : Bool) → KindMakes us u fs line (try (suite first last inline body) clauses orelse no_suite)
    try_form line first last inline w p q at k has =
        let all = tried_make (has_clauses clauses) w (p + 1) q (omega arith) k has.1 in
        put_made us u w.guard p (marks line) all tt k.after.guard (λ f. (f, tt)) has.0

    pub try_finally_form : (line first last : ℕ) (inline : Bool) (y z : ℕ) (i : Bool) (finally : Stmts) → StmtsMake us u fs finally → KindMakes us u fs line (try (suite first last inline body) clauses orelse (has_suite (suite y z i finally)))
    try_finally_form line first last inline y z i finally f w p q at k has =
        let g = w.guard in
        let there = has_clauses clauses in
        let n = size there w in
        let normal = p + 1 + n in
        let settle = normal + 1 + stmts_size (in_hand w) finally in
        let out = settle + 1 in
        let v = in_finally w (normal + 1) in
        let h = has_behind u (p + 1) n (tried there v (p + 1)) _ (tried_length sizes fs v p body orelse clauses) has.1 in
        let s = has_after_stmts sizes u fs (under w) (normal + 1) finally _ h.1 in
        let end = nothing us u (out + 1 + 1 + 1) q (omega arith) k.after.ends in
        let four = exits_make us u w out end (around_at u w (out + 3) q (omega arith) (free_at u q (out + 3) (omega arith) k.after.ends) k) s.1 in
        let settled = put_made us u g settle (plain Settle) four.made tt k.after.guard (λ f. ways_free us u settle out refl four) s.0 in
        let last_one = stmts_then sizes us u fs (under w) (normal + 1) finally f (λ ends. around_under u w settle (around_at u w settle q (omega arith) ends k)) settled h.1 in
        let ending = put_made us u g normal (plain Ending) last_one tt k.after.guard (λ f. (f, tt)) h.0 in
        let all = part_then us u (p + 1) n (tried there v (p + 1)) (tried_length sizes fs v p body orelse clauses) (λ ends j. tried_make there v (p + 1) normal refl (around_finally u w (normal + 1) normal last_one.free (omega arith) ends) j) ending has.1 in
        put_made us u g p (marks line) all tt k.after.guard (λ f. (f, tt)) has.0
