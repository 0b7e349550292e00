-- The code of `match` makes functions as the units ask, where that of its suites does.
use Rattle.std.proofs.Common.{ℕ, ◌+◌, Bool, List, Option, refl, arith}
use Rattle.py_syntax.specs.Functions.{Function}
use Rattle.py_syntax.specs.Tree.{Expr, Pattern, Stmts, suite, Cases, no_cases, case, match}
use Rattle.py_code.specs.declared.instr.Instr.TheVariants.{Pop, Copy, Goto}
use Rattle.py_code.specs.Units.{Code}
use Rattle.py_compile_expr.specs.Cells.{marks, plain}
use Rattle.py_compile_expr.specs.Expressions.{expr_size}
use Rattle.py_compile_expr.specs.Patterns.{Site, captured, pattern_size, pattern_code, names_size, names_code}
use Rattle.py_compile_expr.proofs.Places.{has_behind, has_at}
use Rattle.py_compile_expr.proofs.Sizes.{pattern_length, names_length}
use Rattle.py_compile.specs.Proper.{ProperPattern}
use Rattle.py_compile.specs.Statements.{guard_size, guard_code, stmts_size, cases_size, cases_code}
use Rattle.py_compile.specs.Ways.{in_hand}
use Rattle.py_compile.specs.Laws.{SizesHold}
use Rattle.py_making_laws.proofs.Places.{free_at, nothing, moved, put_made, part_then}
use Rattle.py_making_laws.proofs.Lengths.{guard_length}
use Rattle.py_making_laws.proofs.Leaves.{earlier}
use Rattle.py_making_laws.proofs.Parts.{names_make, guard_make, pattern_make}
use Rattle.py_making_laws.proofs.Suites.{around_at}
use Rattle.py_making_laws.proofs.Forms.{StmtsMake, KindMakes, CasesMake}
use Rattle.py_making_laws.proofs.Branches.{has_after_expr, has_after_stmts, expr_then, stmts_then}

module _ (sizes : SizesHold) (us : List Code) (u : Code) (fs : List Function) where
  pub no_cases_form : CasesMake us u fs no_cases
  no_cases_form w p q end at free k has = let ends = nothing us u (p + 1) q (omega arith) k.after.ends in put_made us u w.guard p (plain Pop) ends tt k.after.guard (λ f. (f, tt)) has.0

  pub case_form : (t : Pattern) (guard : Option Expr) (first last : ℕ) (inline : Bool) (body : Stmts) (rest : Cases) → ProperPattern t → StmtsMake us u fs body → CasesMake us u fs rest
      → CasesMake us u fs (case t guard (suite first last inline body) rest)
  case_form t guard first last inline body rest ok b r w p q end at free k has =
      let g = w.guard in
      let bind = p + 2 + pattern_size t in
      let named = bind + names_size (captured t) in
      let chosen = named + guard_size guard in
      let begin = chosen + 1 in
      let close = begin + stmts_size (in_hand w) body in
      let next = close + 1 in
      let site : Site = record { guard = g; waiting = 0; fail = next; extra = 0 } in
      let xs = pattern_code site (p + 2) t in
      let ys = names_code g (captured t) in
      let zs = guard_code g named next guard in
      let inside = has_at u (p + 1 + 1) (p + 2) _ (omega arith) has.1.1 in
      let h = has_behind u (p + 2) (pattern_size t) xs _ (pattern_length site (p + 2) t) inside in
      let i = has_behind u bind (names_size (captured t)) ys _ (names_length g (captured t)) h in
      let j = has_behind u named (guard_size guard) zs _ (guard_length g named next guard) i in
      let m = has_after_stmts sizes u fs w begin body _ j.1 in
      let others = r w next q end (omega arith) free k m.1 in
      let away = put_made us u g close (plain (Goto end)) others tt k.after.guard (λ f. (free, tt)) m.0 in
      let inner = stmts_then sizes us u fs w begin body b (λ ends. around_at u w close q (omega arith) ends k) away j.1 in
      let popped = put_made us u g chosen (plain Pop) inner tt k.after.guard (λ f. (f, tt)) j.0 in
      let tested = part_then us u named (guard_size guard) zs (guard_length g named next guard) (λ ends x. guard_make us u g named chosen next guard refl (omega arith) others.free (earlier u g chosen q (omega arith) ends k.after) x) popped i in
      let kept = part_then us u bind (names_size (captured t)) ys (names_length g (captured t)) (λ ends x. names_make us u g bind named (captured t) refl (earlier u g named q (omega arith) ends k.after) x) tested h in
      let matched = part_then us u (p + 2) (pattern_size t) xs (pattern_length site (p + 2) t) (λ ends x. pattern_make us u g (p + 2) bind next t ok refl (omega arith) ends (earlier u g next q (omega arith) others.free k.after) x) kept inside in
      let moved_on = moved us u (p + 2) (p + 1 + 1) (omega arith) matched in
      let copied = put_made us u g (p + 1) (plain (Copy 0)) moved_on tt k.after.guard (λ f. (f, tt)) has.1.0 in
      put_made us u g p (marks first) copied tt k.after.guard (λ f. (f, tt)) has.0

  pub match_form : (line : ℕ) (subject : Expr) (header : ℕ) (cases : Cases) → CasesMake us u fs cases → KindMakes us u fs line (match subject header cases)
  match_form line subject header cases c w p q at k has =
      let g = w.guard in
      let first = p + 1 + expr_size subject in
      let end = first + cases_size (in_hand w) cases in
      let h = has_after_expr u g (p + 1) subject (cases_code fs w first end cases) has.1 in
      let others = c w first q end (omega arith) (free_at u q end (omega arith) k.after.ends) k h in
      let value = expr_then us u g (p + 1) q subject (omega arith) k.after others has.1 in
      put_made us u g p (marks line) value tt k.after.guard (λ f. (f, tt)) has.0
