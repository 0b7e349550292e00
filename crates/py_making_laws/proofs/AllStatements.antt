-- The code of all statements makes functions as the units ask.
use Rattle.std.proofs.Common.{ℕ, ◌+◌, List, [], ◌++◌, Some, None, refl, arith}
use Rattle.py_syntax.specs.Functions.{Function}
use Rattle.py_syntax.specs.Tree.{Stmts, no_stmts, stmt, suite, OptSuite, no_suite, has_suite, Arms, no_arms, arm, Clauses, no_clauses, clause, Cases, no_cases, case, StmtKind, expr, assign, aug_assign, pass, break, continue, return, raise, assert, global, import, from, if', while, for, try, def, match}
use Rattle.py_code.specs.Units.{Code}
use Rattle.py_compile_expr.proofs.Places.{has_behind}
use Rattle.py_compile.specs.Definitions.{definitions, definitions_in, opt_definitions, arms_definitions, clauses_definitions, cases_definitions}
use Rattle.py_compile.specs.Proper.{AreProper, IsProper, ProperOpt, ProperArms, ProperClauses, ProperCases}
use Rattle.py_compile.specs.Statements.{kind_size, kind_code, stmts_code}
use Rattle.py_compile.specs.Ways.{in_hand}
use Rattle.py_compile.specs.Laws.{SizesHold}
use Rattle.py_making_laws.proofs.Places.{nothing, part_then}
use Rattle.py_making_laws.proofs.Lengths.{kind_length}
use Rattle.py_making_laws.proofs.Suites.{around_at}
use Rattle.py_making_laws.proofs.Forms.{StmtsMake, KindMakes, OptMakes, ArmsMake, ClausesMake, CasesMake}
use Rattle.py_making_laws.proofs.Simple.{expr_form, assign_form, aug_assign_form, pass_form, break_form, continue_form, return_form, raise_form, assert_form, global_form, import_form, from_form, def_form}
use Rattle.py_making_laws.proofs.Branches.{no_arms_form, arm_form, if_form, while_form, for_form}
use Rattle.py_making_laws.proofs.Tries.{no_clauses_form, clause_form, named_clause_form, try_form, try_finally_form}
use Rattle.py_making_laws.proofs.Matches.{no_cases_form, case_form, match_form}
use Rattle.py_making_laws.proofs.Defaults.{AllAnswered, answered_first, answered_last}

module _ (sizes : SizesHold) (us : List Code) (u : Code) (fs : List Function) where
  no_stmts_make : StmtsMake us u fs no_stmts
  no_stmts_make w p q at k has = nothing us u p q (omega arith) k.after.ends

  no_suite_makes : OptMakes us u fs no_suite
  no_suite_makes w p q at k has = nothing us u p q (omega arith) k.after.ends

  stmt_make : (first last : ℕ) (kind : StmtKind) (end : _) (rest : Stmts) → KindMakes us u fs first kind → StmtsMake us u fs rest → StmtsMake us u fs (stmt first last kind end rest)
  stmt_make first last kind end rest a b w p q at k has =
      let n = kind_size (in_hand w) kind in
      let r = p + n in
      let xs = kind_code fs w p first kind in
      let others = b w r q (omega arith) k (has_behind u p n xs (stmts_code fs w r rest) (kind_length sizes fs w p first kind) has) in
      part_then us u p n xs (kind_length sizes fs w p first kind) (λ ends i. a w p r refl (around_at u w r q (omega arith) ends k) i) others has

  mutual
    pub stmts_make : (ss : Stmts) → AreProper ss → AllAnswered us fs (definitions ss) → StmtsMake us u fs ss
    stmts_make no_stmts ok h = no_stmts_make
    stmts_make (stmt first last kind end rest) ok h =
        stmt_make first last kind end rest (kind_makes first kind ok.0 (answered_first us fs (definitions_in first kind) (definitions rest) h)) (stmts_make rest ok.1 (answered_last us fs (definitions_in first kind) (definitions rest) h))

    kind_makes : (l : ℕ) (kind : StmtKind) → IsProper kind → AllAnswered us fs (definitions_in l kind) → KindMakes us u fs l kind
    kind_makes l (expr e) ok h = expr_form us u fs l e
    kind_makes l (assign targets e) ok h = assign_form us u fs l targets e
    kind_makes l (aug_assign place op e) ok h = aug_assign_form us u fs l place op e
    kind_makes l pass ok h = pass_form us u fs l
    kind_makes l break ok h = break_form us u fs l
    kind_makes l continue ok h = continue_form us u fs l
    kind_makes l (return e) ok h = return_form us u fs l e
    kind_makes l (raise e) ok h = raise_form us u fs l e
    kind_makes l (assert test why) ok h = assert_form us u fs l test why
    kind_makes l (global xs) ok h = global_form us u fs l xs
    kind_makes l (import names) ok h = import_form us u fs l names
    kind_makes l (from m names) ok h = from_form us u fs l m names
    kind_makes l (if' arms orelse) ok h =
        if_form sizes us u fs l arms orelse (arms_make arms ok.0 (answered_first us fs (arms_definitions arms) (opt_definitions orelse) h)) (opt_makes orelse ok.1 (answered_last us fs (arms_definitions arms) (opt_definitions orelse) h))
    kind_makes l (while test (suite first last inline body) orelse) ok h =
        while_form sizes us u fs l test first last inline body orelse (stmts_make body ok.0 (answered_first us fs (definitions body) (opt_definitions orelse) h)) (opt_makes orelse ok.1 (answered_last us fs (definitions body) (opt_definitions orelse) h))
    kind_makes l (for target over (suite first last inline body) orelse) ok h =
        for_form sizes us u fs l target over first last inline body orelse (stmts_make body ok.0 (answered_first us fs (definitions body) (opt_definitions orelse) h)) (opt_makes orelse ok.1 (answered_last us fs (definitions body) (opt_definitions orelse) h))
    kind_makes l (try (suite first last inline body) clauses orelse no_suite) ok h =
        let cs = clauses_definitions clauses in
        let later = answered_last us fs (definitions body) (cs ++ (opt_definitions orelse ++ [])) h in
        let last_ones = answered_last us fs cs (opt_definitions orelse ++ []) later in
        try_form sizes us u fs body orelse clauses (stmts_make body ok.0 (answered_first us fs (definitions body) (cs ++ (opt_definitions orelse ++ [])) h)) (opt_makes orelse ok.2 (answered_first us fs (opt_definitions orelse) [] last_ones))
        (clauses_make clauses ok.1 (answered_first us fs cs (opt_definitions orelse ++ []) later)) l first last inline
    kind_makes l (try (suite first last inline body) clauses orelse (has_suite (suite y z i finally))) ok h =
        let cs = clauses_definitions clauses in
        let later = answered_last us fs (definitions body) (cs ++ (opt_definitions orelse ++ definitions finally)) h in
        let last_ones = answered_last us fs cs (opt_definitions orelse ++ definitions finally) later in
        try_finally_form sizes us u fs body orelse clauses (stmts_make body ok.0 (answered_first us fs (definitions body) (cs ++ (opt_definitions orelse ++ definitions finally)) h)) (opt_makes orelse ok.2 (answered_first us fs (opt_definitions orelse) (definitions finally) last_ones))
        (clauses_make clauses ok.1 (answered_first us fs cs (opt_definitions orelse ++ definitions finally) later)) l first last inline y z i finally (stmts_make finally ok.3 (answered_last us fs (opt_definitions orelse) (definitions finally) last_ones))
    kind_makes l (def x params defaults comma (suite first last inline body)) ok h = def_form us u fs l x params defaults comma (suite first last inline body) h.0
    kind_makes l (match subject header cases) ok h = match_form sizes us u fs l subject header cases (cases_make cases ok h)

    opt_makes : (o : OptSuite) → ProperOpt o → AllAnswered us fs (opt_definitions o) → OptMakes us u fs o
    opt_makes no_suite ok h = no_suite_makes
    opt_makes (has_suite (suite first last inline body)) ok h = stmts_make body ok h

    arms_make : (xs : Arms) → ProperArms xs → AllAnswered us fs (arms_definitions xs) → ArmsMake us u fs xs
    arms_make no_arms ok h = no_arms_form sizes us u fs
    arms_make (arm test (suite first last inline body) rest) ok h =
        arm_form sizes us u fs test first last inline body rest (stmts_make body ok.0 (answered_first us fs (definitions body) (arms_definitions rest) h)) (arms_make rest ok.1 (answered_last us fs (definitions body) (arms_definitions rest) h))

    clauses_make : (xs : Clauses) → ProperClauses xs → AllAnswered us fs (clauses_definitions xs) → ClausesMake us u fs xs
    clauses_make no_clauses ok h = no_clauses_form sizes us u fs
    clauses_make (clause kind None (suite first last inline body) rest) ok h =
        clause_form sizes us u fs kind first last inline body rest (stmts_make body ok.0 (answered_first us fs (definitions body) (clauses_definitions rest) h)) (clauses_make rest ok.1 (answered_last us fs (definitions body) (clauses_definitions rest) h))
    clauses_make (clause kind (Some x) (suite first last inline body) rest) ok h =
        named_clause_form sizes us u fs kind x first last inline body rest (stmts_make body ok.0 (answered_first us fs (definitions body) (clauses_definitions rest) h)) (clauses_make rest ok.1 (answered_last us fs (definitions body) (clauses_definitions rest) h))

    cases_make : (xs : Cases) → ProperCases xs → AllAnswered us fs (cases_definitions xs) → CasesMake us u fs xs
    cases_make no_cases ok h = no_cases_form sizes us u fs
    cases_make (case t guard (suite first last inline body) rest) ok h =
        case_form sizes us u fs t guard first last inline body rest ok.0 (stmts_make body ok.1 (answered_first us fs (definitions body) (cases_definitions rest) h)) (cases_make rest ok.2 (answered_last us fs (definitions body) (cases_definitions rest) h))
