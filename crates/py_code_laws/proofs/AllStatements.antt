-- The places of the code of all statements have one number of operands each.
use Rattle.std.proofs.Common.{ℕ, suc, ◌+◌, ◌<◌, ◌≤◌, List, [], ◌∷◌, ◌++◌, length, Some, None, refl, arith}
use Rattle.std.proofs.lemmas.List.{length-append}
use Rattle.std.specs.Prelude.{nat_eq, if◌then◌else◌, Bool, true, false}
use Rattle.py_syntax.specs.Functions.{Function}
use Rattle.py_syntax.specs.Tree.{Stmts, no_stmts, stmt, suite, OptSuite, no_suite, has_suite, Arms, no_arms, arm, Clauses, no_clauses, clause, Cases, no_cases, case, StmtKind, expr, assign, aug_assign, pass, break, continue, return, raise, assert, global, import, from, if', while, for, try, def, match}
use Rattle.py_meaning.specs.Modules.{unit_at}
use Rattle.py_compile.specs.Definitions.{Definition, definitions, definitions_in, opt_definitions, arms_definitions, clauses_definitions, cases_definitions}
use Rattle.py_compile.specs.Proper.{AreProper, IsProper, ProperOpt, ProperArms, ProperClauses, ProperCases}
use Rattle.py_compile.specs.Statements.{kind_size}
use Rattle.py_compile.specs.Ways.{in_hand}
use Rattle.py_code_laws.proofs.Pieces.{finish, only, placed}
use Rattle.py_code_laws.proofs.Suites.{suite_at}
use Rattle.py_code_laws.proofs.Forms.{StmtsFit, KindFits, OptFits, ArmsFit, ClausesFit, CasesFit}
use Rattle.py_code_laws.proofs.SimpleFits.{expr_form, assign_form, aug_assign_form, pass_form, break_form, continue_form, return_form, raise_form, assert_form, global_form, import_form, from_form, def_form}
use Rattle.py_code_laws.proofs.BranchFits.{no_arms_form, arm_form, if_form, while_form, for_form}
use Rattle.py_code_laws.proofs.TryFits.{no_clauses_form, clause_form, named_clause_form, try_form, try_finally_form}
use Rattle.py_code_laws.proofs.MatchFits.{no_cases_form, case_form, match_form}

-- ---- the numbers of functions

number_least : (l : ℕ) (fs : List Function) → 0 < length fs → 0 < unit_at l fs
unfolding unit_at
number_least l [] some = absurd (omega (arith, some))
number_least l (f ∷ fs) some = by_case (nat_eq f.line l)
  where
    by_case : (b : Bool) → 0 < (if b then 1 else suc (unit_at l fs))
    by_case true = omega arith
    by_case false = omega arith

number_most : (l : ℕ) (fs : List Function) → unit_at l fs ≤ length fs
unfolding unit_at
number_most l [] = omega arith
number_most l (f ∷ fs) = by_case (nat_eq f.line l) (number_most l fs)
  where
    by_case : (b : Bool) → unit_at l fs ≤ length fs → (if b then 1 else suc (unit_at l fs)) ≤ suc (length fs)
    by_case true h = omega arith
    by_case false h = omega arith

-- ---- where a `def` stands in statements, the module has functions

abbrev pub Room : List Definition → List Function → Type 0
Room ds fs = 0 < length ds → 0 < length fs

room_first : (ds es : List Definition) (fs : List Function) → Room (ds ++ es) fs → Room ds fs
room_first ds es fs room some = let m = length-append ds es in room (omega (arith, some, m))

pub room_last : (ds es : List Definition) (fs : List Function) → Room (ds ++ es) fs → Room es fs
room_last ds es fs room some = let m = length-append ds es in room (omega (arith, some, m))

-- ---- statements

no_stmts_fit : {units : ℕ} (fs : List Function) → StmtsFit units fs no_stmts
no_stmts_fit fs w p q held at = finish (omega arith) refl

no_suite_fits : {units : ℕ} (fs : List Function) → OptFits units fs no_suite
no_suite_fits fs w p q held at = finish (omega arith) refl

stmt_fits : {units : ℕ} (fs : List Function) (first last : ℕ) (kind : StmtKind) (end : _) (rest : Stmts) → KindFits units fs first kind → StmtsFit units fs rest → StmtsFit units fs (stmt first last kind end rest)
stmt_fits fs first last kind end rest a b w p q held at =
    let r = p + kind_size (in_hand w) kind in
    only (placed refl (a w p r held refl) (b w r q held (omega arith)) (λ l there h. suite_at w q q r l (omega arith) (omega arith) there.0 h.handles h.also))

module _ {units : ℕ} (fs : List Function) (small : length fs < units) where
  mutual
    pub stmts_fit : (ss : Stmts) → AreProper ss → Room (definitions ss) fs → StmtsFit units fs ss
    stmts_fit no_stmts ok room = no_stmts_fit fs
    stmts_fit (stmt first last kind end rest) ok room =
        stmt_fits fs first last kind end rest (kind_fits first kind ok.0 (room_first (definitions_in first kind) (definitions rest) fs room)) (stmts_fit rest ok.1 (room_last (definitions_in first kind) (definitions rest) fs room))

    kind_fits : (l : ℕ) (kind : StmtKind) → IsProper kind → Room (definitions_in l kind) fs → KindFits units fs l kind
    kind_fits l (expr e) ok room = expr_form fs l e
    kind_fits l (assign targets e) ok room = assign_form fs l targets e
    kind_fits l (aug_assign place op e) ok room = aug_assign_form fs l place op e
    kind_fits l pass ok room = pass_form fs l
    kind_fits l break ok room = break_form fs l
    kind_fits l continue ok room = continue_form fs l
    kind_fits l (return e) ok room = return_form fs l e
    kind_fits l (raise e) ok room = raise_form fs l e
    kind_fits l (assert test why) ok room = assert_form fs l test why
    kind_fits l (global xs) ok room = global_form fs l xs
    kind_fits l (import names) ok room = import_form fs l names
    kind_fits l (from m names) ok room = from_form fs l m names
    kind_fits l (if' arms orelse) ok room =
        if_form fs l arms orelse (arms_fit arms ok.0 (room_first (arms_definitions arms) (opt_definitions orelse) fs room)) (opt_fits orelse ok.1 (room_last (arms_definitions arms) (opt_definitions orelse) fs room))
    kind_fits l (while test (suite first last inline body) orelse) ok room =
        while_form fs l test first last inline body orelse (stmts_fit body ok.0 (room_first (definitions body) (opt_definitions orelse) fs room)) (opt_fits orelse ok.1 (room_last (definitions body) (opt_definitions orelse) fs room))
    kind_fits l (for target over (suite first last inline body) orelse) ok room =
        for_form fs l target over first last inline body orelse (stmts_fit body ok.0 (room_first (definitions body) (opt_definitions orelse) fs room)) (opt_fits orelse ok.1 (room_last (definitions body) (opt_definitions orelse) fs room))
    kind_fits l (try (suite first last inline body) clauses orelse no_suite) ok room =
        let cs = clauses_definitions clauses in
        let later = room_last (definitions body) (cs ++ (opt_definitions orelse ++ [])) fs room in
        let last_ones = room_last cs (opt_definitions orelse ++ []) fs later in
        try_form fs l first last inline body clauses orelse (stmts_fit body ok.0 (room_first (definitions body) (cs ++ (opt_definitions orelse ++ [])) fs room))
        (clauses_fit clauses ok.1 (room_first cs (opt_definitions orelse ++ []) fs later)) (opt_fits orelse ok.2 (room_first (opt_definitions orelse) [] fs last_ones))
    kind_fits l (try (suite first last inline body) clauses orelse (has_suite (suite y z i finally))) ok room =
        let cs = clauses_definitions clauses in
        let later = room_last (definitions body) (cs ++ (opt_definitions orelse ++ definitions finally)) fs room in
        let last_ones = room_last cs (opt_definitions orelse ++ definitions finally) fs later in
        try_finally_form fs l first last inline body clauses orelse y z i finally (stmts_fit body ok.0 (room_first (definitions body) (cs ++ (opt_definitions orelse ++ definitions finally)) fs room))
        (clauses_fit clauses ok.1 (room_first cs (opt_definitions orelse ++ definitions finally) fs later)) (opt_fits orelse ok.2 (room_first (opt_definitions orelse) (definitions finally) fs last_ones))
        (stmts_fit finally ok.3 (room_last (opt_definitions orelse) (definitions finally) fs last_ones))
    kind_fits l (def x params defaults comma (suite first last inline body)) ok room =
        let some = room (omega arith) in
        let most = number_most l fs in
        def_form fs l x params defaults comma (suite first last inline body) (number_least l fs some) (omega (arith, most, small))
    kind_fits l (match subject header cases) ok room = match_form fs l subject header cases (cases_fit cases ok room)

    opt_fits : (o : OptSuite) → ProperOpt o → Room (opt_definitions o) fs → OptFits units fs o
    opt_fits no_suite ok room = no_suite_fits fs
    opt_fits (has_suite (suite first last inline body)) ok room = stmts_fit body ok room

    arms_fit : (xs : Arms) → ProperArms xs → Room (arms_definitions xs) fs → ArmsFit units fs xs
    arms_fit no_arms ok room = no_arms_form fs
    arms_fit (arm test (suite first last inline body) rest) ok room =
        arm_form fs test first last inline body rest (stmts_fit body ok.0 (room_first (definitions body) (arms_definitions rest) fs room)) (arms_fit rest ok.1 (room_last (definitions body) (arms_definitions rest) fs room))

    clauses_fit : (xs : Clauses) → ProperClauses xs → Room (clauses_definitions xs) fs → ClausesFit units fs xs
    clauses_fit no_clauses ok room = no_clauses_form fs
    clauses_fit (clause kind None (suite first last inline body) rest) ok room =
        clause_form fs kind first last inline body rest (stmts_fit body ok.0 (room_first (definitions body) (clauses_definitions rest) fs room)) (clauses_fit rest ok.1 (room_last (definitions body) (clauses_definitions rest) fs room))
    clauses_fit (clause kind (Some x) (suite first last inline body) rest) ok room =
        named_clause_form fs kind x first last inline body rest (stmts_fit body ok.0 (room_first (definitions body) (clauses_definitions rest) fs room)) (clauses_fit rest ok.1 (room_last (definitions body) (clauses_definitions rest) fs room))

    cases_fit : (xs : Cases) → ProperCases xs → Room (cases_definitions xs) fs → CasesFit units fs xs
    cases_fit no_cases ok room = no_cases_form fs
    cases_fit (case t guard (suite first last inline body) rest) ok room =
        case_form fs t guard first last inline body rest ok.0 (stmts_fit body ok.1 (room_first (definitions body) (cases_definitions rest) fs room)) (cases_fit rest ok.2 (room_last (definitions body) (cases_definitions rest) fs room))
