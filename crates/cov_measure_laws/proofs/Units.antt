-- Where the marks of a module are lines of some kind, so are the lines of its functions.
use Rattle.std.proofs.Common.{◌≡◌, ℕ, Bool, true, false, if◌then◌else◌, List, [], ◌∷◌, ◌++◌, map, All, refl, sym, ap, ◌∙◌, string_bytes, encode_utf8_all, arith}
use Rattle.std.specs.Str.{chars}
use Rattle.std.specs.List.{AllByRecursion}
use Rattle.std.proofs.lemmas.Str.{encodes-chars, IsUtf8-string_bytes}
use Rattle.std.proofs.lemmas.List.Elements.{All-nil, All-cons, All-head, All-tail, All-from_recursion, recursion_from_All}
use Rattle.py_syntax.specs.Functions.{Function, functions, functions_in, opt_functions, arms_functions, clauses_functions, cases_functions, is_docstring}
use Rattle.py_syntax.specs.Marks.{statement_lines, stmts_marks, kind_marks, opt_marks, arms_marks, clauses_marks, cases_marks, body_marks}
use Rattle.py_syntax.specs.Tree.{Stmts, no_stmts, stmt, suite, OptSuite, no_suite, has_suite, Arms, no_arms, arm, Clauses, no_clauses, clause, Cases, no_cases, case, StmtKind, expr, if', while, for, try, def, match}
use Rattle.py_code.specs.declared.code.Program.{Program}
use Rattle.py_code.specs.Loaded.{module_of}
use Rattle.py_code.specs.Units.{Code}
use Rattle.py_compile.specs.Definitions.{Definition, function_of, definitions}
use Rattle.py_compile.specs.Laws.{UnitsAreFaithful}
use Rattle.py_compile.specs.ProgramRuns.{HasFunctions, HasUnits, AreFaithful}
use Rattle.py_meaning.specs.Modules.{LoadedModule}
use Rattle.cov_arcs.specs.Laws.{unit_lines, firsts_of}
use Rattle.cov_arcs.proofs.Everywhere.{AreOn, left, right}
use Rattle.cov_recorder.specs.Plan.{Named, IsFirst}
use Rattle.cov_recorder_laws.specs.Laws.{HasTextLines}
use Rattle.cov_recorder_laws.proofs.Bodies.{from_in_order}
use Rattle.cov_measure_laws.specs.Units.{tree_function, tree_names, tree_units, unit_name, program_units, HaveSamePaths, UnitsLaw}

module _ (P : ℕ → Type 0) where
  abbrev pub Each : List Function → Type 0
  Each fs = AllByRecursion (λ (f : Function). P f.line) fs

  each-append : (fs gs : List Function) → Each fs → Each gs → Each (fs ++ gs)
  each-append [] gs h k = k
  each-append (f ∷ fs) gs h k = (h.0, each-append fs gs h.1 k)

  mutual
    unfolding functions functions_in opt_functions arms_functions clauses_functions cases_functions

    functions-on : (b : Stmts) → AreOn P (stmts_marks b) → Each (functions b)
    functions-on no_stmts on = tt
    functions-on (stmt f l k e rest) on =
        each-append (functions_in f k) (functions rest) (kind-on f k (left P (kind_marks f k) (stmts_marks rest) on)) (functions-on rest (right P (kind_marks f k) (stmts_marks rest) on))

    opt-on : (o : OptSuite) → AreOn P (opt_marks o) → Each (opt_functions o)
    opt-on no_suite on = tt
    opt-on (has_suite (suite f l i b)) on = functions-on b on

    arms-on : (xs : Arms) → AreOn P (arms_marks xs) → Each (arms_functions xs)
    arms-on no_arms on = tt
    arms-on (arm t (suite f l i b) rest) on =
        each-append (functions b) (arms_functions rest) (functions-on b (left P (stmts_marks b) (arms_marks rest) on.1)) (arms-on rest (right P (stmts_marks b) (arms_marks rest) on.1))

    clauses-on : (cs : Clauses) → AreOn P (clauses_marks cs) → Each (clauses_functions cs)
    clauses-on no_clauses on = tt
    clauses-on (clause k x (suite f l i b) rest) on =
        each-append (functions b) (clauses_functions rest) (functions-on b (left P (stmts_marks b) (clauses_marks rest) on.1)) (clauses-on rest (right P (stmts_marks b) (clauses_marks rest) on.1))

    cases-on : (cs : Cases) → AreOn P (cases_marks cs) → Each (cases_functions cs)
    cases-on no_cases on = tt
    cases-on (case q g (suite f l i b) rest) on =
        each-append (functions b) (cases_functions rest) (functions-on b (left P (stmts_marks b) (cases_marks rest) on.1)) (cases-on rest (right P (stmts_marks b) (cases_marks rest) on.1))

    kind-on : (l : ℕ) (k : StmtKind) → AreOn P (kind_marks l k) → Each (functions_in l k)
    kind-on l (if' xs o) on = each-append (arms_functions xs) (opt_functions o) (arms-on xs (left P (arms_marks xs) (opt_marks o) on)) (opt-on o (right P (arms_marks xs) (opt_marks o) on))
    kind-on l (while t (suite f g i b) o) on =
        each-append (functions b) (opt_functions o) (functions-on b (left P (stmts_marks b) (opt_marks o) on.1)) (opt-on o (right P (stmts_marks b) (opt_marks o) on.1))
    kind-on l (for t e (suite f g i b) o) on =
        each-append (functions b) (opt_functions o) (functions-on b (left P (stmts_marks b) (opt_marks o) on.1)) (opt-on o (right P (stmts_marks b) (opt_marks o) on.1))
    kind-on l (try (suite f g i b) cs o fin) on =
        let later = right P (stmts_marks b) (clauses_marks cs ++ (opt_marks o ++ opt_marks fin)) on.1 in
        let last = right P (clauses_marks cs) (opt_marks o ++ opt_marks fin) later in
        each-append (functions b) (clauses_functions cs ++ (opt_functions o ++ opt_functions fin))
        (functions-on b (left P (stmts_marks b) (clauses_marks cs ++ (opt_marks o ++ opt_marks fin)) on.1))
        (each-append (clauses_functions cs) (opt_functions o ++ opt_functions fin) (clauses-on cs (left P (clauses_marks cs) (opt_marks o ++ opt_marks fin) later))
        (each-append (opt_functions o) (opt_functions fin) (opt-on o (left P (opt_marks o) (opt_marks fin) last)) (opt-on fin (right P (opt_marks o) (opt_marks fin) last))))
    kind-on l (def x ps ds comma (suite f g i b)) on = (on.0, tt)
    kind-on l (match e header cs) on = cases-on cs on.1
    kind-on l _ on = tt

  -- no function stands in a docstring
  docstring-on : (l : ℕ) (k : StmtKind) → is_docstring k ≡ true → Each (functions_in l k)
  unfolding functions_in
  docstring-on l (expr e) h = tt
  docstring-on l _ h = cc

  pub module-on : (b : Stmts) → AreOn P (body_marks b) → Each (functions b)
  unfolding functions
  module-on no_stmts on = tt
  module-on (stmt f l k e rest) on = go (is_docstring k) refl on
    where
      go : (b : Bool) → is_docstring k ≡ b → AreOn P (if b then stmts_marks rest else kind_marks f k ++ stmts_marks rest) → Each (functions_in f k ++ functions rest)
      go true is q = each-append (functions_in f k) (functions rest) (docstring-on f k is) (functions-on rest q)
      go false is q = functions-on (stmt f l k e rest) q

-- ---- the units of modules begin in lines of texts

begin-functions : (m : LoadedModule) (fs : List Function) → AllByRecursion (λ (f : Function). IsFirst f.line) fs → AllByRecursion (λ (n : Named). IsFirst n.first) (map (tree_function m) fs)
begin-functions m [] h = tt
begin-functions m (f ∷ fs) h = (h.0, begin-functions m fs h.1)

begin-one : (m : LoadedModule) → HasTextLines m → All (λ (n : Named). IsFirst n.first) (tree_names m)
begin-one m h =
    let marks = from_in_order IsFirst (body_marks m.body) (recursion_from_All IsFirst (statement_lines m.body) h) in
    let one : IsFirst 1 = (omega arith, omega arith) in
    All-from_recursion _ (tree_names m) (one, begin-functions m (functions m.body) (module-on IsFirst m.body marks))

begin-all : (ms : List LoadedModule) → All HasTextLines ms → All (λ names. All (λ (n : Named). IsFirst n.first) names) (tree_units ms)
begin-all [] h = All-nil (All (λ (n : Named). IsFirst n.first))
begin-all (m ∷ ms) h = All-cons (All (λ (n : Named). IsFirst n.first)) (tree_names m) (tree_units ms) (begin-one m (All-head HasTextLines m ms h)) (begin-all ms (All-tail HasTextLines m ms h))

-- ---- first lines of the units of modules

function-lines : (m : LoadedModule) (fs : List Function) → map (λ (n : Named). n.first) (map (tree_function m) fs) ≡ map (λ (f : Function). f.line) fs
function-lines m [] = refl
function-lines m (f ∷ fs) = ap (λ ns. f.line ∷ ns) (function-lines m fs)

tree-lines : (ms : List LoadedModule) → map (λ units. map (λ (n : Named). n.first) units) (tree_units ms) ≡ firsts_of ms
tree-lines [] = refl
tree-lines (m ∷ ms) = ap (λ ns. (1 ∷ ns) ∷ map (λ units. map (λ (n : Named). n.first) units) (tree_units ms)) (function-lines m (functions m.body)) ∙ ap (λ rest. unit_lines m ∷ rest) (tree-lines ms)

-- ---- units of programs

same-name : (p q : Named) → p.path ≡ q.path → p.module ≡ q.module → p.function ≡ q.function → p.first ≡ q.first → p ≡ q
same-name p q a b c d i = record { path = a i; «module» = b i; function = c i; first = d i }

module _ (law : UnitsAreFaithful) where
  module _ (p : Program) (m : LoadedModule) (path : string_bytes p.path ≡ encode_utf8_all m.path) (name : string_bytes p.name ≡ encode_utf8_all m.name) where
    function-names : (all : List Function) (ds : List Definition) (us : List Code) → HasFunctions all ds us → map (unit_name p) us ≡ map (tree_function m) (map function_of ds)
    function-names all [] [] h = refl
    function-names all [] (u ∷ us) h = absurd h
    function-names all (d ∷ ds) [] h = absurd h
    function-names all (d ∷ ds) (u ∷ us) h =
        ap (λ n. n ∷ map (unit_name p) us) (same-name (unit_name p u) (tree_function m (function_of d)) path name (ap encode_utf8_all h.0.name) h.0.first)
        ∙ ap (λ ns. tree_function m (function_of d) ∷ ns) (function-names all ds us h.1)

    unit-names : (us : List Code) → HasUnits m.body us → map (unit_name p) us ≡ tree_names m
    unit-names [] h = absurd h
    unit-names (u ∷ us) h =
        ap (λ n. n ∷ map (unit_name p) us) (same-name (unit_name p u) (record { path = encode_utf8_all m.path; «module» = encode_utf8_all m.name; function = []; first = 1 }) path name (ap encode_utf8_all h.0.name) h.0.first)
        ∙ ap (λ ns. record { path = encode_utf8_all m.path; «module» = encode_utf8_all m.name; function = []; first = 1 } ∷ ns)
        (function-names (functions m.body) (definitions m.body) us h.1 ∙ ap (map (tree_function m)) (law.functions m.body))

  module-name : (p : Program) (m : LoadedModule) → chars (string_bytes p.name) ≡ m.name → string_bytes p.name ≡ encode_utf8_all m.name
  module-name p m e = sym (encodes-chars (string_bytes p.name) (IsUtf8-string_bytes p.name)) ∙ ap encode_utf8_all e

  same-units : (ps : List Program) (ms : List LoadedModule) → AreFaithful (map module_of ps) ms → HaveSamePaths ps ms → program_units ps ≡ tree_units ms
  same-units [] [] h paths = refl
  same-units [] (m ∷ ms) h paths = absurd h
  same-units (p ∷ ps) [] h paths = absurd h
  same-units (p ∷ ps) (m ∷ ms) h paths =
      ap (λ names. names ∷ program_units ps) (unit-names p m (first-same paths) (module-name p m h.0) p.code h.1)
      ∙ ap (λ rest. tree_names m ∷ rest) (same-units ps ms h.2 (rest-same paths))
    where
      first-same : {X : Type 0} {x y : X} {xs ys : List X} → x ∷ xs ≡ y ∷ ys → x ≡ y
      first-same e = cc

      rest-same : {X : Type 0} {x y : X} {xs ys : List X} → x ∷ xs ≡ y ∷ ys → xs ≡ ys
      rest-same e = cc

  code-functions : (p : Program) (all : List Function) (ds : List Definition) (us : List Code) → HasFunctions all ds us → map (λ (n : Named). n.first) (map (unit_name p) us) ≡ map (λ (f : Function). f.line) (map function_of ds)
  code-functions p all [] [] h = refl
  code-functions p all [] (u ∷ us) h = absurd h
  code-functions p all (d ∷ ds) [] h = absurd h
  code-functions p all (d ∷ ds) (u ∷ us) h = ap (λ n. n ∷ map (λ (n : Named). n.first) (map (unit_name p) us)) h.0.first ∙ ap (λ ns. d.function.line ∷ ns) (code-functions p all ds us h.1)

  code-units : (p : Program) (b : Stmts) (us : List Code) → HasUnits b us → map (λ (n : Named). n.first) (map (unit_name p) us) ≡ 1 ∷ map (λ (f : Function). f.line) (functions b)
  code-units p b [] h = absurd h
  code-units p b (u ∷ us) h =
      ap (λ n. n ∷ map (λ (n : Named). n.first) (map (unit_name p) us)) h.0.first ∙ ap (λ ns. 1 ∷ ns) (code-functions p (functions b) (definitions b) us h.1 ∙ ap (map (λ (f : Function). f.line)) (law.functions b))

  code-lines : (ps : List Program) (ms : List LoadedModule) → AreFaithful (map module_of ps) ms → map (λ units. map (λ (n : Named). n.first) units) (program_units ps) ≡ firsts_of ms
  code-lines [] [] h = refl
  code-lines [] (m ∷ ms) h = absurd h
  code-lines (p ∷ ps) [] h = absurd h
  code-lines (p ∷ ps) (m ∷ ms) h =
      ap (λ ns. ns ∷ map (λ units. map (λ (n : Named). n.first) units) (program_units ps)) (code-units p m.body p.code h.1) ∙ ap (λ rest. unit_lines m ∷ rest) (code-lines ps ms h.2)

  pub units_law : UnitsLaw
  units_law = record {
    same = λ ps ms faithful paths. same-units ps.modules.items ms faithful paths;
    firsts = λ ps ms faithful. code-lines ps.modules.items ms faithful;
    tree_firsts = tree-lines;
    begin = λ ms lines. record { firsts = begin-all ms lines };
  }
