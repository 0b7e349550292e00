-- Each mutant has the verdict that the trees mean.
use Rattle.std.proofs.Common.{◌≡◌, inl, inr, ℕ, zero, suc, ◌<◌, Bool, true, false, List, [], ◌∷◌, ◌++◌, length, map, drop, All, Contains, Some, slice_get, encode_utf8_all, refl, ap, sym, subst, ◌∙◌, arith}
use Rattle.std.proofs.lemmas.Bool.{false≢true}
use Rattle.std.proofs.lemmas.List.Elements.{All-nil, All-cons, All-append, All-contains}
use Rattle.cov_data.specs.Rows.{lines_of}
use Rattle.py_code.specs.declared.code.Programs.{Programs}
use Rattle.py_code.specs.Loaded.{modules_of}
use Rattle.cov_mutate.specs.Code.{code_of, sources, with_units, Tried, has_line, verdict_by, judge, judged_from, judged_all, passed_names}
use Rattle.cov_mutate.specs.Meant.{AreMutable, HasRun}
use Rattle.cov_mutate.proofs.Meaning.{own-faithful, mutant-faithful, mutant-well, well-at, some-units, code-length, line-there, has-there, noticed, unnoticed}
use Rattle.cov_mutate.proofs.Positive.{positive-line}
use Rattle.cov_mutate.proofs.Quiet.{quiet-ends, quiet-import, quiet-tests, cut-at-once}
use Rattle.cov_mutate.proofs.Sources.{of_module, sources-are}
use Rattle.cov_suite.specs.Passing.{all_pass, all_pass_in_code}
use Rattle.cov_suite.specs.Results.{import_of}
use Rattle.cov_suite.specs.Views.{SuiteView}
use Rattle.cov_suite.proofs.DataLines.{empty, no-line-zero}
use Rattle.cov_suite.proofs.Meaning.{same-length}
use Rattle.cov_suite.proofs.Passes.{same-pass}
use Rattle.cov_verdicts.specs.Chosen.{test_of}
use Rattle.cov_verdicts.specs.Regular.{AreRegular}
use Rattle.cov_verdicts.specs.Verdicts.{mutants_from, IsReached, IsNoticed, HasVerdict, JudgedView, IsJudged, InPairs, AreJudged}
use Rattle.py_builtins.specs.Outcomes.{finished}
use Rattle.py_changes.specs.Changed.{is_empty}
use Rattle.py_changes.specs.Mutants.{Marked, module_mutants}
use Rattle.py_changes.specs.Paths.{path_of, module_path}
use Rattle.py_compile.specs.Laws.{UnitsAreFaithful}
use Rattle.py_compile.specs.Units.{units_code}
use Rattle.py_meaning.specs.Modules.{LoadedModule, module_body, body_of}
use Rattle.py_mutants_laws.specs.Unreached.{with_body, IsUnnoticedByPath}
use Rattle.py_mutants_laws.proofs.ByPath.{unreached_mutants_by_path}
use Rattle.py_mutants_laws.proofs.Findings.{mutants_are_well_formed}
use Rattle.py_scope.specs.Faults.{IsWellFormed, faults_of, functions_of}
use Rattle.py_syntax.specs.Marks.{body_marks}
use Rattle.py_syntax.specs.Tree.{Stmts}
use Rattle.py_syntax.specs.declared.stmt.Module.{Module}
use Rattle.py_compile_laws.specs.Traces.{AreWellFormed, TracesKept}

-- ---- a mutant

same-script : (ms : List LoadedModule) (m : ℕ) (b : Stmts) → body_of (with_body ms (suc m) b) 0 ≡ body_of ms 0
same-script [] m b = refl
same-script (x ∷ ms) m b = refl

-- a script that marks nothing reaches nothing
nothing-reached : (ms : List LoadedModule) (budget : ℕ) → (import_of ms budget).outcome ≡ finished → is_empty (body_marks (body_of ms 0)) ≡ true → (m l : ℕ) → IsReached budget ms m l → ⊥
nothing-reached ms zero imports quiet m l h = cut-at-once ms imports
nothing-reached ms (suc n) imports quiet m l (inl h) = quiet-import ms quiet n (path_of ms m) l h
nothing-reached ms (suc n) imports quiet m l (inr h) = empty (subst (λ ns. Contains ns h.0) (quiet-tests ms quiet) h.1)

-- and no change of another module is noticed
nothing-noticed : (ms : List LoadedModule) (budget : ℕ) → (import_of ms budget).outcome ≡ finished → is_empty (body_marks (body_of ms 0)) ≡ true → (m : ℕ) (b : Stmts) → IsNoticed budget ms (with_body ms (suc m) b) → ⊥
nothing-noticed ms zero imports quiet m b h = cut-at-once ms imports
nothing-noticed ms (suc n) imports quiet m b (inl ne) = ne (quiet-ends (with_body ms (suc m) b) (ap (λ a. is_empty (body_marks a)) (same-script ms m b) ∙ quiet) n)
nothing-noticed ms (suc n) imports quiet m b (inr h) = empty (subst (λ ns. Contains ns h.0) (quiet-tests ms quiet) h.1)

module _ (budget : ℕ) (ms : List LoadedModule) (well : AreWellFormed ms) (regular : AreRegular ms) (imports : (import_of ms budget).outcome ≡ finished) (m : ℕ) (lt : m < length ms) (x : Marked × Stmts) (at : Contains (module_mutants (body_of ms m)) x) where
  positive-where : (b : Bool) → is_empty (body_marks (body_of ms 0)) ≡ b → IsReached budget ms m x.0.0 → 0 < x.0.0
  positive-where true quiet h = absurd (nothing-reached ms budget imports quiet m x.0.0 h)
  positive-where false marks h = let r = regular marks in positive-line (body_of ms m) (r.0.tests m) (well-at ms m lt well) (r.1 m) x at

  -- a line that is reached is one from 1 on
  positive : IsReached budget ms m x.0.0 → 0 < x.0.0
  positive = positive-where (is_empty (body_marks (body_of ms 0))) refl

  mutant-formed : IsWellFormed x.1
  mutant-formed = (All-contains (λ y. (faults_of y.1 ≡ faults_of (body_of ms m)) × (functions_of y.1 ≡ functions_of (body_of ms m))) (module_mutants (body_of ms m)) x (mutants_are_well_formed (body_of ms m)) at).0 ∙ well-at ms m lt well

module _ (budget : ℕ) (ms : List LoadedModule) (regular : AreRegular ms) (imports : (import_of ms budget).outcome ≡ finished) (k : ℕ) (x : Marked × Stmts) (at : Contains (module_mutants (body_of ms (suc k))) x) (none : IsReached budget ms (suc k) x.0.0 → ⊥) where
  unseen-where : (b : Bool) → is_empty (body_marks (body_of ms 0)) ≡ b → IsNoticed budget ms (with_body ms (suc k) x.1) → ⊥
  unseen-where true quiet h = nothing-noticed ms budget imports quiet k x.1 h
  unseen-where false marks (inl ne) =
      let r = regular marks in
      let t = test_of budget [] in
      let u = All-contains (λ y. IsUnnoticedByPath ms t (suc k) y.0.0 y.1) (module_mutants (body_of ms (suc k))) x (unreached_mutants_by_path ms t (suc k) r.0 r.1 imports) at in
      ne (u (λ h. none (inl h))).0
  unseen-where false marks (inr (name, there, was, is)) =
      let r = regular marks in
      let t = test_of budget name in
      let u = All-contains (λ y. IsUnnoticedByPath ms t (suc k) y.0.0 y.1) (module_mutants (body_of ms (suc k))) x (unreached_mutants_by_path ms t (suc k) r.0 r.1 imports) at in
      false≢true (sym is ∙ (u (λ h. none (inl h))).1 (λ h. none (inr (name, there, h))) was)

  -- a mutant whose line isn't reached isn't noticed
  unseen : IsNoticed budget ms (with_body ms (suc k) x.1) → ⊥
  unseen = unseen-where (is_empty (body_marks (body_of ms 0))) refl

-- ---- all mutants

module _ (law : UnitsAreFaithful) (traces : TracesKept) (budget : ℕ) (ms : List LoadedModule) (well : AreWellFormed ms) (regular : AreRegular ms) (some : 0 < length ms) (s : SuiteView) (run : HasRun budget ms s) where
  abbrev tried : Tried
  tried = record { code = map code_of (map of_module ms); names = passed_names s.tests; budget = budget }

  has-code : 0 < length tried.code
  has-code = subst (λ n. 0 < n) (sym (code-length ms)) some

  module _ (m : ℕ) (lt : m < length ms) (x : Marked × Stmts) (at : Contains (module_mutants (body_of ms m)) x) where
    abbrev lines : List ℕ
    lines = lines_of s.rows (encode_utf8_all (path_of ms m))

    abbrev changed : List LoadedModule
    changed = with_body ms m x.1

    passed : all_pass_in_code (with_units tried.code m (units_code x.1)) budget tried.names ≡ all_pass changed budget tried.names
    passed =
        same-pass traces law (with_units tried.code m (units_code x.1)) changed (mutant-faithful law tried.code ms m x.1 (own-faithful law ms))
        (mutant-well ms m x.1 well (mutant-formed budget ms well regular run.imports m lt x at)) (some-units tried.code m (units_code x.1) has-code) budget tried.names

    there : (l : ℕ) → l ≡ x.0.0 → Contains lines l → IsReached budget ms m l
    there zero e at = absurd (no-line-zero s.rows (encode_utf8_all (path_of ms m)) at)
    there (suc l) e at = (run.lines m (suc l) (omega arith)).0 at

    verdict : (b1 b2 : Bool) → has_line lines x.0.0 ≡ b1 → all_pass changed budget tried.names ≡ b2 → HasVerdict (IsReached budget ms m x.0.0) (IsNoticed budget ms changed) (verdict_by b1 b2)
    verdict false b2 e1 e2 = λ r. false≢true (sym e1 ∙ has-there lines x.0.0 ((run.lines m x.0.0 (positive budget ms well regular run.imports m lt x at r)).1 r))
    verdict true true e1 e2 = (there x.0.0 refl (line-there lines x.0.0 e1), unnoticed budget ms changed tried.names (ap passed_names run.tests) e2)
    verdict true false e1 e2 = (there x.0.0 refl (line-there lines x.0.0 e1), noticed budget ms changed tried.names (ap passed_names run.tests) e2)

    judged-one : IsJudged budget ms (m, x) (judge tried lines m x)
    judged-one = record {
      in_module = refl;
      at_line = refl;
      old_token = refl;
      new_token = refl;
      verdict =
          subst (λ b. HasVerdict (IsReached budget ms m x.0.0) (IsNoticed budget ms changed) (verdict_by (has_line lines x.0.0) b)) (sym passed)
          (verdict (has_line lines x.0.0) (all_pass changed budget tried.names) refl refl);
    }

  -- of a mutant that isn't reached nothing is noticed
  abbrev Unseen : ℕ × (Marked × Stmts) → Type 0
  Unseen mutant = (IsReached budget ms mutant.0 mutant.1.0.0 → ⊥) → IsNoticed budget ms (with_body ms mutant.0 mutant.1.1) → ⊥

  of-one : (m : ℕ) (f : Marked × Stmts → JudgedView) (xs : List (Marked × Stmts)) → ((x : Marked × Stmts) → Contains xs x → IsJudged budget ms (m, x) (f x)) → InPairs (IsJudged budget ms) (map (λ x. (m, x)) xs) (map f xs)
  of-one m f [] h = tt
  of-one m f (x ∷ xs) h = (h x (0, omega arith, refl), of-one m f xs (λ y at. h y (suc at.0, omega (arith, at.1), at.2)))

  unseen-one : (m : ℕ) (xs : List (Marked × Stmts)) → ((x : Marked × Stmts) → Contains xs x → Unseen (m, x)) → All Unseen (map (λ x. (m, x)) xs)
  unseen-one m [] h = All-nil Unseen
  unseen-one m (x ∷ xs) h = All-cons Unseen (m, x) (map (λ y. (m, y)) xs) (h x (0, omega arith, refl)) (unseen-one m xs (λ y at. h y (suc at.0, omega (arith, at.1), at.2)))

  pairs-on : (xs zs : List (ℕ × (Marked × Stmts))) (ys us : List JudgedView) → InPairs (IsJudged budget ms) xs ys → InPairs (IsJudged budget ms) zs us → InPairs (IsJudged budget ms) (xs ++ zs) (ys ++ us)
  pairs-on [] zs [] us h k = k
  pairs-on [] zs (y ∷ ys) us h k = absurd h
  pairs-on (x ∷ xs) zs [] us h k = absurd h
  pairs-on (x ∷ xs) zs (y ∷ ys) us h k = (h.0, pairs-on xs zs ys us h.1 k)

  -- the module in front of the rest
  first-of : (ls : List LoadedModule) (n : ℕ) (y : LoadedModule) (rest : List LoadedModule) → drop n ls ≡ y ∷ rest → (slice_get ls n ≡ Some y) × (drop (suc n) ls ≡ rest) × (n < length ls)
  first-of [] zero y rest e = absurd cc
  first-of [] (suc n) y rest e = absurd cc
  first-of (l ∷ ls) zero y rest e = let a : l ≡ y = cc in let b : ls ≡ rest = cc in (ap Some a, b, omega arith)
  first-of (l ∷ ls) (suc n) y rest e = let t = first-of ls n y rest e in (t.0, t.1, omega (arith, t.2))

  from-one : (n : ℕ) (rest : List LoadedModule) → drop (suc n) ms ≡ rest
      → InPairs (IsJudged budget ms) (mutants_from (suc n) rest) (judged_from tried s.rows (suc n) (map of_module rest)) × All Unseen (mutants_from (suc n) rest)
  from-one n [] e = (tt, All-nil Unseen)
  from-one n (y ∷ rest) e =
      let t = first-of ms (suc n) y rest e in
      let body : body_of ms (suc n) ≡ y.body = ap module_body t.0 in
      let path : encode_utf8_all (path_of ms (suc n)) ≡ encode_utf8_all y.path = ap (λ o. encode_utf8_all (module_path o)) t.0 in
      let later = from-one (suc n) rest t.1 in
      let here : (x : Marked × Stmts) → Contains (module_mutants y.body) x → Contains (module_mutants (body_of ms (suc n))) x = λ x at. subst (λ b. Contains (module_mutants b) x) (sym body) at in (
        pairs-on (map (λ x. (suc n, x)) (module_mutants y.body)) (mutants_from (suc (suc n)) rest) (map (judge tried (lines_of s.rows (encode_utf8_all y.path)) (suc n)) (module_mutants y.body)) (judged_from tried s.rows (suc (suc n)) (map of_module rest))
            (of-one (suc n) (judge tried (lines_of s.rows (encode_utf8_all y.path)) (suc n)) (module_mutants y.body)
            (λ x at. subst (λ p. IsJudged budget ms (suc n, x) (judge tried (lines_of s.rows p) (suc n) x)) path (judged-one (suc n) t.2 x (here x at)))) later.0,
        All-append Unseen (map (λ x. (suc n, x)) (module_mutants y.body)) (mutants_from (suc (suc n)) rest)
            (unseen-one (suc n) (module_mutants y.body) (λ x at none. unseen budget ms regular run.imports n x (here x at) none)) later.1,
      )

all-judged : (law : UnitsAreFaithful) (traces : TracesKept) (budget : ℕ) (ms : List LoadedModule) (well : AreWellFormed ms) (regular : AreRegular ms) (some : 0 < length ms) (s : SuiteView) (run : HasRun budget ms s)
    → AreJudged budget ms (judged_all (tried law traces budget ms well regular some s run) s.rows (map of_module ms))
all-judged law traces budget [] well regular some s run = absurd (omega (arith, some))
all-judged law traces budget (script ∷ others) well regular some s run =
    let h = from-one law traces budget (script ∷ others) well regular some s run 0 others refl in
    record { imports = run.imports; judged = h.0; unreached = h.1 }

-- what is judged by code, of programs and trees of modules
pub are-judged : (law : UnitsAreFaithful) (traces : TracesKept) (budget : ℕ) (ps : Programs) (trees : List Module) (ms : List LoadedModule) → AreMutable ps trees ms → 0 < length (modules_of ps) → (s : SuiteView) → HasRun budget ms s
    → AreRegular ms → (t : Tried) → t.code ≡ map code_of (sources ps.modules.items trees) → t.names ≡ passed_names s.tests → t.budget ≡ budget
    → (js : List JudgedView) → js ≡ judged_all t s.rows (sources ps.modules.items trees) → AreJudged budget ms js
are-judged law traces budget ps trees ms are there s run regular t code names same js is =
    let from : sources ps.modules.items trees ≡ map of_module ms = sources-are ps.modules.items trees ms are.faithful are.paths are.bodies in
    let some : 0 < length ms = subst (λ n. 0 < n) (same-length (modules_of ps) ms are.faithful) there in
    let now : Tried = record { code = map code_of (map of_module ms); names = passed_names s.tests; budget = budget } in
    let tried-same : t ≡ now = λ i. record { code = (code ∙ ap (map code_of) from) i; names = names i; budget = same i } in
    subst (AreJudged budget ms) (sym (is ∙ (λ i. judged_all (tried-same i) s.rows (from i)))) (all-judged law traces budget ms are.well_formed regular some s run)
