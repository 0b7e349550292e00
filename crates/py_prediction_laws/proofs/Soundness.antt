-- Statements leave arcs that are as asked: marks that follow each other are pairs of the prediction.
use Rattle.std.proofs.Common.{◌≡◌, ℕ, ◌<◌, Bool, true, false, not, ◌||◌, ◌&&◌, if◌then◌else◌, IsTrue, List, [], ◌∷◌, ◌++◌, Option, Some, None, Ok, refl, sym, ◌∙◌, inl, inr}
use Rattle.py_value.specs.Plain.{PlainValue, none_value, func_value, kind_value, exc_value, PlainRaised}
use Rattle.py_syntax.specs.Constants.{is_constant}
use Rattle.py_syntax.specs.FirstMarks.{only, stmts_empty, kind_empty, opt_empty, arms_empty, stmts_first, kind_first, opt_first, arms_first, clauses_first, cases_first}
use Rattle.py_syntax.specs.LastMarks.{Way, onward, breaking, continuing, returning, raising, is_onward, may_raise, onward_only, past, past_try, has_clause, has_case, is_sure, stmts_last, kind_last, opt_last, arms_last, clauses_last, cases_last, finally_last}
use Rattle.py_syntax.specs.Marks.{stmts_marks, kind_marks, opt_marks, arms_marks, clauses_marks, cases_marks}
use Rattle.py_syntax.specs.Neighbours.{joined, turned, by_each_way, names_kind, stmts_pairs, kind_pairs, opt_pairs, arms_pairs, clauses_pairs, cases_pairs}
use Rattle.py_syntax.specs.Tree.{Text, Expr, Exprs, no_exprs, exprs, Pattern, Stmts, no_stmts, stmt, suite, OptSuite, no_suite, has_suite, Arms, no_arms, arm, Clauses, no_clauses, clause, Cases, no_cases, case, StmtKind, expr, assign, aug_assign, pass, break, continue, return, raise, assert, global, import, from, if', while, for, try, def, match}
use Rattle.py_meaning.specs.Activations.{mark}
use Rattle.py_meaning.specs.Assignments.{assign_to}
use Rattle.py_meaning.specs.Calls.{Calls}
use Rattle.py_meaning.specs.Computations.{Setting, State, done, Ans, M, give, write, branch}
use Rattle.py_meaning.specs.Expressions.{eval}
use Rattle.py_meaning.specs.Places.{Place, bound}
use Rattle.py_meaning.specs.Statements.{Out, normal, breaks, continues, returns, raises, using, next, Loop, loop, while_loop, while_header, Walked, for_loop, for_header, at_item, raise_value, reraise, failed_assertion, has_clauses, handled, in_clause, caught_by, guarded, default_list, function_at, returned, raised, exec, exec_kind, exec_opt, exec_arms, exec_clauses, exec_finally, exec_cases}
use Rattle.py_prediction_laws.proofs.Members.{in-joined, Mark, left, right, when, and-true, untrue, Lines, lines-head, lines-tail, lines-left, lines-right}
use Rattle.py_prediction_laws.proofs.Tracks.{Fact, AreQuiet, IsQuiet, follows-give, follows-chain, follows-write, follows-if, follows-given, quiet-give, quiet-value, quiet-ask, quiet-branch, quiet-work}
use Rattle.py_prediction_laws.proofs.Quiet.{quiet-eval, quiet-each, quiet-assign_to, quiet-assign_all, quiet-augment, quiet-module_of, quiet-import_each, quiet-take_each}
use Rattle.py_prediction_laws.proofs.Posts.{Frame, Goes, At, Post, Enter, Joins, joins-left, joins-right, split4, split5, split8, enter-joined, enter-after, marked, throws, uses, uses-answer, branches, widened, raise-at, Own, simple}
use Rattle.py_prediction_laws.proofs.Loops.{last_in_turn, turn_last, loop_last, while-turn, else-goes, HeaderGoes, any-header, constant-header, constant-answers, loop-goes}
use Rattle.py_prediction_laws.proofs.Tries.{try_last, body-ended, handle-goes, raised-mark, has-come, pending-mark, settle-goes}
use Rattle.py_prediction_laws.proofs.Matching.{match-goes}

-- ---- simple statements

gives-answer : {A : Type 0} (a : A) (s : State) (n : ℕ) → give {A = Ans A} (Ok a) s n ≡ done (Ok a) s n
unfolding give
gives-answer a s n = refl

same-clauses : (cs : Clauses) → has_clause cs ≡ has_clauses cs
same-clauses no_clauses = refl
same-clauses (clause k x s rest) = refl

is-unconstant : (b : Bool) → b ≡ false → IsTrue (not b)
is-unconstant true e = sym e
is-unconstant false e = refl

module _ (F : Frame) where
  -- a part, and what follows it where it ends normally
  abbrev sequence_last : Bool → (Way → List ℕ) → (Way → List ℕ) → Way → List ℕ
  sequence_last empty first rest w = only (not (is_onward w) || empty) (first w) ++ rest w

  module _ (E E' : Bool) (L L' : Way → List ℕ) (pre : Fact) where
    abbrev Mid : Out → Fact
    Mid = Post F E L pre

    rest-ended : (k : ℕ) (t : Bool) → IsTrue E' → Mid normal k t → Post F (E && E') (sequence_last E' L L') pre normal k t
    rest-ended k t e (inl m) = inl (left (L' onward) (when e m))
    rest-ended k t e (inr h) = inr (and-true E E' h.0 e, h.1)

    pub sequence-goes : (m : M Out) → Goes F (Mid normal) m (Post F E' L' (Mid normal)) → (o : Out) → Goes F (Mid o) (next o m) (Post F (E && E') (sequence_last E' L L') pre)
    sequence-goes m h normal = widened F E' (E && E') L' (sequence_last E' L L') (Mid normal) pre m (λ w k q. right (only (not (is_onward w) || E') (L w)) q) rest-ended h
    sequence-goes m h breaks = follows-give F.rule F.code _ breaks _ (λ k t q. left (L' breaking) q)
    sequence-goes m h continues = follows-give F.rule F.code _ continues _ (λ k t q. left (L' continuing) q)
    sequence-goes m h (returns v) = follows-give F.rule F.code _ (returns v) _ (λ k t q. left (L' returning) q)
    sequence-goes m h (raises e false) = follows-give F.rule F.code _ (raises e false) _ (λ k t q. left (L' raising) q)
    sequence-goes m h (raises e true) = follows-give F.rule F.code _ (raises e true) _ (λ k t q. (q.0, λ a. left (L' raising) (q.1 a)))

    enter-rest : (first rest : List ℕ) → Joins F (joined (L onward) rest) → Enter F pre (first ++ only E rest) → Enter F (Mid normal) rest
    enter-rest first rest j enter k t x (inl l) ok apart m = j k x l.up m.up (in-joined k x (L onward) rest apart l.found m.found)
    enter-rest first rest j enter k t x (inr h) ok apart m = enter k t x h.1 ok apart (right first (when h.0 m))

  module _ (c : Calls) (h : AreQuiet F.rule c) (p : Place) (l : ℕ) (pre : Fact) where
    returned-goes : (e : Option Expr) → Goes F (At F l) (returned c p e) (Post F false (Own F returning l) pre)
    returned-goes None = follows-give F.rule F.code (At F l) (returns none_value) _ (λ k t q. q)
    returned-goes (Some e) = uses F (At F l) (eval c p e) _ _ (quiet-eval F.rule c h p e) (λ v. follows-give F.rule F.code (At F l) (returns v) _ (λ k t q. q)) (λ e k t q. (refl, λ a. raise-at F k l a q))

    abbrev Raised : Out → Fact
    Raised = Post F false (Own F raising l) pre

    raise_value-goes : (v : PlainValue) → Goes F (At F l) (raise_value v) Raised
    raise_value-goes (exc_value kind a) = follows-give F.rule F.code (At F l) _ Raised (λ k t q. q)
    raise_value-goes (kind_value kind) = follows-give F.rule F.code (At F l) _ Raised (λ k t q. q)
    raise_value-goes _ = throws F (At F l) _ Raised (λ k t q. (refl, λ a. q))

    reraise-goes : (e : Option PlainRaised) → Goes F (At F l) (reraise e) Raised
    reraise-goes (Some e) = follows-give F.rule F.code (At F l) _ Raised (λ k t q. q)
    reraise-goes None = throws F (At F l) _ Raised (λ k t q. (refl, λ a. q))

    raised-goes : (e : Option Expr) → Goes F (At F l) (raised c p e) Raised
    raised-goes None = reraise-goes p.handled
    raised-goes (Some e) = uses F (At F l) (eval c p e) _ Raised (quiet-eval F.rule c h p e) raise_value-goes (λ e k t q. (refl, λ a. q))

    abbrev Onward : Out → Fact
    Onward = Post F false (Own F onward l) pre

    thrown-onward : (e : PlainRaised) (k : ℕ) (t : Bool) → At F l k t → Onward (raises e true) k true
    thrown-onward e k t q = (refl, λ a. raise-at F k l a q)

    failed-goes : (why : Option Expr) → Goes F (At F l) (failed_assertion c p why) Onward
    failed-goes None = throws F (At F l) _ Onward (λ k t q. (refl, λ a. raise-at F k l a q))
    failed-goes (Some e) =
        uses F (At F l) _ _ Onward (quiet-value F.rule _ _ (quiet-eval F.rule c h p e) (λ v. quiet-give F.rule _)) (λ x. throws F (At F l) x Onward (thrown-onward x)) thrown-onward

    asserted-goes : (test : Expr) (why : Option Expr) → Goes F (At F l) (using (eval c p test) (λ v. branch v (give normal) (failed_assertion c p why))) Onward
    asserted-goes test why =
        uses F (At F l) (eval c p test) _ Onward (quiet-eval F.rule c h p test)
        (λ v. branches F (At F l) v _ _ Onward (follows-give F.rule F.code (At F l) normal Onward (λ k t q. inl q)) (failed-goes why))
        thrown-onward

    quiet-defaults : (es : Exprs) → IsQuiet F.rule (default_list c p es)
    quiet-defaults no_exprs = quiet-give F.rule _
    quiet-defaults (exprs e es) = quiet-value F.rule _ _ (quiet-each F.rule c h p (exprs e es)) (λ vs. quiet-value F.rule _ _ (quiet-work F.rule _) (λ d. quiet-give F.rule _))

    defined-goes : (ds : Exprs) (w : Option ℕ → Setting → Setting) → Goes F (At F l) (using (default_list c p ds) (λ a. write (w a) (give normal))) Onward
    defined-goes ds w =
        uses F (At F l) (default_list c p ds) _ Onward (quiet-defaults ds)
        (λ a. follows-write F.rule F.code (At F l) _ _ Onward (follows-give F.rule F.code (At F l) normal Onward (λ k t q. inl q)))
        thrown-onward

  -- ---- loops

  module _ (c : Calls) (h : AreQuiet F.rule c) (p : Place) where
    quiet-while_header : (t : Expr) → IsQuiet F.rule (while_header (eval c p t))
    quiet-while_header t = quiet-value F.rule _ _ (quiet-eval F.rule c h p t) (λ v. quiet-branch F.rule v _ _ (quiet-give F.rule _) (quiet-give F.rule _))

    quiet-at_item : (v : PlainValue) (n i : ℕ) → IsQuiet F.rule (at_item v n i)
    quiet-at_item v n i = quiet-value F.rule _ _ (quiet-ask F.rule _) (λ x. quiet-give F.rule _)

    quiet-for_header : (e : Expr) (b : Option Walked) → IsQuiet F.rule (for_header (eval c p e) b)
    quiet-for_header e None = quiet-value F.rule _ _ (quiet-eval F.rule c h p e) (λ v. quiet-value F.rule _ _ (quiet-ask F.rule _) (λ n. quiet-at_item v n 0))
    quiet-for_header e (Some t) = quiet-at_item t.value t.length t.place

    module _ (l : ℕ) (up : 0 < l) (b : Stmts) (o : OptSuite) (pre : Fact) where
      abbrev Body_last : Way → List ℕ
      Body_last w = stmts_last F.any w b

      abbrev Else_last : Way → List ℕ
      Else_last w = opt_last F.any w o

      abbrev Body_goes : Type 0
      Body_goes = Enter F (At F l) (stmts_first b) → Goes F (At F l) (exec c p b) (Post F (stmts_empty b) Body_last (At F l))

      abbrev Else_goes : Type 0
      Else_goes = Enter F (At F l) (opt_first o) → Goes F (At F l) (exec_opt c p o) (Post F (opt_empty o) Else_last (At F l))

      abbrev Turned : Type 0
      Turned = Joins F (turned l (last_in_turn l (stmts_empty b) Body_last))

      while-goes : (t : Expr) → Joins F (joined (l ∷ []) (stmts_first b)) → Turned → Joins F (joined (only (not (is_constant t)) (l ∷ [])) (opt_first o)) → Enter F pre (l ∷ []) → Body_goes → Else_goes
          → Goes F pre (loop (while_loop l (eval c p t) (exec c p b) (exec_opt c p o)) (mark l) None) (Post F false (loop_last F l Body_last (not (is_constant t) && opt_empty o) Else_last) pre)
      while-goes t to_body round to_else enter body orelse = loop-goes F x (stmts_empty b) Body_last passed Else_last up pre round (head (is_constant t) refl) (λ u. turn) enter None
        where
          x : Loop (Unit {0})
          x = while_loop l (eval c p t) (exec c p b) (exec_opt c p o)

          passed : Bool
          passed = not (is_constant t) && opt_empty o

          turn : Goes F (At F l) (exec c p b) (Post F (stmts_empty b) (turn_last F l Body_last) (At F l))
          turn = widened F (stmts_empty b) (stmts_empty b) Body_last (turn_last F l Body_last) (At F l) (At F l) (exec c p b) (while-turn F l Body_last) (λ k t e q. inr (e, q)) (body (enter-after F l (stmts_first b) to_body))

          head : (constant : Bool) → is_constant t ≡ constant → HeaderGoes F x (stmts_empty b) Body_last passed Else_last up pre
          head true e = constant-header F x (stmts_empty b) Body_last passed Else_last up pre tt (λ b s n. constant-answers c p t e s n)
          head false e =
              let free : IsTrue (not (is_constant t)) = is-unconstant (is_constant t) e in
              any-header F x (stmts_empty b) Body_last passed Else_last up pre (λ b. quiet-while_header t)
              (else-goes F l Body_last passed Else_last pre (opt_empty o) (exec_opt c p o) (λ i. and-true (not (is_constant t)) (opt_empty o) free i)
              (orelse (enter-joined F (only (not (is_constant t)) (l ∷ [])) (opt_first o) (At F l) to_else (λ k t q ok. when free q))))

      for-goes : (target over : Expr) → Joins F (joined (l ∷ []) (stmts_first b)) → Turned → Joins F (joined (l ∷ []) (opt_first o)) → Enter F pre (l ∷ []) → Body_goes → Else_goes
          → Goes F pre (loop (for_loop l (eval c p over) (assign_to c p target) (exec c p b) (exec_opt c p o)) (mark l) None) (Post F false (loop_last F l Body_last (opt_empty o) Else_last) pre)
      for-goes target over to_body round to_else enter body orelse =
          loop-goes F x (stmts_empty b) Body_last (opt_empty o) Else_last up pre round
          (any-header F x (stmts_empty b) Body_last (opt_empty o) Else_last up pre (quiet-for_header over)
          (else-goes F l Body_last (opt_empty o) Else_last pre (opt_empty o) (exec_opt c p o) (λ i. i) (orelse (enter-after F l (opt_first o) to_else))))
          turn enter None
        where
          x : Loop Walked
          x = for_loop l (eval c p over) (assign_to c p target) (exec c p b) (exec_opt c p o)

          turn : (t : Walked) → Goes F (At F l) (using (assign_to c p target t.item) (λ u. exec c p b)) (Post F (stmts_empty b) (turn_last F l Body_last) (At F l))
          turn t =
              uses F (At F l) (assign_to c p target t.item) _ _ (quiet-assign_to F.rule c h p target t.item)
              (λ u. widened F (stmts_empty b) (stmts_empty b) Body_last (turn_last F l Body_last) (At F l) (At F l) (exec c p b) (while-turn F l Body_last) (λ k t e q. inr (e, q)) (body (enter-after F l (stmts_first b) to_body)))
              (λ e k t q. (refl, λ a. left _ (raise-at F k l a q)))

  -- ---- clauses

  handled-goes : (p : Place) (x : Option Text) (e : PlainRaised) (pre : Fact) (m : M Out) (post : Out → Fact) → Goes F pre m post → Goes F pre (handled p.scope x e m) post
  handled-goes p x e pre m post h =
      follows-write F.rule F.code pre _ _ post (follows-chain F.rule F.code pre m post _ post h (λ o. follows-write F.rule F.code (post o) _ _ post (follows-give F.rule F.code (post o) o post (λ k t q. q))))

  caught-goes : (c : Calls) (h : AreQuiet F.rule c) (p : Place) (kind : Option Expr) (e : PlainRaised) (pre : Fact) (m rest : M Out) (post : Out → Fact) → Goes F pre m post → (IsTrue (names_kind kind) → Goes F pre rest post) → ((e : PlainRaised) (k : ℕ) (t : Bool) → pre k t → post (raises e true) k true)
      → Goes F pre (using (caught_by c p kind e) (λ yes. if yes then m else rest)) post
  caught-goes c h p None e pre m rest post hm hr ht = uses-answer F pre _ true _ post (gives-answer true) hm
  caught-goes c h p (Some t) e pre m rest post hm hr ht =
      uses F pre _ _ post (quiet-value F.rule _ _ (quiet-eval F.rule c h p t) (λ v. quiet-give F.rule _)) (λ yes. follows-if F.rule F.code pre yes m rest post hm (hr refl)) ht

  guarded-goes : (c : Calls) (h : AreQuiet F.rule c) (p : Place) (q : Pattern) (guard : Option Expr) (pre : Fact) (m rest : M Out) (post : Out → Fact) → Goes F pre m post → (IsTrue (not (is_sure q guard)) → Goes F pre rest post) → ((e : PlainRaised) (k : ℕ) (t : Bool) → pre k t → post (raises e true) k true)
      → Goes F pre (guarded c p guard m rest) post
  guarded-goes c h p q None pre m rest post hm hr ht = hm
  guarded-goes c h p q (Some e) pre m rest post hm hr ht = uses F pre _ _ post (quiet-eval F.rule c h p e) (λ v. branches F pre v m rest post hm (hr refl)) ht

-- ---- all statements

module _ (F : Frame) (c : Calls) (h : AreQuiet F.rule c) where
  mutual
    unfolding exec exec_kind exec_opt exec_arms exec_clauses exec_finally exec_cases stmts_empty kind_empty opt_empty stmts_first kind_first opt_first stmts_last kind_last opt_last arms_last clauses_last cases_last finally_last stmts_pairs kind_pairs opt_pairs arms_pairs clauses_pairs cases_pairs

    pub sound-exec : (p : Place) (b : Stmts) → Lines (stmts_marks b) → (pre : Fact) → Joins F (stmts_pairs F.any b) → Enter F pre (stmts_first b) → Goes F pre (exec c p b) (Post F (stmts_empty b) (λ w. stmts_last F.any w b) pre)
    sound-exec p no_stmts lines pre joins enter = follows-give F.rule F.code pre normal _ (λ k t q. inr (refl, q))
    sound-exec p (stmt f l k e rest) lines pre joins enter =
        let to_rest = joins-right F (kind_pairs F.any f k) (joined (kind_last F.any onward f k) (stmts_first rest) ++ stmts_pairs F.any rest) joins in
        follows-chain F.rule F.code pre (exec_kind c p f k) (Post F (kind_empty k) (λ w. kind_last F.any w f k) pre) _ _
        (sound-kind p f k (lines-left (kind_marks f k) (stmts_marks rest) lines) pre (joins-left F (kind_pairs F.any f k) (joined (kind_last F.any onward f k) (stmts_first rest) ++ stmts_pairs F.any rest) joins)
        (λ n t x q ok apart m. enter n t x q ok apart (left (only (kind_empty k) (stmts_first rest)) m)))
        (sequence-goes F (kind_empty k) (stmts_empty rest) (λ w. kind_last F.any w f k) (λ w. stmts_last F.any w rest) pre (exec c p rest)
        (sound-exec p rest (lines-right (kind_marks f k) (stmts_marks rest) lines) (Post F (kind_empty k) (λ w. kind_last F.any w f k) pre normal)
        (joins-right F (joined (kind_last F.any onward f k) (stmts_first rest)) (stmts_pairs F.any rest) to_rest)
        (enter-rest F (kind_empty k) (stmts_empty rest) (λ w. kind_last F.any w f k) (λ w. stmts_last F.any w rest) pre (kind_first f k) (stmts_first rest)
        (joins-left F (joined (kind_last F.any onward f k) (stmts_first rest)) (stmts_pairs F.any rest) to_rest) enter)))

    sound-opt : (p : Place) (o : OptSuite) → Lines (opt_marks o) → (pre : Fact) → Joins F (opt_pairs F.any o) → Enter F pre (opt_first o) → Goes F pre (exec_opt c p o) (Post F (opt_empty o) (λ w. opt_last F.any w o) pre)
    sound-opt p no_suite lines pre joins enter = follows-give F.rule F.code pre normal _ (λ k t q. inr (refl, q))
    sound-opt p (has_suite (suite f l i b)) lines pre joins enter = sound-exec p b lines pre joins enter

    sound-arms : (p : Place) (xs : Arms) → Lines (arms_marks xs) → (pre : Fact) (o : M Out) (first : List ℕ) (last : Way → List ℕ) (empty : Bool) → ((pre' : Fact) → Enter F pre' first → Goes F pre' o (Post F empty last pre')) → Joins F (arms_pairs F.any xs first) → Enter F pre (arms_first xs first)
        → Goes F pre (exec_arms c p xs o) (Post F (arms_empty xs empty) (λ w. arms_last F.any w xs (last w) empty) pre)
    sound-arms p no_arms lines pre o first last empty orelse joins enter = orelse pre enter
    sound-arms p (arm t (suite f l i b) rest) lines pre o first last empty orelse joins enter =
        let j = split4 F (joined (f ∷ []) (stmts_first b)) (joined (f ∷ []) (arms_first rest first)) (stmts_pairs F.any b) (arms_pairs F.any rest first) joins in
        marked F pre f _ _ (lines-head lines) enter
        (uses F (At F f) (eval c p t) _ _ (quiet-eval F.rule c h p t)
        (λ v. branches F (At F f) v _ _ _
        (widened F (stmts_empty b) false (λ w. stmts_last F.any w b) (λ w. arms_last F.any w (arm t (suite f l i b) rest) (last w) empty) (At F f) pre (exec c p b)
        (λ w k q. right (may_raise F.any w f) (right (onward_only w (past f b ++ only (arms_empty rest empty) (f ∷ []))) (left _ q)))
        (λ k t e q. inl (right (may_raise F.any onward f) (left _ (left _ (when e q)))))
        (sound-exec p b (lines-left (stmts_marks b) (arms_marks rest) (lines-tail lines)) (At F f) j.2 (enter-after F f (stmts_first b) j.0)))
        (widened F (arms_empty rest empty) false (λ w. arms_last F.any w rest (last w) empty) (λ w. arms_last F.any w (arm t (suite f l i b) rest) (last w) empty) (At F f) pre (exec_arms c p rest o)
        (λ w k q. right (may_raise F.any w f) (right (onward_only w (past f b ++ only (arms_empty rest empty) (f ∷ []))) (right (stmts_last F.any w b) q)))
        (λ k t e q. inl (right (may_raise F.any onward f) (left _ (right (past f b) (when e q)))))
        (sound-arms p rest (lines-right (stmts_marks b) (arms_marks rest) (lines-tail lines)) (At F f) o first last empty orelse j.3 (enter-after F f (arms_first rest first) j.1))))
        (λ e k t q. (refl, λ a. left _ (raise-at F k f a q))))

    sound-clauses : (p : Place) (cs : Clauses) → Lines (clauses_marks cs) → (pre out : Fact) (S : Way → List ℕ) → ((w : Way) (k : ℕ) → Mark k (clauses_last F.any w cs) → Mark k (S w)) → (has_clause cs ≡ false → (k : ℕ) (t : Bool) → pre k t → IsTrue F.any → Mark k (S raising)) → Joins F (clauses_pairs F.any cs) → Enter F pre (clauses_first cs)
        → (e : PlainRaised) → Goes F pre (exec_clauses c p cs e) (Post F false S out)
    sound-clauses p no_clauses lines pre out S sub none joins enter e = throws F pre e _ (λ k t q. (refl, λ a. none refl k t q a))
    sound-clauses p (clause kind x (suite f l i b) rest) lines pre out S sub none joins enter e =
        let j = split4 F (joined (f ∷ []) (stmts_first b)) (joined (only (names_kind kind) (f ∷ [])) (clauses_first rest)) (stmts_pairs F.any b) (clauses_pairs F.any rest) joins in
        marked F pre f _ _ (lines-head lines) enter
        (caught-goes F c h p kind e (At F f) _ _ _
        (handled-goes F p x e (At F f) _ _
        (widened F (stmts_empty b) false (λ w. stmts_last F.any w b) S (At F f) out (exec c (in_clause p e) b)
        (λ w k q. sub w k (right (may_raise F.any w f) (right (onward_only w (past f b)) (left _ q))))
        (λ k t i q. inl (sub onward k (right (may_raise F.any onward f) (left _ (when i q)))))
        (sound-exec (in_clause p e) b (lines-left (stmts_marks b) (clauses_marks rest) (lines-tail lines)) (At F f) j.2 (enter-after F f (stmts_first b) j.0))))
        (λ named. sound-clauses p rest (lines-right (stmts_marks b) (clauses_marks rest) (lines-tail lines)) (At F f) out S
        (λ w k q. sub w k (right (may_raise F.any w f) (right (onward_only w (past f b)) (right (stmts_last F.any w b) q))))
        (λ n k t q a. sub raising k (left _ (raise-at F k f a q)))
        j.3 (enter-joined F (only (names_kind kind) (f ∷ [])) (clauses_first rest) (At F f) j.1 (λ k t q ok. when named q)) e)
        (λ e k t q. (refl, λ a. sub raising k (left _ (raise-at F k f a q)))))

    sound-finally : (p : Place) (fin : OptSuite) → Lines (opt_marks fin) → (came : Way → List ℕ) (pre : Fact) → Joins F (joined (by_each_way came) (opt_first fin)) → Joins F (opt_pairs F.any fin) → (o : Out) → Goes F (Post F false came pre o) (exec_finally c p fin o) (Post F false (λ w. finally_last F.any w fin (came w)) pre)
    sound-finally p no_suite lines came pre to_fin joins o = follows-give F.rule F.code (Post F false came pre o) o (Post F false came pre) (λ k t q. q)
    sound-finally p (has_suite (suite f l i b)) lines came pre to_fin joins o =
        follows-given F.rule F.code (Post F false came pre o) _ _ (λ k t q.
        follows-chain F.rule F.code (Post F false came pre o) (exec c p b) (Post F (stmts_empty b) (λ w. stmts_last F.any w b) (Post F false came pre o)) _ _
        (sound-exec p b lines (Post F false came pre o) joins (enter-joined F (by_each_way came) (stmts_first b) (Post F false came pre o) to_fin (pending-mark F came pre o)))
        (settle-goes F came pre (stmts_empty b) (λ w. stmts_last F.any w b) o (has-come F came pre o k t q)))

    sound-cases : (p : Place) (cs : Cases) → Lines (cases_marks cs) → (pre : Fact) → Joins F (cases_pairs F.any cs) → Enter F pre (cases_first cs) → (v : PlainValue) → Goes F pre (exec_cases c p cs v) (Post F (not (has_case cs)) (λ w. cases_last F.any w cs) pre)
    sound-cases p no_cases lines pre joins enter v = follows-give F.rule F.code pre normal _ (λ k t q. inr (refl, q))
    sound-cases p (case q g (suite f l i b) rest) lines pre joins enter v =
        let j = split4 F (joined (f ∷ []) (stmts_first b)) (joined (only (not (is_sure q g)) (f ∷ [])) (cases_first rest)) (stmts_pairs F.any b) (cases_pairs F.any rest) joins in
        let raise : (e : PlainRaised) (k : ℕ) (t : Bool) → At F f k t → Post F false (λ w. cases_last F.any w (case q g (suite f l i b) rest)) pre (raises e true) k true = λ e k t r. (refl, λ a. left _ (raise-at F k f a r)) in
        let after : IsTrue (not (is_sure q g)) → Goes F (At F f) (exec_cases c p rest v) (Post F false (λ w. cases_last F.any w (case q g (suite f l i b) rest)) pre) = λ free.
        widened F (not (has_case rest)) false (λ w. cases_last F.any w rest) (λ w. cases_last F.any w (case q g (suite f l i b) rest)) (At F f) pre (exec_cases c p rest v)
        (λ w k r. right (may_raise F.any w f) (right (onward_only w (past f b ++ only (not (is_sure q g) && not (has_case rest)) (f ∷ []))) (right (stmts_last F.any w b) r)))
        (λ k t e r. inl (right (may_raise F.any onward f) (left _ (right (past f b) (when (and-true (not (is_sure q g)) (not (has_case rest)) free e) r)))))
        (sound-cases p rest (lines-right (stmts_marks b) (cases_marks rest) (lines-tail lines)) (At F f) j.3 (enter-joined F (only (not (is_sure q g)) (f ∷ [])) (cases_first rest) (At F f) j.1 (λ k t r ok. when free r)) v) in
        marked F pre f _ _ (lines-head lines) enter
        (match-goes F (At F f) _ _ _ p.scope q g v
        (λ names. follows-write F.rule F.code (At F f) _ _ _ (guarded-goes F c h p q g (At F f) _ _ _
        (widened F (stmts_empty b) false (λ w. stmts_last F.any w b) (λ w. cases_last F.any w (case q g (suite f l i b) rest)) (At F f) pre (exec c p b)
        (λ w k r. right (may_raise F.any w f) (right (onward_only w (past f b ++ only (not (is_sure q g) && not (has_case rest)) (f ∷ []))) (left _ r)))
        (λ k t e r. inl (right (may_raise F.any onward f) (left _ (left _ (when e r)))))
        (sound-exec p b (lines-left (stmts_marks b) (cases_marks rest) (lines-tail lines)) (At F f) j.2 (enter-after F f (stmts_first b) j.0)))
        after raise))
        after raise)

    sound-kind : (p : Place) (l : ℕ) (k : StmtKind) → Lines (kind_marks l k) → (pre : Fact) → Joins F (kind_pairs F.any l k) → Enter F pre (kind_first l k) → Goes F pre (exec_kind c p l k) (Post F (kind_empty k) (λ w. kind_last F.any w l k) pre)
    sound-kind p l (expr e) lines pre joins enter = simple F pre l (eval c p e) (lines-head lines) enter (quiet-eval F.rule c h p e)
    sound-kind p l (assign ts e) lines pre joins enter = simple F pre l _ (lines-head lines) enter (quiet-value F.rule _ _ (quiet-eval F.rule c h p e) (λ v. quiet-assign_all F.rule c h p ts v))
    sound-kind p l (aug_assign t op e) lines pre joins enter = simple F pre l _ (lines-head lines) enter (quiet-augment F.rule c h p t op e)
    sound-kind p l pass lines pre joins enter = marked F pre l _ _ (lines-head lines) enter (follows-give F.rule F.code (At F l) normal _ (λ k t q. inl q))
    sound-kind p l break lines pre joins enter = marked F pre l _ _ (lines-head lines) enter (follows-give F.rule F.code (At F l) breaks _ (λ k t q. q))
    sound-kind p l continue lines pre joins enter = marked F pre l _ _ (lines-head lines) enter (follows-give F.rule F.code (At F l) continues _ (λ k t q. q))
    sound-kind p l (return e) lines pre joins enter = marked F pre l _ _ (lines-head lines) enter (returned-goes F c h p l pre e)
    sound-kind p l (raise e) lines pre joins enter = marked F pre l _ _ (lines-head lines) enter (raised-goes F c h p l pre e)
    sound-kind p l (assert t why) lines pre joins enter = marked F pre l _ _ (lines-head lines) enter (asserted-goes F c h p l pre t why)
    sound-kind p l (global xs) lines pre joins enter = follows-give F.rule F.code pre normal _ (λ k t q. inr (refl, q))
    sound-kind p l (import names) lines pre joins enter = simple F pre l _ (lines-head lines) enter (quiet-import_each F.rule c h p names)
    sound-kind p l (from m names) lines pre joins enter = simple F pre l _ (lines-head lines) enter (quiet-value F.rule _ _ (quiet-module_of F.rule c h p.modules m) (λ v. quiet-take_each F.rule p m v names))
    sound-kind p l (if' xs o) lines pre joins enter =
        sound-arms p xs (lines-left (arms_marks xs) (opt_marks o) lines) pre (exec_opt c p o) (opt_first o) (λ w. opt_last F.any w o) (opt_empty o)
        (λ pre' en. sound-opt p o (lines-right (arms_marks xs) (opt_marks o) lines) pre' (joins-right F (arms_pairs F.any xs (opt_first o)) (opt_pairs F.any o) joins) en)
        (joins-left F (arms_pairs F.any xs (opt_first o)) (opt_pairs F.any o) joins) enter
    sound-kind p l (while t (suite f g i b) o) lines pre joins enter =
        let j = split5 F (joined (l ∷ []) (stmts_first b)) (turned l (stmts_last F.any onward b ++ (stmts_last F.any continuing b ++ past l b))) (joined (only (not (is_constant t)) (l ∷ [])) (opt_first o)) (stmts_pairs F.any b) (opt_pairs F.any o) joins in
        while-goes F c h p l (lines-head lines) b o pre t j.0 j.1 j.2 enter
        (λ en. sound-exec p b (lines-left (stmts_marks b) (opt_marks o) (lines-tail lines)) (At F l) j.3 en)
        (λ en. sound-opt p o (lines-right (stmts_marks b) (opt_marks o) (lines-tail lines)) (At F l) j.4 en)
    sound-kind p l (for t e (suite f g i b) o) lines pre joins enter =
        let j = split5 F (joined (l ∷ []) (stmts_first b)) (turned l (stmts_last F.any onward b ++ (stmts_last F.any continuing b ++ past l b))) (joined (l ∷ []) (opt_first o)) (stmts_pairs F.any b) (opt_pairs F.any o) joins in
        for-goes F c h p l (lines-head lines) b o pre t e j.0 j.1 j.2 enter
        (λ en. sound-exec p b (lines-left (stmts_marks b) (opt_marks o) (lines-tail lines)) (At F l) j.3 en)
        (λ en. sound-opt p o (lines-right (stmts_marks b) (opt_marks o) (lines-tail lines)) (At F l) j.4 en)
    sound-kind p l (try (suite f g i b) cs o fin) lines pre joins enter =
        let came : Way → List ℕ = try_last l (stmts_empty b) (λ w. stmts_last F.any w b) cs (λ w. clauses_last F.any w cs) (opt_empty o) (λ w. opt_last F.any w o) in
        let j = split8 F (joined (l ∷ []) (stmts_first b)) (joined (stmts_last F.any raising b) (clauses_first cs)) (joined (stmts_last F.any onward b ++ past l b) (opt_first o)) (joined (by_each_way came) (opt_first fin)) (stmts_pairs F.any b) (clauses_pairs F.any cs) (opt_pairs F.any o) (opt_pairs F.any fin) joins in
        let body : Out → Fact = Post F (stmts_empty b) (λ w. stmts_last F.any w b) (At F l) in
        let inner = lines-tail lines in
        let later = lines-right (stmts_marks b) (clauses_marks cs ++ (opt_marks o ++ opt_marks fin)) inner in
        let last = lines-right (clauses_marks cs) (opt_marks o ++ opt_marks fin) later in
        marked F pre l _ _ (lines-head lines) enter
        (widened F false false (λ w. finally_last F.any w fin (came w)) (λ w. kind_last F.any w l (try (suite f g i b) cs o fin)) (At F l) pre _
        (λ w k q. right (may_raise F.any w l) q) (λ k t e q. absurd (untrue e))
        (follows-chain F.rule F.code (At F l) _ (Post F false came (At F l)) _ _
        (follows-chain F.rule F.code (At F l) (exec c p b) body _ _
        (sound-exec p b (lines-left (stmts_marks b) (clauses_marks cs ++ (opt_marks o ++ opt_marks fin)) inner) (At F l) j.4 (enter-after F l (stmts_first b) j.0))
        (handle-goes F l (stmts_empty b) (λ w. stmts_last F.any w b) cs (λ w. clauses_last F.any w cs) (opt_empty o) (λ w. opt_last F.any w o) (At F l) (has_clauses cs) (same-clauses cs) (exec_clauses c p cs) (exec_opt c p o)
        (λ has e t. sound-clauses p cs (lines-left (clauses_marks cs) (opt_marks o ++ opt_marks fin) later) (body (raises e t)) (At F l) came
        (λ w k q. right (past_try w (has_clause cs) (opt_empty o) (stmts_last F.any onward b ++ past l b) (stmts_last F.any w b)) (left (opt_last F.any w o) q))
        (λ n k t' q a. absurd (untrue (sym n ∙ same-clauses cs ∙ has)))
        j.5 (enter-joined F (stmts_last F.any raising b) (clauses_first cs) (body (raises e t)) j.1 (raised-mark F (stmts_empty b) (λ w. stmts_last F.any w b) (At F l) e t)) e)
        (sound-opt p o (lines-left (opt_marks o) (opt_marks fin) last) (body normal) j.6
        (enter-joined F (stmts_last F.any onward b ++ past l b) (opt_first o) (body normal) j.2 (λ k t q ok. body-ended F l (stmts_empty b) (λ w. stmts_last F.any w b) cs (λ w. clauses_last F.any w cs) (opt_empty o) (λ w. opt_last F.any w o) (At F l) k t q)))))
        (λ out. sound-finally p fin (lines-right (opt_marks o) (opt_marks fin) last) came (At F l) j.3 j.7 out)))
    sound-kind p l (def x ps ds comma b) lines pre joins enter = marked F pre l _ _ (lines-head lines) enter (defined-goes F c h p l pre ds (λ a. bound p.scope x (func_value (function_at p l) a)))
    sound-kind p l (match e header cs) lines pre joins enter =
        marked F pre l _ _ (lines-head lines) enter
        (uses F (At F l) (eval c p e) _ _ (quiet-eval F.rule c h p e)
        (λ v. widened F (not (has_case cs)) false (λ w. cases_last F.any w cs) (λ w. kind_last F.any w l (match e header cs)) (At F l) pre (exec_cases c p cs v)
        (λ w k q. right (may_raise F.any w l) (right (onward_only w (only (not (has_case cs)) (l ∷ []))) q))
        (λ k t i q. inl (right (may_raise F.any onward l) (left _ (when i q))))
        (sound-cases p cs (lines-tail lines) (At F l) (joins-right F (joined (l ∷ []) (cases_first cs)) (cases_pairs F.any cs) joins) (enter-after F l (cases_first cs) (joins-left F (joined (l ∷ []) (cases_first cs)) (cases_pairs F.any cs) joins)) v))
        (λ e k t q. (refl, λ a. left _ (raise-at F k l a q))))
