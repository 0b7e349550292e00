-- What the pieces of statements give in a row is what is gathered of the statements.
use Rattle.std.proofs.Common.{◌≡◌, ℕ, Bool, true, false, List, [], ◌∷◌, ◌++◌, Option, refl, ap, sym, ◌∙◌, append_assoc}
use Rattle.std.proofs.lemmas.List.{append-nil}
use Rattle.py_syntax.specs.Gathering.{Gathering, gather, gather_kind, gather_suite, gather_opt, gather_arms, gather_clauses, gather_cases}
use Rattle.py_syntax.specs.Tree.{Text, Expr}
use Rattle.py_syntax.specs.Tree.{Pattern}
use Rattle.py_syntax.specs.Tree.{Stmts, no_stmts, stmt, Suite, suite, OptSuite, no_suite, has_suite, Arms, no_arms, arm, Clauses, no_clauses, clause, Cases, no_cases, case, StmtKind, if', while, for, try, match}
use Rattle.cov_pieces.specs.Words.{Word, a_number, a_row}
use Rattle.cov_pieces.specs.Pieces.{Piece, word, open_part, inside, close, mark, words, node, header, picked, suite_fit, opt_fit, arms_fit, clauses_fit, cases_fit, heads, test_words, loop_words, clause_words, case_words, stmts_pieces, kind_pieces, suite_pieces, opt_pieces, arms_pieces, clauses_pieces, cases_pieces}

-- ---- what pieces give, put together

pub picked-both : {A : Type 0} (p : Piece → List A) (us vs : List Piece) → picked p (us ++ vs) ≡ picked p us ++ picked p vs
picked-both p [] vs = refl
picked-both p (u ∷ us) vs = ap (λ l. p u ++ l) (picked-both p us vs) ∙ sym (append_assoc (p u) (picked p us) (picked p vs))

-- what words give
worded : {A : Type 0} → (Piece → List A) → List Word → List A
worded p ws = picked p (words ws)

pub words-both : (us vs : List Word) → words (us ++ vs) ≡ words us ++ words vs
words-both [] vs = refl
words-both (u ∷ us) vs = ap (λ l. word u ∷ l) (words-both us vs)

pub picked-words : {A : Type 0} (p : Piece → List A) (us vs : List Word) → picked p (words (us ++ vs)) ≡ picked p (words us) ++ picked p (words vs)
picked-words p us vs = ap (picked p) (words-both us vs) ∙ picked-both p (words us) (words vs)

-- pieces that begin and end parts give nothing
pub record IsQuiet {A : Type 0} (p : Piece → List A) : Type 0 where
  pub opens : p open_part ≡ []
  pub enters : p inside ≡ []
  pub closes : p close ≡ []
  pub numbers : (n : ℕ) → p (word (a_number n)) ≡ []
  pub rows : (b : Stmts) → p (word (a_row b)) ≡ []

nothing-first : {A : Type 0} {x y z : List A} → x ≡ [] → y ≡ z → x ++ y ≡ z
nothing-first {y = y} e f = ap (λ l. l ++ y) e ∙ f

-- a part gives what its words give, and then what stands in it
pub part-gives : {A : Type 0} (p : Piece → List A) → IsQuiet p → (ws : List Word) (us : List Piece) → picked p (node ws us) ≡ picked p (words ws) ++ picked p us
part-gives p q ws us =
    nothing-first q.opens (picked-both p (words ws) (inside ∷ (us ++ close ∷ []))
    ∙ ap (λ l. picked p (words ws) ++ l) (nothing-first q.enters (picked-both p us (close ∷ [])
    ∙ ap (λ l. picked p us ++ l) (nothing-first q.closes refl) ∙ append-nil (picked p us))))

-- a part whose words give nothing
silent-part : {A : Type 0} (p : Piece → List A) → IsQuiet p → (ws : List Word) (us : List Piece) → picked p (words ws) ≡ [] → picked p (node ws us) ≡ picked p us
silent-part p q ws us e = part-gives p q ws us ∙ ap (λ l. l ++ picked p us) e

suite-quiet : {A : Type 0} (p : Piece → List A) → IsQuiet p → (s : Suite) → p (word (suite_fit s)) ≡ []
suite-quiet p q (suite f l i b) = q.rows b

opt-quiet : {A : Type 0} (p : Piece → List A) → IsQuiet p → (o : OptSuite) → p (word (opt_fit o)) ≡ []
opt-quiet p q no_suite = q.numbers 0
opt-quiet p q (has_suite s) = suite-quiet p q s

pub heads-quiet : {A : Type 0} (p : Piece → List A) → IsQuiet p → (b : Stmts) → picked p (words (heads b)) ≡ []
heads-quiet p q no_stmts = refl
heads-quiet p q (stmt l a k e r) = nothing-first (q.numbers _) (nothing-first (q.numbers _) (heads-quiet p q r))

arms-quiet : {A : Type 0} (p : Piece → List A) → IsQuiet p → (us : Arms) → picked p (words (arms_fit us)) ≡ []
arms-quiet p q no_arms = nothing-first (q.numbers _) refl
arms-quiet p q (arm e s r) = nothing-first (suite-quiet p q s) (arms-quiet p q r)

clauses-quiet : {A : Type 0} (p : Piece → List A) → IsQuiet p → (us : Clauses) → picked p (words (clauses_fit us)) ≡ []
clauses-quiet p q no_clauses = nothing-first (q.numbers _) refl
clauses-quiet p q (clause e x s r) = nothing-first (suite-quiet p q s) (clauses-quiet p q r)

cases-quiet : {A : Type 0} (p : Piece → List A) → IsQuiet p → (us : Cases) → picked p (words (cases_fit us)) ≡ []
cases-quiet p q no_cases = nothing-first (q.numbers _) refl
cases-quiet p q (case e x s r) = nothing-first (suite-quiet p q s) (cases-quiet p q r)

-- ---- what statements give

-- a statement without suites that it executes
abbrev pub IsPlain : StmtKind → Bool
IsPlain (if' us o) = false
IsPlain (while e s o) = false
IsPlain (for t e s o) = false
IsPlain (try s cs o fin) = false
IsPlain (match e a cs) = false
IsPlain k = true

-- pieces give what a gathering gives of each part itself
pub record Agrees {A : Type 0} (p : Piece → List A) (g : Gathering A) : Type 0 where
  pub quiet : IsQuiet p
  pub simple : (l last : ℕ) (k : StmtKind) → IsPlain k ≡ true → picked p (kind_pieces l k) ≡ gather_kind g (g.of_kind l last k) k
  pub branches : (l last : ℕ) (us : Arms) (o : OptSuite) → [] ≡ g.of_kind l last (if' us o)
  pub loops : (l last : ℕ) (e : Expr) (s : Suite) (o : OptSuite) → picked p (header (test_words l e) l) ≡ g.of_kind l last (while e s o)
  pub goes_over : (l last : ℕ) (t e : Expr) (s : Suite) (o : OptSuite) → picked p (header (loop_words l t e) l) ≡ g.of_kind l last (for t e s o)
  pub tries : (l last : ℕ) (s : Suite) (cs : Clauses) (o fin : OptSuite) → picked p (mark l ∷ []) ≡ g.of_kind l last (try s cs o fin)
  pub matches : (l last : ℕ) (e : Expr) (a : ℕ) (cs : Cases) → picked p (header (test_words l e) l) ≡ g.of_kind l last (match e a cs)
  pub tests : (l last : ℕ) (i : Bool) (b : Stmts) (e : Expr) → picked p (header (test_words l e) l) ≡ g.of_arm e (suite l last i b)
  pub handlers : (l last : ℕ) (i : Bool) (b : Stmts) (e : Option Expr) (x : Option Text) → picked p (header (clause_words l e x) l) ≡ g.of_clause e x (suite l last i b)
  pub patterned : (l last : ℕ) (i : Bool) (b : Stmts) (q : Pattern) (e : Option Expr) → picked p (header (case_words l q e) l) ≡ g.of_case q e (suite l last i b)

-- two parts, and three
two : {A : Type 0} (p : Piece → List A) (us vs : List Piece) {x y : List A} → picked p us ≡ x → picked p vs ≡ y → picked p (us ++ vs) ≡ x ++ y
two p us vs {x = x} e f = picked-both p us vs ∙ ap (λ l. l ++ picked p vs) e ∙ ap (λ l. x ++ l) f

mutual
  pub stmts-give : {A : Type 0} (p : Piece → List A) (g : Gathering A) → Agrees p g → (a : Stmts) → picked p (stmts_pieces a) ≡ gather g a
  stmts-give p g h no_stmts = refl
  stmts-give p g h (stmt l last k e r) = two p (kind_pieces l k) (stmts_pieces r) (kind-gives p g h l last k) (stmts-give p g h r)

  kind-gives : {A : Type 0} (p : Piece → List A) (g : Gathering A) → Agrees p g → (l last : ℕ) (k : StmtKind) → picked p (kind_pieces l k) ≡ gather_kind g (g.of_kind l last k) k
  kind-gives p g h l last (if' us o) =
      silent-part p h.quiet (arms_fit us ++ opt_fit o ∷ []) (arms_pieces us ++ opt_pieces o) (picked-words p (arms_fit us) (opt_fit o ∷ []) ∙ nothing-first (arms-quiet p h.quiet us) (nothing-first (opt-quiet p h.quiet o) refl))
      ∙ two p (arms_pieces us) (opt_pieces o) (arms-give p g h us) (opt-gives p g h o)
      ∙ ap (λ l. l ++ (gather_arms g us ++ gather_opt g o)) (h.branches l last us o)
  kind-gives p g h l last (while e s o) =
      silent-part p h.quiet (suite_fit s ∷ opt_fit o ∷ []) (header (test_words l e) l ++ (suite_pieces s ++ opt_pieces o)) (nothing-first (suite-quiet p h.quiet s) (nothing-first (opt-quiet p h.quiet o) refl))
      ∙ two p (header (test_words l e) l) (suite_pieces s ++ opt_pieces o) (h.loops l last e s o) (two p (suite_pieces s) (opt_pieces o) (suite-gives p g h s) (opt-gives p g h o))
  kind-gives p g h l last (for t e s o) =
      silent-part p h.quiet (suite_fit s ∷ opt_fit o ∷ []) (header (loop_words l t e) l ++ (suite_pieces s ++ opt_pieces o)) (nothing-first (suite-quiet p h.quiet s) (nothing-first (opt-quiet p h.quiet o) refl))
      ∙ two p (header (loop_words l t e) l) (suite_pieces s ++ opt_pieces o) (h.goes_over l last t e s o) (two p (suite_pieces s) (opt_pieces o) (suite-gives p g h s) (opt-gives p g h o))
  kind-gives p g h l last (try s cs o fin) =
      silent-part p h.quiet (suite_fit s ∷ (clauses_fit cs ++ opt_fit o ∷ opt_fit fin ∷ [])) (mark l ∷ (suite_pieces s ++ (clauses_pieces cs ++ (opt_pieces o ++ opt_pieces fin))))
      (nothing-first (suite-quiet p h.quiet s) (picked-words p (clauses_fit cs) (opt_fit o ∷ opt_fit fin ∷ []) ∙ nothing-first (clauses-quiet p h.quiet cs) (nothing-first (opt-quiet p h.quiet o) (nothing-first (opt-quiet p h.quiet fin) refl))))
      ∙ two p (mark l ∷ []) (suite_pieces s ++ (clauses_pieces cs ++ (opt_pieces o ++ opt_pieces fin))) (h.tries l last s cs o fin)
      (two p (suite_pieces s) (clauses_pieces cs ++ (opt_pieces o ++ opt_pieces fin)) (suite-gives p g h s)
      (two p (clauses_pieces cs) (opt_pieces o ++ opt_pieces fin) (clauses-give p g h cs) (two p (opt_pieces o) (opt_pieces fin) (opt-gives p g h o) (opt-gives p g h fin))))
  kind-gives p g h l last (match e a cs) =
      silent-part p h.quiet (cases_fit cs) (header (test_words l e) l ++ cases_pieces cs) (cases-quiet p h.quiet cs)
      ∙ two p (header (test_words l e) l) (cases_pieces cs) (h.matches l last e a cs) (cases-give p g h cs)
  kind-gives p g h l last k = h.simple l last k refl

  suite-gives : {A : Type 0} (p : Piece → List A) (g : Gathering A) → Agrees p g → (s : Suite) → picked p (suite_pieces s) ≡ gather_suite g s
  suite-gives p g h (suite f l i b) = silent-part p h.quiet (heads b) (stmts_pieces b) (heads-quiet p h.quiet b) ∙ stmts-give p g h b

  opt-gives : {A : Type 0} (p : Piece → List A) (g : Gathering A) → Agrees p g → (o : OptSuite) → picked p (opt_pieces o) ≡ gather_opt g o
  opt-gives p g h no_suite = refl
  opt-gives p g h (has_suite s) = suite-gives p g h s

  arms-give : {A : Type 0} (p : Piece → List A) (g : Gathering A) → Agrees p g → (us : Arms) → picked p (arms_pieces us) ≡ gather_arms g us
  arms-give p g h no_arms = refl
  arms-give p g h (arm e (suite f l i b) r) =
      two p (header (test_words f e) f) (node (heads b) (stmts_pieces b) ++ arms_pieces r) (h.tests f l i b e)
      (two p (node (heads b) (stmts_pieces b)) (arms_pieces r) (silent-part p h.quiet (heads b) (stmts_pieces b) (heads-quiet p h.quiet b) ∙ stmts-give p g h b) (arms-give p g h r))

  clauses-give : {A : Type 0} (p : Piece → List A) (g : Gathering A) → Agrees p g → (cs : Clauses) → picked p (clauses_pieces cs) ≡ gather_clauses g cs
  clauses-give p g h no_clauses = refl
  clauses-give p g h (clause e x (suite f l i b) r) =
      two p (header (clause_words f e x) f) (node (heads b) (stmts_pieces b) ++ clauses_pieces r) (h.handlers f l i b e x)
      (two p (node (heads b) (stmts_pieces b)) (clauses_pieces r) (silent-part p h.quiet (heads b) (stmts_pieces b) (heads-quiet p h.quiet b) ∙ stmts-give p g h b) (clauses-give p g h r))

  cases-give : {A : Type 0} (p : Piece → List A) (g : Gathering A) → Agrees p g → (cs : Cases) → picked p (cases_pieces cs) ≡ gather_cases g cs
  cases-give p g h no_cases = refl
  cases-give p g h (case q e (suite f l i b) r) =
      two p (header (case_words f q e) f) (node (heads b) (stmts_pieces b) ++ cases_pieces r) (h.patterned f l i b q e)
      (two p (node (heads b) (stmts_pieces b)) (cases_pieces r) (silent-part p h.quiet (heads b) (stmts_pieces b) (heads-quiet p h.quiet b) ∙ stmts-give p g h b) (cases-give p g h r))
