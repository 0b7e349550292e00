-- Expressions and patterns on a line: what their own machines read of a list of tokens, the machine of statements reads.
use Rattle.std.proofs.Common.{◌≡◌, ℕ, suc, Bool, true, false, cond, List, [], ◌∷◌, ◌++◌, Option, Some, None, refl, sym, ap, ◌∙◌}
use Rattle.py_syntax.specs.Tree.{Expr, Cases, Pattern}
use Rattle.py_syntax.specs.Kinds.{Kind}
use Rattle.py_syntax.specs.Tokens.{tokens, pattern_tokens}
use Rattle.py_syntax.specs.Normal.{Normal, NormalPattern, is_target}
use Rattle.py_syntax.specs.Headers.{Marked, put}
use Rattle.py_syntax.specs.Statements.{NormalExpr}
use Rattle.py_grammar.specs.TokenClasses.{TokenClass, begins}
use Rattle.py_grammar.specs.Machine as expression
use Rattle.py_grammar.specs.Machine.{Goal, any, one, target, start, class, Leaves}
use Rattle.py_parse_pattern.specs.Machine as pattern
use Rattle.py_grammar.proofs.Sound.Spelled.{outcome}
use Rattle.py_grammar.proofs.Complete.Opens.{opens}
use Rattle.py_grammar.proofs.Least.Finish.{Closes}
use Rattle.py_grammar.proofs.Complete.Targets.{reads_any, reads_one, reads_target}
use Rattle.py_parse_pattern.proofs.Complete as pattern_
use Rattle.py_parse_pattern.proofs.Complete.{IsOver, reads_all}
use Rattle.py_parse_pattern.proofs.Exact as pattern_exact
use Rattle.py_statements.specs.Open.{SuiteStack}
use Rattle.py_statements.specs.Machine.{Continuation, Reading, Matching, Span, State, at, onward, reads, resume, resume_pattern, step}
use Rattle.py_statements.proofs.View.Wanted.{any_begins, one_begins}
use Rattle.py_parse.specs.Places.{Source, kinds_past, last_before, run}
use Rattle.py_parse.proofs.Sound.Parted.{parted, put_append, put_parted}

-- ---- words

-- a token at which no header begins
abbrev pub plain : Kind → Marked
plain t = record { kind = t; header = false }

-- the lines at a place of a statement, of which a part began on the second line
abbrev pub lines : Source → ℕ → ℕ → ℕ → Span
lines src g f p = record { begun = g; first = f; last = last_before src p }

-- reading on after a step
abbrev pub after : Source → Option State → List Marked → ℕ → Option State
after src o ms p = elim o as (λ (w : Option State). Option State) [ None ↦ None | Some n ↦ run src n ms p ]

-- the place after an expression, and after a pattern
abbrev pub past : Expr → ℕ → ℕ
past e p = kinds_past (tokens e []) p

abbrev pub pattern_past : Pattern → ℕ → ℕ
pattern_past c p = kinds_past (pattern_tokens c []) p

pub past_append : (a c : List Kind) (p : ℕ) → kinds_past (a ++ c) p ≡ kinds_past c (kinds_past a p)
past_append [] c p = refl
past_append (k ∷ a) c p = past_append a c (suc p)

pub past_parted : (e : Expr) (a : List Kind) (p : ℕ) → kinds_past (tokens e a) p ≡ kinds_past a (past e p)
past_parted e a p = ap (λ (ks : List Kind). kinds_past ks p) (parted e [] a) ∙ past_append (tokens e []) a p

pub past_pattern : (c : Pattern) (a : List Kind) (p : ℕ) → kinds_past (pattern_tokens c a) p ≡ kinds_past a (pattern_past c p)
past_pattern c a p = ap (λ (ks : List Kind). kinds_past ks p) (pattern_exact.parted c [] a) ∙ past_append (pattern_tokens c []) a p

long : (u t : Kind) (us : List Kind) → u ∷ (us ++ t ∷ []) ≡ t ∷ [] → ⊥
long u t [] h = cc
long u t (v ∷ us) h = cc

-- ---- expressions

-- what a token does inside an expression
abbrev took : expression.Out → Continuation → Span → SuiteStack → Kind → ℕ → Option State
took o r n b t l = elim o as (λ (w : expression.Out). Option State) [ expression.Next s ↦ Some (at (Reading r s) (onward n l) b) | expression.Stuck ↦ None | expression.Left e ↦ resume r e n b t l ]

-- The tokens up to that at which the expression is left.
reading : (ts : List Kind) (t : Kind) (s : expression.State) (e : Expr) → expression.run s (ts ++ t ∷ []) ≡ Leaves e (t ∷ []) → (src : Source) (r : Continuation) (g f : ℕ) (b : SuiteStack) (rest : List Marked) (p : ℕ) →
    run src (at (Reading r s) (lines src g f p) b) (put ts (plain t ∷ rest)) p ≡ after src (resume r e (lines src g f (kinds_past ts p)) b t (src.last (kinds_past ts p))) rest (suc (kinds_past ts p))
reading [] t s e h src r g f b rest p = go (expression.step s (class t)) h
  where
    go : (o : expression.Out) → outcome o t [] ≡ Leaves e (t ∷ []) → after src (took o r (lines src g f p) b t (src.last p)) rest (suc p) ≡ after src (resume r e (lines src g f p) b t (src.last p)) rest (suc p)
    go (expression.Next n) h = absurd cc
    go expression.Stuck h = absurd cc
    go (expression.Left m) h = let same : m ≡ e = cc in ap (λ (x : Expr). after src (resume r x (lines src g f p) b t (src.last p)) rest (suc p)) same
reading (u ∷ us) t s e h src r g f b rest p = go (λ n h. reading us t n e h src r g f b rest (suc p)) (expression.step s (class u)) h
  where
    go : ((n : expression.State) → expression.run n (us ++ t ∷ []) ≡ Leaves e (t ∷ []) → run src (at (Reading r n) (lines src g f (suc p)) b) (put us (plain t ∷ rest)) (suc p) ≡ after src (resume r e (lines src g f (kinds_past us (suc p))) b t (src.last (kinds_past us (suc p)))) rest (suc (kinds_past us (suc p)))) →
        (o : expression.Out) → outcome o u (us ++ t ∷ []) ≡ Leaves e (t ∷ []) → after src (took o r (lines src g f p) b u (src.last p)) (put us (plain t ∷ rest)) (suc p) ≡ after src (resume r e (lines src g f (kinds_past us (suc p))) b t (src.last (kinds_past us (suc p)))) rest (suc (kinds_past us (suc p)))
    go rec (expression.Next n) h = rec n h
    go rec expression.Stuck h = absurd cc
    go rec (expression.Left m) h = let same : u ∷ (us ++ t ∷ []) ≡ t ∷ [] = cc in absurd (long u t us same)

-- The machine of expressions reads the tree in front of the token, for this goal.
abbrev pub Spelt : Goal → Expr → Kind → Type 0
Spelt g e t = expression.run (start g) (tokens e (t ∷ [])) ≡ Leaves e (t ∷ [])

pub any_spelt : (e : Expr) (t : Kind) → Normal e → Closes any (class t) → Spelt any e t
any_spelt e t n c = reads_any e n t [] c

pub one_spelt : (e : Expr) (t : Kind) → NormalExpr e → Closes one (class t) → Spelt one e t
one_spelt e t n c = reads_one e n.1 n.0 t [] c

pub target_spelt : (e : Expr) (t : Kind) → Normal e → is_target e ≡ true → Closes target (class t) → Spelt target e t
target_spelt e t n is c = reads_target e n is t [] c

-- An expression on a line, with the token after it.
pub on_line : (g : Goal) (e : Expr) (t : Kind) → Spelt g e t → (src : Source) (r : Continuation) (c f : ℕ) (b : SuiteStack) (a : List Kind) (rest : List Marked) (p : ℕ) →
    run src (at (Reading r (start g)) (lines src c f p) b) (put (tokens e (t ∷ a)) rest) p ≡ after src (resume r e (lines src c f (past e p)) b t (src.last (past e p))) (put a rest) (suc (past e p))
on_line g e t h src r c f b a rest p =
    ap (λ (ms : List Marked). run src (at (Reading r (start g)) (lines src c f p) b) ms p) (put_parted e (t ∷ a) rest)
    ∙ reading (tokens e []) t (start g) e (ap (expression.run (start g)) (sym (parted e [] (t ∷ []))) ∙ h) src r c f b (put a rest) p

-- the same where the list of the line ends with the expression
pub ends_line : (g : Goal) (e : Expr) (t : Kind) → Spelt g e t → (src : Source) (r : Continuation) (c f : ℕ) (b : SuiteStack) (rest : List Marked) (p : ℕ) →
    run src (at (Reading r (start g)) (lines src c f p) b) (put (tokens e []) (plain t ∷ rest)) p ≡ after src (resume r e (lines src c f (past e p)) b t (src.last (past e p))) rest (suc (past e p))
ends_line g e t h src r c f b rest p = reading (tokens e []) t (start g) e (ap (expression.run (start g)) (sym (parted e [] (t ∷ []))) ∙ h) src r c f b rest p

-- ---- expressions whose first token is taken by another place

-- such an expression, or one with no commas
abbrev pub goal_of : Bool → Goal
goal_of alone = cond alone one any

reads_first : (alone : Bool) (t : TokenClass) (r : Continuation) (n : Span) (b : SuiteStack) (x : Expr → Option State) → reads r n b (expression.step (start (goal_of alone)) t) ≡ elim (expression.step (start (goal_of alone)) t) as (λ (w : expression.Out). Option State) [ expression.Next s ↦ Some (at (Reading r s) n b) | expression.Stuck ↦ None | expression.Left e ↦ x e ]
reads_first true t r n b x = sym (one_begins t r n b x)
reads_first false t r n b x = sym (any_begins t r n b x)

-- A state that takes the first token like the place where the expression begins reads it like that.
pub begins_elsewhere : (alone : Bool) (s : State) (r : Continuation) (c f : ℕ) (b : SuiteStack) (e : Expr) → Normal e → (src : Source) (p : ℕ) →
    ((h : Kind) → begins (class h) ≡ true → step s (plain h) (src.first p) (src.last p) ≡ reads r (lines src c f (suc p)) b (expression.step (start (goal_of alone)) (class h))) → (a : List Kind) (rest : List Marked) →
    run src s (put (tokens e a) rest) p ≡ run src (at (Reading r (start (goal_of alone))) (lines src c f p) b) (put (tokens e a) rest) p
begins_elsewhere alone s r c f b e n src p takes a rest =
    let first = opens e a n in
    ap (λ (ts : List Kind). run src s (put ts rest) p) first.2
    ∙ ap (λ (o : Option State). after src o (put first.1 rest) (suc p)) (takes first.0 first.3 ∙ reads_first alone (class first.0) r (lines src c f (suc p)) b (λ m. resume r m (lines src c f p) b first.0 (src.last p)))
    ∙ ap (λ (ts : List Kind). run src (at (Reading r (start (goal_of alone))) (lines src c f p) b) (put ts rest) p) (sym first.2)

-- ---- patterns

abbrev matched : pattern.Out → Expr → ℕ → Cases → Span → SuiteStack → Kind → ℕ → Option State
matched o e last cs n b t l = elim o as (λ (w : pattern.Out). Option State) [ pattern.Next s ↦ Some (at (Matching e last cs s) (onward n l) b) | pattern.Stuck ↦ None | pattern.Left c ↦ resume_pattern e last cs c n b t l ]

matching : (ts : List Kind) (t : Kind) (s : pattern.State) (c : Pattern) → pattern.run s (ts ++ t ∷ []) ≡ pattern.Leaves c (t ∷ []) → (src : Source) (e : Expr) (last : ℕ) (cs : Cases) (g f : ℕ) (b : SuiteStack) (rest : List Marked) (p : ℕ) →
    run src (at (Matching e last cs s) (lines src g f p) b) (put ts (plain t ∷ rest)) p ≡ after src (resume_pattern e last cs c (lines src g f (kinds_past ts p)) b t (src.last (kinds_past ts p))) rest (suc (kinds_past ts p))
matching [] t s c h src e last cs g f b rest p = go (pattern.step s t) h
  where
    go : (o : pattern.Out) → pattern_.outcome o t [] ≡ pattern.Leaves c (t ∷ []) → after src (matched o e last cs (lines src g f p) b t (src.last p)) rest (suc p) ≡ after src (resume_pattern e last cs c (lines src g f p) b t (src.last p)) rest (suc p)
    go (pattern.Next n) h = absurd cc
    go pattern.Stuck h = absurd cc
    go (pattern.Left m) h = let same : m ≡ c = cc in ap (λ (x : Pattern). after src (resume_pattern e last cs x (lines src g f p) b t (src.last p)) rest (suc p)) same
matching (u ∷ us) t s c h src e last cs g f b rest p = go (λ n h. matching us t n c h src e last cs g f b rest (suc p)) (pattern.step s u) h
  where
    go : ((n : pattern.State) → pattern.run n (us ++ t ∷ []) ≡ pattern.Leaves c (t ∷ []) → run src (at (Matching e last cs n) (lines src g f (suc p)) b) (put us (plain t ∷ rest)) (suc p) ≡ after src (resume_pattern e last cs c (lines src g f (kinds_past us (suc p))) b t (src.last (kinds_past us (suc p)))) rest (suc (kinds_past us (suc p)))) →
        (o : pattern.Out) → pattern_.outcome o u (us ++ t ∷ []) ≡ pattern.Leaves c (t ∷ []) → after src (matched o e last cs (lines src g f p) b u (src.last p)) (put us (plain t ∷ rest)) (suc p) ≡ after src (resume_pattern e last cs c (lines src g f (kinds_past us (suc p))) b t (src.last (kinds_past us (suc p)))) rest (suc (kinds_past us (suc p)))
    go rec (pattern.Next n) h = rec n h
    go rec pattern.Stuck h = absurd cc
    go rec (pattern.Left m) h = let same : u ∷ (us ++ t ∷ []) ≡ t ∷ [] = cc in absurd (long u t us same)

-- A pattern on a line, with the token after it.
pub pattern_on_line : (c : Pattern) (t : Kind) → NormalPattern c → IsOver t → (src : Source) (e : Expr) (last : ℕ) (cs : Cases) (g f : ℕ) (b : SuiteStack) (a : List Kind) (rest : List Marked) (p : ℕ) →
    run src (at (Matching e last cs pattern.start) (lines src g f p) b) (put (pattern_tokens c (t ∷ a)) rest) p ≡ after src (resume_pattern e last cs c (lines src g f (pattern_past c p)) b t (src.last (pattern_past c p))) (put a rest) (suc (pattern_past c p))
pattern_on_line c t n over src e last cs g f b a rest p =
    ap (λ (ks : List Kind). run src (at (Matching e last cs pattern.start) (lines src g f p) b) (put ks rest) p) (pattern_exact.parted c [] (t ∷ a))
    ∙ ap (λ (ms : List Marked). run src (at (Matching e last cs pattern.start) (lines src g f p) b) ms p) (put_append (pattern_tokens c []) (t ∷ a) rest)
    ∙ matching (pattern_tokens c []) t pattern.start c (ap (pattern.run pattern.start) (sym (pattern_exact.parted c [] (t ∷ []))) ∙ reads_all c t [] n over) src e last cs g f b (put a rest) p
