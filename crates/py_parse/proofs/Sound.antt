-- What the machine has read is what its state stands for.
use Rattle.std.proofs.Common.{◌≡◌, ℕ, Bool, true, false, cond, List, [], ◌∷◌, ◌++◌, Option, Some, None, refl, sym, ap, ◌∙◌}
use Rattle.py_operator.specs.declared.operator.BinOp.{BinOp}
use Rattle.py_token.specs.declared.token.Keyword.TheVariants as word
use Rattle.py_token.specs.declared.token.Mark.TheVariants as mark
use Rattle.py_syntax.specs.Tree.{Text, Expr, Exprs, no_exprs, exprs, Pattern}
use Rattle.py_syntax.specs.Tree.{Cases, expr, aug_assign, assert, no_arms, arm}
use Rattle.py_syntax.specs.Kinds.{Kind, Name, Word, Sign}
use Rattle.py_syntax.specs.Tokens.{tokens, pattern_tokens}
use Rattle.py_syntax.specs.Normal.{is_target, is_place}
use Rattle.py_syntax.specs.Headers.{Marked, put}
use Rattle.py_syntax.specs.Statements.{in_place_mark, case_name}
use Rattle.py_grammar.specs.Machine as expression
use Rattle.py_grammar.specs.Machine.{snoc, class}
use Rattle.py_parse_pattern.specs.Machine as pattern
use Rattle.py_grammar.proofs.Sound as read_
use Rattle.py_parse_pattern.proofs.Sound as pattern_read_
use Rattle.py_parse_pattern.proofs.Exact as pattern_
use Rattle.py_statements.specs.Open.{a_clause, a_while, a_for, an_arm, a_case, SuiteStack}
use Rattle.py_statements.specs.Machine.{Continuation, value, augmented, leaving, asserted, reason, arm_test, while_test, for_target, for_over, clause_kind, subject, guard, default, Place, Reading, Matching, Span, State, at, wanted, onward, end_simple, after_value, after_default, in_place_op, assigned, left, resume, resume_pattern}
use Rattle.py_parse.proofs.Sound.Parted.{put_append, parted}
use Rattle.py_parse.proofs.Sound.Before.{front, inner, resume_outer, outer, match_open, before_suites}
use Rattle.py_parse.proofs.Sound.BeforeParted.{front_parted, plain, moves}
use Rattle.py_parse.proofs.Sound.Valid.{ValidContinuation}
use Rattle.py_parse.proofs.Sound.Snocs.{targets_snoc, default_snoc}
use Rattle.py_parse.proofs.Sound.Parts.{ReadsTo, reads_to, Owned, owned_simple, end_simple_reads, end_header_reads, resumed, next_reads}
pub mod Before
pub mod Valid
pub mod Parted
pub mod BeforeParted
pub mod Snocs
pub mod Parts
pub mod EachStep
pub mod KeepsParts
pub mod Keeps

-- ---- after an expression

-- the token after an expression, in its statement
after : (p : Continuation) (e : Expr) (b : SuiteStack) (t : Kind) (r : List Marked) → resumed p b (tokens e (t ∷ [])) r ≡ resumed p b (tokens e []) (plain t ∷ r)
after p e b t r = ap (λ (x : List Marked). before_suites b (resume_outer p x)) (ap (λ (x : List Kind). put x r) (ap (front p) (parted e [] (t ∷ [])) ∙ front_parted p (tokens e []) (t ∷ [])) ∙ put_append (front p (tokens e [])) (t ∷ []) r)

-- an augmented operator is the mark of its operation
abbrev OpReads : Kind → Option BinOp → Type 0
OpReads t None = Unit {0}
OpReads t (Some op) = t ≡ Sign (in_place_mark op)

op_reads : (t : Kind) → OpReads t (in_place_op t)
op_reads (Sign mark.PlusEqual) = refl
op_reads (Sign mark.MinusEqual) = refl
op_reads (Sign mark.StarEqual) = refl
op_reads (Sign mark.DoubleSlashEqual) = refl
op_reads (Sign mark.PercentEqual) = refl
op_reads t = tt

value_reads : (ts : Exprs) (e : Expr) (n : Span) (b : SuiteStack) (t : Kind) (l : ℕ) (r : List Marked) → Owned b → ReadsTo (after_value ts e n b t l) r (resumed (value ts) b (tokens e []) (plain t ∷ r))
value_reads ts e n b (Sign mark.Equal) l r h = go (is_target e)
  where
    go : (c : Bool) → ReadsTo (cond c (Some (at (wanted (value (snoc ts e))) (onward n l) b)) None) r (resumed (value ts) b (tokens e []) (plain (Sign mark.Equal) ∷ r))
    go true = ap (λ (x : List Kind). before_suites b (put x r)) (targets_snoc ts e []) ∙ after (value ts) e b (Sign mark.Equal) r
    go false = tt
value_reads no_exprs e n b t l r h = go (in_place_op t) (op_reads t)
  where
    place : (op : BinOp) (c : Bool) → t ≡ Sign (in_place_mark op) → ReadsTo (cond c (Some (at (wanted (augmented e op)) (onward n l) b)) None) r (resumed (value no_exprs) b (tokens e []) (plain t ∷ r))
    place op true is = ap (λ (x : Kind). before_suites b (put (tokens e (x ∷ [])) r)) (sym is) ∙ after (value no_exprs) e b t r
    place op false is = tt

    go : (o : Option BinOp) → OpReads t o → ReadsTo (elim o as (λ (w : Option BinOp). Option State) [ Some op ↦ cond (is_place e) (Some (at (wanted (augmented e op)) (onward n l) b)) None | None ↦ end_simple (expr e) n b t l ]) r (resumed (value no_exprs) b (tokens e []) (plain t ∷ r))
    go (Some op) is = place op (is_place e) is
    go None is = end_simple_reads (expr e) n b t l r h
value_reads (exprs u us) e n b t l r h = end_simple_reads (assigned (exprs u us) e) n b t l r h

default_reads : (x : Text) (ps : List Text) (ds : Exprs) (y : Text) (e : Expr) (n : Span) (b : SuiteStack) (t : Kind) (l : ℕ) (r : List Marked) → ValidContinuation (default x ps ds y) b →
    ReadsTo (after_default x (ps ++ y ∷ []) (snoc ds e) n b t l) r (resumed (default x ps ds y) b (tokens e []) (plain t ∷ r))
default_reads x ps ds y e n b (Sign mark.Comma) l r h =
    ap (λ (z : List Kind). before_suites b (put (Word word.Def ∷ Name x ∷ Sign mark.LeftParen ∷ z) r)) (default_snoc ps ds y e true [] h.0.0)
    ∙ after (default x ps ds y) e b (Sign mark.Comma) r
default_reads x ps ds y e n b (Sign mark.RightParen) l r h =
    ap (λ (z : List Kind). before_suites b (put (Word word.Def ∷ Name x ∷ Sign mark.LeftParen ∷ z) r)) (default_snoc ps ds y e false (Sign mark.RightParen ∷ []) h.0.0)
    ∙ after (default x ps ds y) e b (Sign mark.RightParen) r
default_reads x ps ds y e n b t l r h = tt

pub resume_reads : (p : Continuation) (e : Expr) (n : Span) (b : SuiteStack) (t : Kind) (l : ℕ) (r : List Marked) → ValidContinuation p b → ReadsTo (resume p e n b t l) r (resumed p b (tokens e []) (plain t ∷ r))
resume_reads (value ts) e n b t l r h = value_reads ts e n b t l r (owned_simple b h.1)
resume_reads (augmented p op) e n b t l r h = end_simple_reads (aug_assign p op e) n b t l r (owned_simple b h.2)
resume_reads (leaving true) e n b t l r h = end_simple_reads (left true (Some e)) n b t l r (owned_simple b h)
resume_reads (leaving false) e n b t l r h = end_simple_reads (left false (Some e)) n b t l r (owned_simple b h)
resume_reads asserted e n b (Sign mark.Comma) l r h = after asserted e b (Sign mark.Comma) r
resume_reads asserted e n b t l r h = end_simple_reads (assert e None) n b t l r (owned_simple b h)
resume_reads (reason test) e n b t l r h = end_simple_reads (assert test (Some e)) n b t l r (owned_simple b h.1)
resume_reads (arm_test no_arms) e n b t l r h = end_header_reads (an_arm no_arms e) n b t l r
resume_reads (arm_test (arm t' s arms)) e n b t l r h = end_header_reads (an_arm (arm t' s arms) e) n b t l r
resume_reads while_test e n b t l r h = end_header_reads (a_while e) n b t l r
resume_reads for_target e n b (Word word.In) l r h = after for_target e b (Word word.In) r
resume_reads for_target e n b t l r h = tt
resume_reads (for_over x) e n b t l r h = end_header_reads (a_for x e) n b t l r
resume_reads (clause_kind s cs) e n b (Word word.As) l r h = after (clause_kind s cs) e b (Word word.As) r
resume_reads (clause_kind s cs) e n b t l r h = end_header_reads (a_clause s cs (Some e) None) n b t l r
resume_reads subject e n b (Sign mark.Colon) l r h = after subject e b (Sign mark.Colon) r
resume_reads subject e n b t l r h = tt
resume_reads (guard e' last cs p) e n b t l r h = end_header_reads (a_case e' last cs p (Some e)) n b t l r
resume_reads (default x ps ds y) e n b t l r h = default_reads x ps ds y e n b t l r h

-- after a pattern
matched : Expr → Cases → SuiteStack → List Kind → List Marked → List Marked
matched e cs b ks r = before_suites b (match_open e cs (put (Name case_name ∷ ks) r))

pattern_reads : (e : Expr) (last : ℕ) (cs : Cases) (p : Pattern) (n : Span) (b : SuiteStack) (t : Kind) (l : ℕ) (r : List Marked) → ReadsTo (resume_pattern e last cs p n b t l) r (before_suites b (match_open e cs (put (Name case_name ∷ pattern_tokens p []) (plain t ∷ r))))
pattern_reads e last cs p n b (Word word.If) l r = ap (λ (x : List Marked). before_suites b (match_open e cs (plain (Name case_name) ∷ x))) (ap (λ (x : List Kind). put x r) (pattern_.parted p [] (Word word.If ∷ [])) ∙ put_append (pattern_tokens p []) (Word word.If ∷ []) r)
pattern_reads e last cs p n b t l r = end_header_reads (a_case e last cs p None) n b t l r

-- ---- the steps

-- the tokens of a place and this one
abbrev pub With : Place → SuiteStack → Kind → List Marked → List Marked
With p b t r = before_suites b (outer p (put (inner p (t ∷ [])) r))

-- they are those of the place, and then the token
pub moved : (p : Place) (b : SuiteStack) (t : Kind) (r : List Marked) → With p b t r ≡ before_suites b (outer p (put (inner p []) (plain t ∷ r)))
moved p b t r = ap (λ (x : List Marked). before_suites b (outer p x)) (moves p t r)

pub reading_reads : (p : Continuation) (s : expression.State) (n : Span) (b : SuiteStack) (t : Kind) (l : ℕ) (r : List Marked) → ValidContinuation p b → (o : expression.Out) → read_.Reads (class t) (read_.before s) o →
    ReadsTo (elim o as (λ (w : expression.Out). Option State) [ expression.Next s' ↦ Some (at (Reading p s') (onward n l) b) | expression.Stuck ↦ None | expression.Left e ↦ resume p e n b t l ]) r (resumed p b (read_.before s []) (plain t ∷ r))
reading_reads p s n b t l r h (expression.Next s') reads = next_reads p b s s' t r reads ∙ moved (Reading p s) b t r
reading_reads p s n b t l r h expression.Stuck reads = tt
reading_reads p s n b t l r h (expression.Left e) reads = reads_to (resume p e n b t l) r (resumed p b (tokens e []) (plain t ∷ r)) (resumed p b (read_.before s []) (plain t ∷ r)) (resume_reads p e n b t l r h) (ap (λ (x : List Kind). resumed p b x (plain t ∷ r)) (reads []))

pub matching_reads : (e : Expr) (last : ℕ) (cs : Cases) (s : pattern.State) (n : Span) (b : SuiteStack) (t : Kind) (l : ℕ) (r : List Marked) → (o : pattern.Out) → ((x : List Kind) → pattern_read_.Reads t x (pattern_read_.before s (t ∷ x)) o) →
    ReadsTo (elim o as (λ (w : pattern.Out). Option State) [ pattern.Next s' ↦ Some (at (Matching e last cs s') (onward n l) b) | pattern.Stuck ↦ None | pattern.Left p ↦ resume_pattern e last cs p n b t l ]) r (With (Matching e last cs s) b t r)
matching_reads e last cs s n b t l r (pattern.Next s') reads = ap (λ (x : List Kind). before_suites b (match_open e cs (put (Name case_name ∷ x) r))) (reads [])
matching_reads e last cs s n b t l r pattern.Stuck reads = tt
matching_reads e last cs s n b t l r (pattern.Left p) reads =
    reads_to (resume_pattern e last cs p n b t l) r (before_suites b (match_open e cs (put (Name case_name ∷ pattern_tokens p []) (plain t ∷ r)))) (With (Matching e last cs s) b t r)
    (pattern_reads e last cs p n b t l r)
    (ap (λ (x : List Marked). before_suites b (match_open e cs (plain (Name case_name) ∷ x))) (sym (ap (λ (x : List Kind). put x r) (pattern_.parted p [] (t ∷ [])) ∙ put_append (pattern_tokens p []) (t ∷ []) r) ∙ ap (λ (x : List Kind). put x r) (reads [])))
