-- Words are the same exactly where their parts are.
use Rattle.std.proofs.Common.{◌≡◌, ℕ, nat_eq, ℤ, Bool, true, false, ◌&&◌, List, [], ◌∷◌, ◌++◌, Option, Some, None, refl, ap, sym, ◌∙◌, append_assoc}
use Rattle.std.proofs.lemmas.Bool.{false≢true}
use Rattle.std.proofs.lemmas.List.{append-nil}
use Rattle.py_operator.specs.declared.operator.BinOp.{BinOp}
use Rattle.py_operator.specs.declared.operator.BinOp.TheVariants.{Add, Sub, Mul, Floor, Mod}
use Rattle.py_operator.specs.declared.operator.CmpOp.TheVariants.{Eq, Ne, Lt, Le, Gt, Ge, In, NotIn}
use Rattle.py_text.specs.Comparison.{is_same_text}
use Rattle.py_syntax.specs.declared.expr.Comparison.{Comparison}
use Rattle.py_syntax.specs.declared.expr.Comparison.TheVariants.{Op, Is, IsNot}
use Rattle.py_syntax.specs.declared.expr.Sign.{Sign}
use Rattle.py_syntax.specs.declared.expr.Sign.TheVariants.{Minus, Plus}
use Rattle.py_syntax.specs.declared.pattern.Brackets.{Brackets}
use Rattle.py_syntax.specs.declared.pattern.Brackets.TheVariants.{Round, Square, Bare}
use Rattle.py_syntax.specs.Tree.{Text, Expr, name, int, str, fstr, none, bool, tuple, list, dict, paren, not', and, or, unary, binary, compare, cond, call, index, slice, attr, Exprs, no_exprs, exprs, Pairs, no_pairs, pair, Links, no_links, link, OptExpr, absent, present, Fragments, no_fragments, plain, format, Parts, no_parts, text, field}
use Rattle.py_syntax.specs.Tree.{Constant, c_int, c_str, c_none, c_bool, Pattern, literal, capture, wild, member, sequence, p_or, p_as, p_paren, Patterns, no_patterns, patterns, Alias}
use Rattle.py_changes.specs.Same.{same_bool, same_int, same_operator, same_comparison, same_sign, same_brackets, same_list, same_option, same_texts, same_alias, same_expr, same_exprs, same_pairs, same_links, same_opt, same_fragments, same_parts, same_maybe, same_constant, same_pattern, same_patterns}
use Rattle.cov_changed.specs.Compared.{same_word, same_words}
use Rattle.cov_pieces.specs.Words.{Word, a_number, an_int, a_text, assigned, truth, operator_number, comparison_number, sign_number, brackets_number, named, list_words, text_words, texts_words, expr_words, exprs_words, pairs_words, links_words, opt_words, fragments_words, parts_words, maybe_words, constant_words, pattern_words, patterns_words, import_words, alias_words, bound_words}

-- Two rows of words tell whether something is the same, whatever follows.
pub record Tells (us vs : List Word) (b : Bool) : Type 0 where
  pub tells : (xs ys : List Word) → same_words (us ++ xs) (vs ++ ys) ≡ (b && same_words xs ys)

pub tells-at : {us vs : List Word} {b : Bool} → Tells us vs b → (xs ys : List Word) → same_words (us ++ xs) (vs ++ ys) ≡ (b && same_words xs ys)
tells-at h xs ys = h.tells xs ys

-- ---- laws of tests

pub and_assoc : (a b c : Bool) → (a && b && c) ≡ (a && (b && c))
and_assoc true b c = refl
and_assoc false b c = refl

pub and_true : (a : Bool) → (a && true) ≡ a
and_true true = refl
and_true false = refl

pub and_false : (a : Bool) → (a && false) ≡ false
and_false true = refl
and_false false = refl

pub and_comm : (a b : Bool) → (a && b) ≡ (b && a)
and_comm true b = sym (and_true b)
and_comm false b = sym (and_false b)

pub first : (a b : Bool) → (a && b) ≡ true → a ≡ true
first true b h = refl
first false b h = absurd (false≢true h)

pub second : (a b : Bool) → (a && b) ≡ true → b ≡ true
second true b h = h
second false b h = absurd (false≢true h)

-- whether whole rows are the same
pub entire : {us vs : List Word} {b : Bool} → Tells us vs b → same_words us vs ≡ b
entire {us = us} {vs = vs} {b = b} h =
    ap (λ l. same_words l vs) (sym (append-nil us)) ∙ ap (λ l. same_words (us ++ []) l) (sym (append-nil vs)) ∙ tells-at h [] [] ∙ and_true b

-- ---- words put together

-- nothing
pub nothing : Tells [] [] true
nothing = record { tells = λ xs ys. refl }

-- one word each
pub word : {v w : Word} {b : Bool} → same_word v w ≡ b → Tells (v ∷ []) (w ∷ []) b
word e = record { tells = λ xs ys. ap (λ c. c && same_words xs ys) e }

-- one part after another
pub also : {us vs ws zs : List Word} {b c : Bool} → Tells us vs b → Tells ws zs c → Tells (us ++ ws) (vs ++ zs) (b && c)
also {us = us} {vs = vs} {ws = ws} {zs = zs} {b = b} {c = c} h k = record {
  tells = λ xs ys.
      ap (λ l. same_words l ((vs ++ zs) ++ ys)) (append_assoc us ws xs)
      ∙ ap (λ l. same_words (us ++ (ws ++ xs)) l) (append_assoc vs zs ys)
      ∙ tells-at h (ws ++ xs) (zs ++ ys) ∙ ap (λ t. b && t) (tells-at k xs ys)
      ∙ sym (and_assoc b c (same_words xs ys));
}

-- behind a number that both have
pub numbered : {us vs : List Word} {b : Bool} (n : ℕ) → nat_eq n n ≡ true → Tells us vs b → Tells (a_number n ∷ us) (a_number n ∷ vs) b
numbered {us = us} {vs = vs} {b = b} n e h = record {
  tells = λ xs ys. ap (λ t. t && same_words (us ++ xs) (vs ++ ys)) e ∙ tells-at h xs ys;
}

-- behind a word
pub behind : {us vs : List Word} {v w : Word} {b c : Bool} → same_word v w ≡ b → Tells us vs c → Tells (v ∷ us) (w ∷ vs) (b && c)
behind e h = also (word e) h

-- by another name
pub renamed : {us vs : List Word} {b c : Bool} → b ≡ c → Tells us vs b → Tells us vs c
renamed {us = us} {vs = vs} e h = record { tells = λ xs ys. tells-at h xs ys ∙ ap (λ t. t && same_words xs ys) e }

-- rows that differ at once
pub apart : {us vs : List Word} → ((xs ys : List Word) → same_words (us ++ xs) (vs ++ ys) ≡ false) → Tells us vs false
apart h = record { tells = h }

-- ---- what stands in nodes

pub truth-is : (b c : Bool) → same_word (truth b) (truth c) ≡ same_bool b c
truth-is true true = refl
truth-is true false = refl
truth-is false true = refl
truth-is false false = refl

pub operator-is : (a b : BinOp) → nat_eq (operator_number a) (operator_number b) ≡ same_operator a b
operator-is Add Add = refl
operator-is Sub Sub = refl
operator-is Mul Mul = refl
operator-is Floor Floor = refl
operator-is Mod Mod = refl
operator-is a b = refl

pub comparison-is : (a b : Comparison) → nat_eq (comparison_number a) (comparison_number b) ≡ same_comparison a b
comparison-is (Op Eq) (Op Eq) = refl
comparison-is (Op Ne) (Op Ne) = refl
comparison-is (Op Lt) (Op Lt) = refl
comparison-is (Op Le) (Op Le) = refl
comparison-is (Op Gt) (Op Gt) = refl
comparison-is (Op Ge) (Op Ge) = refl
comparison-is (Op In) (Op In) = refl
comparison-is (Op NotIn) (Op NotIn) = refl
comparison-is Is Is = refl
comparison-is IsNot IsNot = refl
comparison-is Is (Op Eq) = refl
comparison-is IsNot (Op Eq) = refl
comparison-is a b = refl

pub sign-is : (a b : Sign) → nat_eq (sign_number a) (sign_number b) ≡ same_sign a b
sign-is Minus Minus = refl
sign-is Plus Plus = refl
sign-is a b = refl

pub brackets-is : (a b : Brackets) → nat_eq (brackets_number a) (brackets_number b) ≡ same_brackets a b
brackets-is Round Round = refl
brackets-is Square Square = refl
brackets-is Bare Bare = refl
brackets-is a b = refl

pub named-is : (to : Bool) (x y : Text) → same_word (named to x) (named to y) ≡ is_same_text x y
named-is true x y = refl
named-is false x y = refl

-- one text each, and one truth value each
pub texts : (x y : Text) → Tells (a_text x ∷ []) (a_text y ∷ []) (is_same_text x y)
texts x y = word refl

pub names : (x y : Text) → Tells (assigned x ∷ []) (assigned y ∷ []) (is_same_text x y)
names x y = word refl

pub truths : (b c : Bool) → Tells (truth b ∷ []) (truth c ∷ []) (same_bool b c)
truths b c = word (truth-is b c)

pub lines : (l m : ℕ) → Tells (a_number l ∷ []) (a_number m ∷ []) (nat_eq l m)
lines l m = word refl

pub operators : (a b : BinOp) → Tells (a_number (operator_number a) ∷ []) (a_number (operator_number b) ∷ []) (same_operator a b)
operators a b = word (operator-is a b)

pub ints : (m n : ℤ) → Tells (an_int m ∷ []) (an_int n ∷ []) (same_int m n)
ints m n = word refl

pub list-is : {A : Type 0} (words : A → List Word) (same : A → A → Bool) → ((a b : A) → Tells (words a) (words b) (same a b))
    → (us vs : List A) → Tells (list_words words us) (list_words words vs) (same_list same us vs)
list-is words same h [] [] = numbered 0 refl nothing
list-is words same h (a ∷ us) (b ∷ vs) = numbered 1 refl (also (h a b) (list-is words same h us vs))
list-is words same h [] (b ∷ vs) = apart (λ xs ys. refl)
list-is words same h (a ∷ us) [] = apart (λ xs ys. refl)

pub texts-is : (xs ys : List Text) → Tells (texts_words xs) (texts_words ys) (same_texts xs ys)
texts-is xs ys = list-is text_words is_same_text texts xs ys

-- ---- expressions

mutual
  pub expr-is : (to : Bool) (a b : Expr) → Tells (expr_words to a) (expr_words to b) (same_expr a b)
  expr-is to (name x) (name y) = numbered 0 refl (word (named-is to x y))
  expr-is to (int m) (int n) = numbered 1 refl (ints m n)
  expr-is to (str ps) (str qs) = numbered 2 refl (texts-is ps qs)
  expr-is to (fstr fs) (fstr gs) = numbered 3 refl (fragments-is fs gs)
  expr-is to none none = numbered 4 refl nothing
  expr-is to (bool b) (bool c) = numbered 5 refl (truths b c)
  expr-is to (tuple es c) (tuple fs d) = numbered 6 refl (also (exprs-is to es fs) (truths c d))
  expr-is to (list es c) (list fs d) = numbered 7 refl (also (exprs-is to es fs) (truths c d))
  expr-is to (dict ps c) (dict qs d) = numbered 8 refl (also (pairs-is ps qs) (truths c d))
  expr-is to (paren e) (paren f) = numbered 9 refl (expr-is to e f)
  expr-is to (not' e) (not' f) = numbered 10 refl (expr-is false e f)
  expr-is to (and a b) (and c d) = numbered 11 refl (also (expr-is false a c) (expr-is false b d))
  expr-is to (or a b) (or c d) = numbered 12 refl (also (expr-is false a c) (expr-is false b d))
  expr-is to (unary s e) (unary t f) = numbered 13 refl (behind (sign-is s t) (expr-is false e f))
  expr-is to (binary op a b) (binary oq c d) =
      numbered 14 refl (behind (operator-is op oq) (also (expr-is false a c) (expr-is false b d)))
  expr-is to (compare a ls) (compare b ms) =
      numbered 15 refl (also (expr-is false a b) (links-is ls ms))
  expr-is to (cond a b c) (cond d e f) =
      numbered 16 refl (also (expr-is false a d) (also (expr-is false b e) (expr-is false c f)))
  expr-is to (call f es c) (call g fs d) =
      numbered 17 refl (also (expr-is false f g) (also (exprs-is false es fs) (truths c d)))
  expr-is to (index f e) (index g d) =
      numbered 18 refl (also (expr-is false f g) (expr-is false e d))
  expr-is to (slice f a b) (slice g c d) =
      numbered 19 refl (also (expr-is false f g) (also (opt-is a c) (opt-is b d)))
  expr-is to (attr f x) (attr g y) = numbered 20 refl (also (expr-is false f g) (texts x y))
  expr-is to a b = apart (λ xs ys. refl)

  pub exprs-is : (to : Bool) (a b : Exprs) → Tells (exprs_words to a) (exprs_words to b) (same_exprs a b)
  exprs-is to no_exprs no_exprs = numbered 0 refl nothing
  exprs-is to (exprs e es) (exprs f fs) = numbered 1 refl (also (expr-is to e f) (exprs-is to es fs))
  exprs-is to a b = apart (λ xs ys. refl)

  pairs-is : (a b : Pairs) → Tells (pairs_words a) (pairs_words b) (same_pairs a b)
  pairs-is no_pairs no_pairs = numbered 0 refl nothing
  pairs-is (pair k e ps) (pair j f qs) =
      numbered 1 refl (also (expr-is false k j) (also (expr-is false e f) (pairs-is ps qs)))
  pairs-is a b = apart (λ xs ys. refl)

  links-is : (a b : Links) → Tells (links_words a) (links_words b) (same_links a b)
  links-is no_links no_links = numbered 0 refl nothing
  links-is (link c e ls) (link d f ms) =
      numbered 1 refl (behind (comparison-is c d) (also (expr-is false e f) (links-is ls ms)))
  links-is a b = apart (λ xs ys. refl)

  opt-is : (a b : OptExpr) → Tells (opt_words a) (opt_words b) (same_opt a b)
  opt-is absent absent = numbered 0 refl nothing
  opt-is (present e) (present f) = numbered 1 refl (expr-is false e f)
  opt-is a b = apart (λ xs ys. refl)

  fragments-is : (a b : Fragments) → Tells (fragments_words a) (fragments_words b) (same_fragments a b)
  fragments-is no_fragments no_fragments = numbered 0 refl nothing
  fragments-is (plain x fs) (plain y gs) =
      numbered 1 refl (behind {b = is_same_text x y} refl (fragments-is fs gs))
  fragments-is (format ps fs) (format qs gs) =
      numbered 2 refl (also (parts-is ps qs) (fragments-is fs gs))
  fragments-is a b = apart (λ xs ys. refl)

  parts-is : (a b : Parts) → Tells (parts_words a) (parts_words b) (same_parts a b)
  parts-is no_parts no_parts = numbered 0 refl nothing
  parts-is (text x ps) (text y qs) =
      numbered 1 refl (behind {b = is_same_text x y} refl (parts-is ps qs))
  parts-is (field e ps) (field f qs) =
      numbered 2 refl (also (expr-is false e f) (parts-is ps qs))
  parts-is a b = apart (λ xs ys. refl)

pub maybe-is : (a b : Option Expr) → Tells (maybe_words a) (maybe_words b) (same_maybe a b)
maybe-is None None = numbered 0 refl nothing
maybe-is (Some e) (Some f) = numbered 1 refl (expr-is false e f)
maybe-is None (Some f) = apart (λ xs ys. refl)
maybe-is (Some e) None = apart (λ xs ys. refl)

-- ---- patterns, and names that statements bind

constant-is : (a b : Constant) → Tells (constant_words a) (constant_words b) (same_constant a b)
constant-is (c_int m) (c_int n) = numbered 0 refl (ints m n)
constant-is (c_str ps) (c_str qs) = numbered 1 refl (texts-is ps qs)
constant-is c_none c_none = numbered 2 refl nothing
constant-is (c_bool b) (c_bool c) = numbered 3 refl (truths b c)
constant-is a b = apart (λ xs ys. refl)

mutual
  pub pattern-is : (a b : Pattern) → Tells (pattern_words a) (pattern_words b) (same_pattern a b)
  pattern-is (literal m c) (literal n d) = numbered 0 refl (behind (truth-is m n) (constant-is c d))
  pattern-is (capture x) (capture y) = numbered 1 refl (names x y)
  pattern-is wild wild = numbered 2 refl nothing
  pattern-is (member m x) (member n y) =
      numbered 3 refl (behind {b = is_same_text m n} refl (texts x y))
  pattern-is (sequence b ps c) (sequence d qs e) =
      numbered 4 refl (behind (brackets-is b d) (also (patterns-is ps qs) (truths c e)))
  pattern-is (p_or ps) (p_or qs) = numbered 5 refl (patterns-is ps qs)
  pattern-is (p_as p x) (p_as q y) = numbered 6 refl (also (pattern-is p q) (names x y))
  pattern-is (p_paren p) (p_paren q) = numbered 7 refl (pattern-is p q)
  pattern-is a b = apart (λ xs ys. refl)

  patterns-is : (a b : Patterns) → Tells (patterns_words a) (patterns_words b) (same_patterns a b)
  patterns-is no_patterns no_patterns = numbered 0 refl nothing
  patterns-is (patterns p ps) (patterns q qs) =
      numbered 1 refl (also (pattern-is p q) (patterns-is ps qs))
  patterns-is a b = apart (λ xs ys. refl)

import-is : (x y : Text) (m n : Option Text) → Tells (import_words x m) (import_words y n) (is_same_text x y && same_option is_same_text m n)
import-is x y None None = renamed (sym (and_true (is_same_text x y))) (numbered 0 refl (names x y))
import-is x y (Some u) (Some v) = numbered 1 refl (behind {b = is_same_text x y} refl (names u v))
import-is x y None (Some v) = renamed (sym (and_false (is_same_text x y))) (apart (λ xs ys. refl))
import-is x y (Some u) None = renamed (sym (and_false (is_same_text x y))) (apart (λ xs ys. refl))

pub alias-is : (a b : Alias) → Tells (alias_words a) (alias_words b) (same_alias a b)
alias-is a b = import-is a.name b.name a.bound b.bound

pub aliases-is : (us vs : List Alias) → Tells (list_words alias_words us) (list_words alias_words vs) (same_list same_alias us vs)
aliases-is us vs = list-is alias_words same_alias alias-is us vs

pub bound-is : (a b : Option Text) → Tells (bound_words a) (bound_words b) (same_option is_same_text a b)
bound-is None None = numbered 0 refl nothing
bound-is (Some x) (Some y) = numbered 1 refl (names x y)
bound-is None (Some y) = apart (λ xs ys. refl)
bound-is (Some x) None = apart (λ xs ys. refl)
