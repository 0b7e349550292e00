-- Code is as long as its size says, wherever it stands.
use Rattle.std.proofs.Common.{◌≡◌, ℕ, suc, ◌+◌, List, [], ◌∷◌, ◌++◌, length, Option, refl, ap, ◌∙◌, arith}
use Rattle.std.proofs.lemmas.List.{length-append}
use Rattle.py_syntax.specs.Tree.{Text, Expr, name, int, str, fstr, none, bool, tuple, list, dict, paren, not', and, or, unary, binary, compare, cond, call, index, slice, attr, Exprs, no_exprs, exprs, Pairs, no_pairs, pair, Links, no_links, link, OptExpr, absent, present, Fragments, no_fragments, plain as plain_piece, format, Parts, no_parts, text, field}
use Rattle.py_syntax.specs.Tree.{Pattern, literal, capture, wild, member, sequence, p_or, p_as, p_paren, Patterns, no_patterns, patterns}
use Rattle.py_compile_expr.specs.Cells.{Guard, Cell}
use Rattle.py_compile_expr.specs.Expressions.{expr_size, each_size, pairs_size, links_size, opt_size, fragments_size, parts_size, expr_code, each_code, pairs_code, links_code, opt_code, fragments_code, parts_code}
use Rattle.py_compile_expr.specs.Patterns.{Site, with_waiting, pattern_size, items_size, one_size, names_size, pattern_code, items_code, one_code, names_code}
use Rattle.py_compile_expr.specs.Targets.{target_size, targets_size, all_size, target_code, targets_code, all_code}

-- one after the other
pub both : (xs ys : List Cell) (m n : ℕ) → length xs ≡ m → length ys ≡ n → length (xs ++ ys) ≡ m + n
both xs ys m n e f = let long = length-append xs ys in omega arith

mutual
  pub expr_length : (g : Option Guard) (p : ℕ) (e : Expr) → length (expr_code g p e) ≡ expr_size e
  expr_length g p (name x) = refl
  expr_length g p (int n) = refl
  expr_length g p (str pieces) = refl
  expr_length g p (fstr pieces) = let h = fragments_length g (p + 1) pieces in omega arith
  expr_length g p none = refl
  expr_length g p (bool b) = refl
  expr_length g p (tuple es comma) = both (each_code g p es) _ (each_size es) 1 (each_length g p es) refl
  expr_length g p (list es comma) = both (each_code g p es) _ (each_size es) 1 (each_length g p es) refl
  expr_length g p (dict ps comma) = let h = pairs_length g (p + 1) ps in omega arith
  expr_length g p (paren e) = expr_length g p e
  expr_length g p (not' e) = both (expr_code g p e) _ (expr_size e) 1 (expr_length g p e) refl
  expr_length g p (and a b) =
      both (expr_code g p a) _ (expr_size a) (suc (expr_size b)) (expr_length g p a) (ap suc (expr_length g (p + expr_size a + 1) b)) ∙ omega arith
  expr_length g p (or a b) =
      both (expr_code g p a) _ (expr_size a) (suc (expr_size b)) (expr_length g p a) (ap suc (expr_length g (p + expr_size a + 1) b)) ∙ omega arith
  expr_length g p (unary s e) =
      ap suc (both (expr_code g (p + 1) e) _ (expr_size e) 1 (expr_length g (p + 1) e) refl) ∙ omega arith
  expr_length g p (binary op a b) =
      both (expr_code g p a) _ (expr_size a) (expr_size b + 1) (expr_length g p a) (both (expr_code g (p + expr_size a) b) _ (expr_size b) 1 (expr_length g (p + expr_size a) b) refl) ∙ omega arith
  expr_length g p (compare a links) =
      both (expr_code g p a) _ (expr_size a) (links_size links) (expr_length g p a) (links_length g (p + expr_size a) (p + expr_size a + links_size links) links)
  expr_length g p (cond body test orelse) =
      let yes = p + expr_size test + 1 in
      let no = yes + expr_size body + 1 in
      both (expr_code g p test) _ (expr_size test) (suc (expr_size body + suc (expr_size orelse))) (expr_length g p test) (ap suc (both (expr_code g yes body) _ (expr_size body) (suc (expr_size orelse)) (expr_length g yes body) (ap suc (expr_length g no orelse)))) ∙ omega arith
  expr_length g p (call (attr e x) es comma) =
      both (expr_code g p e) _ (expr_size e) (suc (each_size es + 1)) (expr_length g p e) (ap suc (both (each_code g (p + expr_size e + 1) es) _ (each_size es) 1 (each_length g (p + expr_size e + 1) es) refl)) ∙ omega arith
  expr_length g p (call e es comma) =
      both (expr_code g p e) _ (expr_size e) (each_size es + 1) (expr_length g p e) (both (each_code g (p + expr_size e) es) _ (each_size es) 1 (each_length g (p + expr_size e) es) refl) ∙ omega arith
  expr_length g p (index of at) =
      both (expr_code g p of) _ (expr_size of) (expr_size at + 1) (expr_length g p of) (both (expr_code g (p + expr_size of) at) _ (expr_size at) 1 (expr_length g (p + expr_size of) at) refl) ∙ omega arith
  expr_length g p (slice of from to) =
      both (expr_code g p of) _ (expr_size of) (opt_size from + (opt_size to + 1)) (expr_length g p of) (both (opt_code g (p + expr_size of) from) _ (opt_size from) (opt_size to + 1) (opt_length g (p + expr_size of) from) (both (opt_code g (p + expr_size of + opt_size from) to) _ (opt_size to) 1 (opt_length g (p + expr_size of + opt_size from) to) refl)) ∙ omega arith
  expr_length g p (attr e x) = both (expr_code g p e) _ (expr_size e) 1 (expr_length g p e) refl

  pub each_length : (g : Option Guard) (p : ℕ) (es : Exprs) → length (each_code g p es) ≡ each_size es
  each_length g p no_exprs = refl
  each_length g p (exprs e es) = both (expr_code g p e) _ (expr_size e) (each_size es) (expr_length g p e) (each_length g (p + expr_size e) es)

  pub pairs_length : (g : Option Guard) (p : ℕ) (ps : Pairs) → length (pairs_code g p ps) ≡ pairs_size ps
  pairs_length g p no_pairs = refl
  pairs_length g p (pair key e rest) =
      let more = p + expr_size key + expr_size e + 1 in
      both (expr_code g p key) _ (expr_size key) (expr_size e + suc (pairs_size rest)) (expr_length g p key) (both (expr_code g (p + expr_size key) e) _ (expr_size e) (suc (pairs_size rest)) (expr_length g (p + expr_size key) e) (ap suc (pairs_length g more rest))) ∙ omega arith

  pub links_length : (g : Option Guard) (p end : ℕ) (ls : Links) → length (links_code g p end ls) ≡ links_size ls
  links_length g p end no_links = refl
  links_length g p end (link op e no_links) = both (expr_code g p e) _ (expr_size e) 1 (expr_length g p e) refl
  links_length g p end (link op e (link q f rest)) =
      both (expr_code g p e) _ (expr_size e) (suc (links_size (link q f rest))) (expr_length g p e) (ap suc (links_length g (p + expr_size e + 1) end (link q f rest))) ∙ omega arith

  pub opt_length : (g : Option Guard) (p : ℕ) (o : OptExpr) → length (opt_code g p o) ≡ opt_size o
  opt_length g p absent = refl
  opt_length g p (present e) = expr_length g p e

  pub fragments_length : (g : Option Guard) (p : ℕ) (fs : Fragments) → length (fragments_code g p fs) ≡ fragments_size fs
  fragments_length g p no_fragments = refl
  fragments_length g p (plain_piece x rest) = let h = fragments_length g (p + 2) rest in omega arith
  fragments_length g p (format parts rest) =
      both (parts_code g p parts) _ (parts_size parts) (fragments_size rest) (parts_length g p parts) (fragments_length g (p + parts_size parts) rest)

  pub parts_length : (g : Option Guard) (p : ℕ) (ps : Parts) → length (parts_code g p ps) ≡ parts_size ps
  parts_length g p no_parts = refl
  parts_length g p (text x rest) = let h = parts_length g (p + 2) rest in omega arith
  parts_length g p (field e rest) =
      both (expr_code g p e) _ (expr_size e) (suc (suc (parts_size rest))) (expr_length g p e) (ap (λ n. suc (suc n)) (parts_length g (p + expr_size e + 2) rest)) ∙ omega arith

-- ---- targets

mutual
  pub target_length : (g : Option Guard) (p : ℕ) (t : Expr) → length (target_code g p t) ≡ target_size t
  target_length g p (name x) = refl
  target_length g p (int n) = refl
  target_length g p (str ps) = refl
  target_length g p (fstr fs) = refl
  target_length g p none = refl
  target_length g p (bool b) = refl
  target_length g p (tuple ts comma) = let h = targets_length g (p + 1) ts in omega arith
  target_length g p (list ts comma) = let h = targets_length g (p + 1) ts in omega arith
  target_length g p (dict ps comma) = refl
  target_length g p (paren t) = target_length g p t
  target_length g p (not' e) = refl
  target_length g p (and a b) = refl
  target_length g p (or a b) = refl
  target_length g p (unary s e) = refl
  target_length g p (binary op a b) = refl
  target_length g p (compare a ls) = refl
  target_length g p (cond b t o) = refl
  target_length g p (call f es comma) = refl
  target_length g p (index of at) =
      both (expr_code g p of) _ (expr_size of) (expr_size at + 1) (expr_length g p of) (both (expr_code g (p + expr_size of) at) _ (expr_size at) 1 (expr_length g (p + expr_size of) at) refl) ∙ omega arith
  target_length g p (slice of low high) = refl
  target_length g p (attr of x) = refl

  pub targets_length : (g : Option Guard) (p : ℕ) (ts : Exprs) → length (targets_code g p ts) ≡ targets_size ts
  targets_length g p no_exprs = refl
  targets_length g p (exprs t ts) = both (target_code g p t) _ (target_size t) (targets_size ts) (target_length g p t) (targets_length g (p + target_size t) ts)

pub all_length : (g : Option Guard) (p : ℕ) (ts : Exprs) → length (all_code g p ts) ≡ all_size ts
all_length g p no_exprs = refl
all_length g p (exprs t ts) =
    ap suc (both (target_code g (p + 1) t) _ (target_size t) (all_size ts) (target_length g (p + 1) t) (all_length g (p + 1 + target_size t) ts)) ∙ omega arith

-- ---- patterns

mutual
  pub pattern_length : (s : Site) (p : ℕ) (q : Pattern) → length (pattern_code s p q) ≡ pattern_size q
  pattern_length s p (literal minus k) = refl
  pattern_length s p (capture x) = refl
  pattern_length s p wild = refl
  pattern_length s p (member m x) = refl
  pattern_length s p (sequence brackets qs comma) = let h = items_length s (p + 1) qs in omega arith
  pattern_length s p (p_or qs) = one_length s p (p + one_size qs) qs
  pattern_length s p (p_as q x) =
      ap suc (both (pattern_code (with_waiting 1 s) (p + 1) q) _ (pattern_size q) 1 (pattern_length (with_waiting 1 s) (p + 1) q) refl) ∙ omega arith
  pattern_length s p (p_paren q) = pattern_length s p q

  pub items_length : (s : Site) (p : ℕ) (qs : Patterns) → length (items_code s p qs) ≡ items_size qs
  items_length s p no_patterns = refl
  items_length s p (patterns q qs) = both (pattern_code _ p q) _ (pattern_size q) (items_size qs) (pattern_length _ p q) (items_length _ (p + pattern_size q) qs)

  pub one_length : (s : Site) (p end : ℕ) (qs : Patterns) → length (one_code s p end qs) ≡ one_size qs
  one_length s p end no_patterns = refl
  one_length s p end (patterns q no_patterns) = pattern_length s p q
  one_length s p end (patterns q (patterns r rs)) =
      let next = p + 1 + pattern_size q + 2 in
      ap suc (both (pattern_code _ (p + 1) q) _ (pattern_size q) (suc (suc (one_size (patterns r rs)))) (pattern_length _ (p + 1) q) (ap (λ n. suc (suc n)) (one_length s next end (patterns r rs)))) ∙ omega arith

pub names_length : (g : Option Guard) (xs : List Text) → length (names_code g xs) ≡ names_size xs
names_length g [] = refl
names_length g (x ∷ xs) = let h = names_length g xs in omega arith
