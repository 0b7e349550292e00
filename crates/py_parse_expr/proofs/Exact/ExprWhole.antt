-- From the reading of one expression to what a whole list of tokens is.
use Rattle.std.proofs.Common.{◌≡◌, ℕ, ◌+◌, ◌≤◌, ◌<◌, nat_le, Bool, true, false, cond, List, [], ◌∷◌, length, drop, get_or, None, Result, Ok, Err, refl, sym, ap, subst, ◌∙◌, arith}
use Rattle.std.proofs.lemmas.Bool.{leb-true, leb-false}
use Rattle.std.proofs.lemmas.List.{length-drop, drop-drop}
use Rattle.std.specs.Result.{IsErrAnd}
use Rattle.py_token.specs.declared.token.Token.{Token}
use Rattle.py_syntax.specs.declared.expr.Expr.{Expr as Node}
use Rattle.py_syntax.specs.Spelling.{HEIGHT}
use Rattle.py_syntax.specs.Tree.{Expr}
use Rattle.py_syntax.specs.Kinds.{Kind, End}
use Rattle.py_syntax.specs.Normal.{height}
use Rattle.py_syntax.specs.View.{plain_expr}
use Rattle.py_grammar.specs.declared.error.ReadError.{ReadError}
use Rattle.py_grammar.specs.declared.error.ReadError.TheVariants as error
use Rattle.py_parse_expr.specs.declared.exprs.ExprPart.TheVariants as part_
use Rattle.py_parse_expr.specs.declared.exprs.ExprRead.{ExprRead}
use Rattle.py_grammar.specs.Machine.{any, State, Out, Next, Stuck, Left, step, start, class}
use Rattle.py_grammar.specs.Least.{least}
use Rattle.py_grammar.specs.Reading.{Ending, Unexpected, TooDeep, Reads, within, EndsAt}
use Rattle.py_grammar.specs.ExprTrees.{IsExpr}
use Rattle.py_parse_expr.specs.ExprReads.{FollowsMachine, is_end}
use Rattle.py_grammar.specs.Refusal.{Spells, IsUnexpected, IsTooDeep}
use Rattle.py_parse_expr.specs.Refusal.{Parses}
use Rattle.py_grammar.proofs.Exact.Whole.{Inside, Over, over_at, goes, next}
use Rattle.py_grammar.proofs.Exact.Stands.{Stands, stands_first, goes_on, unexpected, too_deep, whole_list}
use Rattle.py_grammar.proofs.View.Places.{kinds_of_all, kind_at, kinds_length, kind_there}
use Rattle.py_grammar.proofs.Exact.ExprPlaces.{is_exact}

-- ---- the machine's walk, place by place

abbrev LeavesAt : State → Expr → List Kind → Type 0
LeavesAt s e [] = ⊥
LeavesAt s e (t ∷ rest) = step s (class t) ≡ Left e

abbrev Outcome : ℕ → List Kind → Ending → Type 0
Outcome limit ts (Unexpected rest) = (place : ℕ) × (place ≤ length ts) × (drop place ts ≡ rest) × IsUnexpected limit ts place
Outcome limit ts (TooDeep rest) = (place : ℕ) × (place ≤ length ts) × (drop place ts ≡ rest) × IsTooDeep limit ts place
Outcome limit ts (Reads e rest) = (place : ℕ) × (place ≤ length ts) × (drop place ts ≡ rest) × (s : State) × Stands limit ts place (Inside s) × LeavesAt s e rest

drop_next : (ts : List Kind) (place : ℕ) (t : Kind) (rest : List Kind) → drop place ts ≡ t ∷ rest → drop (place + 1) ts ≡ rest
drop_next ts place t rest is = sym (drop-drop 1 place ts) ∙ ap (drop 1) is

-- no step goes on with the next token
stops : (limit : ℕ) (ts : List Kind) (place : ℕ) (s : State) (t : Kind) (rest : List Kind) → Stands limit ts place (Inside s) → drop place ts ≡ t ∷ rest → next (Inside s) t ≡ None → IsUnexpected limit ts place
stops limit ts place s t rest stands there none = unexpected limit ts place (Inside s) stands (λ h. refl) (λ u more is. let both : t ∷ rest ≡ u ∷ more = sym there ∙ is in let same : t ≡ u = cc in ap (next (Inside s)) (sym same) ∙ none)

walks : (limit : ℕ) (ts : List Kind) (place : ℕ) (s : State) (rest : List Kind) → drop place ts ≡ rest → Stands limit ts place (Inside s) → Outcome limit ts (within limit s rest)
walks limit ts place s [] there stands = (place, stands.inside, there, unexpected limit ts place (Inside s) stands (λ h. refl) (λ u more is. let both : [] ≡ u ∷ more = sym there ∙ is in absurd cc))
walks limit ts place s (t ∷ rest) there stands = go (λ n. walks limit ts (place + 1) n rest) (step s (class t)) refl
  where
    go : ((n : State) → drop (place + 1) ts ≡ rest → Stands limit ts (place + 1) (Inside n) → Outcome limit ts (within limit n rest)) → (o : Out) → step s (class t) ≡ o → Outcome limit ts (elim o as (λ (w : Out). Ending) [ Next n ↦ cond (nat_le (least n) limit) (within limit n rest) (TooDeep (t ∷ rest)) | Stuck ↦ Unexpected (t ∷ rest) | Left e ↦ Reads e (t ∷ rest) ])
    go rec (Next n) is = fits (nat_le (least n) limit) refl
      where
        fits : (b : Bool) → nat_le (least n) limit ≡ b → Outcome limit ts (cond b (within limit n rest) (TooDeep (t ∷ rest)))
        fits true low = rec n (drop_next ts place t rest there) (goes_on limit ts place (Inside s) (Inside n) t rest stands there (ap (λ (o : Out). goes o t) is) (leb-true (least n) limit low))
        fits false high = (place, stands.inside, there, too_deep limit ts place (Inside s) (Inside n) t rest stands there (ap (λ (o : Out). goes o t) is) (let above = leb-false (least n) limit high in omega arith))
    go rec Stuck is = (place, stands.inside, there, stops limit ts place s t rest stands there (ap (λ (o : Out). goes o t) is))
    go rec (Left e) is = (place, stands.inside, there, s, stands, is)

same_place : (ts : List Kind) (p q : ℕ) → p ≤ length ts → q ≤ length ts → drop p ts ≡ drop q ts → p ≡ q
same_place ts p q one two is = let lengths = ap length is in omega (arith, length-drop p ts, length-drop q ts)

outcome : (ts : List Kind) (place : ℕ) (end : List Kind → Ending) → EndsAt HEIGHT (start any) ts 0 place end → Outcome HEIGHT ts (end (drop place ts))
outcome ts place end h = subst (Outcome HEIGHT ts) h.ends (walks HEIGHT ts 0 (start any) ts refl (stands_first HEIGHT ts (omega arith)))

pub read_unexpected : (ts : List Kind) (place : ℕ) → EndsAt HEIGHT (start any) ts 0 place Unexpected → IsUnexpected HEIGHT ts place
read_unexpected ts place h = let o = outcome ts place Unexpected h in subst (IsUnexpected HEIGHT ts) (same_place ts o.0 place o.1 h.inside o.2) o.3

pub read_deep : (ts : List Kind) (place : ℕ) → EndsAt HEIGHT (start any) ts 0 place TooDeep → IsTooDeep HEIGHT ts place
read_deep ts place h = let o = outcome ts place TooDeep h in subst (IsTooDeep HEIGHT ts) (same_place ts o.0 place o.1 h.inside o.2) o.3

-- ---- after an expression

-- a token stands there
pub read_some : (ts : List Kind) (place : ℕ) (e : Expr) → EndsAt HEIGHT (start any) ts 0 place (Reads e) → place < length ts
read_some ts place e h = let o = outcome ts place (Reads e) h in go (drop place ts) refl o.5
  where
    go : (rest : List Kind) → drop place ts ≡ rest → LeavesAt (outcome ts place (Reads e) h).3 e rest → place < length ts
    go [] is leaves = absurd leaves
    go (t ∷ rest) is leaves = let lengths = ap length is in let inside = h.inside in omega (arith, length-drop place ts)

low : (ts : List Kind) (place : ℕ) (e : Expr) (t : Kind) (rest : List Kind) → drop place ts ≡ t ∷ rest → EndsAt HEIGHT (start any) ts 0 place (Reads e) → height e ≤ HEIGHT
low ts place e t rest there h =
    let parted = (is_exact any HEIGHT ts 0 place tt (omega arith)).reads e h in
    (subst (IsExpr any HEIGHT e parted.0) there parted.2).2

abbrev At : List Kind → ℕ → Expr → Kind → Type 0
At ts place e t = (s : State) × Stands HEIGHT ts place (Inside s) × (step s (class t) ≡ Left e)

leaves : (ts : List Kind) (place : ℕ) (e : Expr) (t : Kind) (rest : List Kind) → drop place ts ≡ t ∷ rest → EndsAt HEIGHT (start any) ts 0 place (Reads e) → At ts place e t
leaves ts place e t rest there h =
    let o = outcome ts place (Reads e) h in
    (o.3, subst (λ (p : ℕ). Stands HEIGHT ts p (Inside o.3)) (same_place ts o.0 place o.1 h.inside o.2) o.4, subst (LeavesAt o.3 e) there o.5)

over_other : (e : Expr) (t : Kind) → is_end t ≡ false → over_at e t ≡ None
over_other e End h = absurd cc
over_other e t h = refl

end_is : (t : Kind) → is_end t ≡ true → t ≡ End
end_is End h = refl
end_is t h = absurd cc

-- another token than the end
pub read_other : (ts : List Kind) (place : ℕ) (e : Expr) (t : Kind) (rest : List Kind) → drop place ts ≡ t ∷ rest → EndsAt HEIGHT (start any) ts 0 place (Reads e) → is_end t ≡ false → IsUnexpected HEIGHT ts place
read_other ts place e t rest there h other =
    let l = leaves ts place e t rest there h in
    stops HEIGHT ts place l.0 t rest l.1 there (ap (λ (o : Out). goes o t) l.2 ∙ over_other e t other)

-- the end
ended : (ts : List Kind) (place : ℕ) (e : Expr) (t : Kind) (rest : List Kind) → drop place ts ≡ t ∷ rest → EndsAt HEIGHT (start any) ts 0 place (Reads e) → is_end t ≡ true → Stands HEIGHT ts (place + 1) (Over e)
ended ts place e t rest there h is =
    let l = leaves ts place e t rest there h in
    goes_on HEIGHT ts place (Inside l.0) (Over e) t rest l.1 there (ap (λ (o : Out). goes o t) l.2 ∙ ap (over_at e) (end_is t is)) (low ts place e t rest there h)

-- more after the end
pub read_more : (ts : List Kind) (place : ℕ) (e : Expr) (t : Kind) (rest : List Kind) → drop place ts ≡ t ∷ rest → EndsAt HEIGHT (start any) ts 0 place (Reads e) → is_end t ≡ true → place + 1 < length ts → IsUnexpected HEIGHT ts (place + 1)
read_more ts place e t rest there h is lt = unexpected HEIGHT ts (place + 1) (Over e) (ended ts place e t rest there h is) (λ at_end. absurd (omega arith)) (λ u more here. refl)

-- nothing after the end
pub read_whole : (ts : List Kind) (place : ℕ) (e : Expr) (t : Kind) (rest : List Kind) → drop place ts ≡ t ∷ rest → EndsAt HEIGHT (start any) ts 0 place (Reads e) → is_end t ≡ true → length ts ≤ place + 1 → Spells e ts × (height e ≤ HEIGHT)
read_whole ts place e t rest there h is le =
    let stands = ended ts place e t rest there h is in
    let inside = stands.inside in
    let all : place + 1 ≡ length ts = omega arith in
    whole_list HEIGHT ts e (subst (λ (p : ℕ). Stands HEIGHT ts p (Over e)) all stands)

-- ---- the code's answers

module _ (tokens : List Token) (r : ExprRead) (t : Token) (h : FollowsMachine (kinds_of_all tokens) 0 part_.Any (Ok r)) where
  pub place_there : r.next < length tokens
  place_there = let lt = read_some (kinds_of_all tokens) r.next (plain_expr r.expr.value) h in let same = kinds_length tokens in omega arith

  pub answer_other : false ≡ is_end (kind_at (get_or tokens r.next t)) → IsUnexpected HEIGHT (kinds_of_all tokens) r.next
  answer_other is = read_other (kinds_of_all tokens) r.next (plain_expr r.expr.value) (kind_at (get_or tokens r.next t)) (drop (r.next + 1) (kinds_of_all tokens)) (kind_there tokens r.next t place_there) h (sym is)

  pub answer_more : true ≡ is_end (kind_at (get_or tokens r.next t)) → r.next + 1 < length tokens → IsUnexpected HEIGHT (kinds_of_all tokens) (r.next + 1)
  answer_more is lt = let same = kinds_length tokens in read_more (kinds_of_all tokens) r.next (plain_expr r.expr.value) (kind_at (get_or tokens r.next t)) (drop (r.next + 1) (kinds_of_all tokens)) (kind_there tokens r.next t place_there) h (sym is) (omega arith)

  pub answer_whole : (n : Node) → n ≡ r.expr.value → true ≡ is_end (kind_at (get_or tokens r.next t)) → length tokens ≤ r.next + 1 → Spells (plain_expr n) (kinds_of_all tokens) × (height (plain_expr n) ≤ HEIGHT)
  answer_whole n one is le = let same = kinds_length tokens in subst (λ (x : Node). Spells (plain_expr x) (kinds_of_all tokens) × (height (plain_expr x) ≤ HEIGHT)) (sym one) (read_whole (kinds_of_all tokens) r.next (plain_expr r.expr.value) (kind_at (get_or tokens r.next t)) (drop (r.next + 1) (kinds_of_all tokens)) (kind_there tokens r.next t place_there) h (sym is) (omega arith))

refused : (ts : List Kind) (e : ReadError) → FollowsMachine ts 0 part_.Any (Err e) → Parses ts (Err e)
refused ts (error.Unexpected place) h = read_unexpected ts place h
refused ts (error.TooDeep place) h = read_deep ts place h
refused ts error.NoMemory h = tt

pub answer_refused : (ts : List Kind) (e : ReadError) (r : Result Node ReadError) → IsErrAnd r (λ y. y ≡ e) → FollowsMachine ts 0 part_.Any (Err e) → Parses ts r
answer_refused ts e (Ok n) is h = absurd is
answer_refused ts e (Err y) is h = subst (λ (x : ReadError). Parses ts (Err x)) (sym is) (refused ts e h)

-- a token stands after an expression that was read
pub next_inside : (tokens : List Token) (place : ℕ) (e : Expr) → EndsAt HEIGHT (start any) (kinds_of_all tokens) 0 place (Reads e) → place < length tokens
next_inside tokens place e h = let inside = read_some (kinds_of_all tokens) place e h in let same = kinds_length tokens in omega arith
