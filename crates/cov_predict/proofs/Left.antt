-- The ways by which a part is left, from those of its parts.
use Rattle.std.proofs.Common.{◌≡◌, ℕ, ◌≤◌, Bool, true, false, Option, Some, None, List, [], ◌∷◌, ◌++◌, length, drop, refl, ap, sym, ◌∙◌}
use Rattle.std.proofs.Math.Bool.{or_assoc}
use Rattle.std.proofs.Math.ListN.{drop_of_length-le}
use Rattle.std.specs.Prelude.{◌||◌, ◌&&◌, not, is_some}
use Rattle.std.proofs.lemmas.Bool.{false≢true}
use Rattle.py_syntax.specs.FirstMarks.{only}
use Rattle.py_syntax.specs.LastMarks.{Way, onward, breaking, continuing, returning, raising, is_onward, is_raising, own_way, may_raise, onward_only, past_loop, past_try, past_finally, comes}
use Rattle.cov_predict.specs.Leaving.{IsFirst, way_of, IsLeft}
use Rattle.cov_predict.specs.Steps.{MayRaise, GoesOnward, Unites}
use Rattle.cov_predict.specs.declared.ways.Ways.{Ways}
use Rattle.cov_predict.proofs.Hits.{or_false, and_true, and_false}

pub comes-append : (xs ys : List ℕ) → comes (xs ++ ys) ≡ (comes xs || comes ys)
comes-append [] ys = refl
comes-append (x ∷ xs) ys = refl

pub comes-only : (b : Bool) (xs : List ℕ) → comes (only b xs) ≡ (b && comes xs)
comes-only true xs = refl
comes-only false xs = refl

pub comes-mark : (b : Bool) (l : ℕ) → comes (only b (l ∷ [])) ≡ b
comes-mark true l = refl
comes-mark false l = refl

pub either : (a b c d : Bool) → a ≡ b → c ≡ d → (a || c) ≡ (b || d)
either a b c d e f = ap (λ z. z || c) e ∙ ap (λ z. b || z) f

pub united_ways : (a b : Ways) (f g : Way → List ℕ) → IsLeft a f → IsLeft b g
    → IsLeft (record { onward = a.onward || b.onward; breaking = a.breaking || b.breaking; continuing = a.continuing || b.continuing; returning = a.returning || b.returning; raising = a.raising || b.raising }) (λ w. f w ++ g w)
united_ways a b f g h k onward = either _ _ _ _ (h onward) (k onward) ∙ sym (comes-append (f onward) (g onward))
united_ways a b f g h k breaking = either _ _ _ _ (h breaking) (k breaking) ∙ sym (comes-append (f breaking) (g breaking))
united_ways a b f g h k continuing = either _ _ _ _ (h continuing) (k continuing) ∙ sym (comes-append (f continuing) (g continuing))
united_ways a b f g h k returning = either _ _ _ _ (h returning) (k returning) ∙ sym (comes-append (f returning) (g returning))
united_ways a b f g h k raising = either _ _ _ _ (h raising) (k raising) ∙ sym (comes-append (f raising) (g raising))

pub no_way : IsLeft (record { onward = false; breaking = false; continuing = false; returning = false; raising = false }) (λ w. [])
no_way onward = refl
no_way breaking = refl
no_way continuing = refl
no_way returning = refl
no_way raising = refl

mark-if : (b : Bool) (l : ℕ) → b ≡ comes (only b (l ∷ []))
mark-if b l = sym (comes-mark b l)

pub raising_way : (any : Bool) (l : ℕ) → IsLeft (record { onward = false; breaking = false; continuing = false; returning = false; raising = any }) (λ w. may_raise any w l)
raising_way any l onward = sym (comes-mark (any && false) l ∙ and_false any)
raising_way any l breaking = sym (comes-mark (any && false) l ∙ and_false any)
raising_way any l continuing = sym (comes-mark (any && false) l ∙ and_false any)
raising_way any l returning = sym (comes-mark (any && false) l ∙ and_false any)
raising_way any l raising = sym (comes-mark (any && true) l ∙ and_true any)

pub onward_way : (b : Bool) (ls : List ℕ) → b ≡ comes ls → IsLeft (record { onward = b; breaking = false; continuing = false; returning = false; raising = false }) (λ w. onward_only w ls)
onward_way b ls e onward = e
onward_way b ls e breaking = refl
onward_way b ls e continuing = refl
onward_way b ls e returning = refl
onward_way b ls e raising = refl

pub plain_way : (any : Bool) (l : ℕ) → IsLeft (record { onward = true; breaking = false; continuing = false; returning = false; raising = any }) (λ w. own_way onward any w l)
plain_way any l onward = refl
plain_way any l breaking = sym (comes-mark (any && false) l ∙ and_false any)
plain_way any l continuing = sym (comes-mark (any && false) l ∙ and_false any)
plain_way any l returning = sym (comes-mark (any && false) l ∙ and_false any)
plain_way any l raising = sym (comes-mark (any && true) l ∙ and_true any)

pub break_way : (any : Bool) (l : ℕ) → IsLeft (record { onward = false; breaking = true; continuing = false; returning = false; raising = any }) (λ w. own_way breaking any w l)
break_way any l onward = sym (comes-mark (any && false) l ∙ and_false any)
break_way any l breaking = refl
break_way any l continuing = sym (comes-mark (any && false) l ∙ and_false any)
break_way any l returning = sym (comes-mark (any && false) l ∙ and_false any)
break_way any l raising = sym (comes-mark (any && true) l ∙ and_true any)

pub continue_way : (any : Bool) (l : ℕ) → IsLeft (record { onward = false; breaking = false; continuing = true; returning = false; raising = any }) (λ w. own_way continuing any w l)
continue_way any l onward = sym (comes-mark (any && false) l ∙ and_false any)
continue_way any l breaking = sym (comes-mark (any && false) l ∙ and_false any)
continue_way any l continuing = refl
continue_way any l returning = sym (comes-mark (any && false) l ∙ and_false any)
continue_way any l raising = sym (comes-mark (any && true) l ∙ and_true any)

pub return_way : (any : Bool) (l : ℕ) → IsLeft (record { onward = false; breaking = false; continuing = false; returning = true; raising = any }) (λ w. own_way returning any w l)
return_way any l onward = sym (comes-mark (any && false) l ∙ and_false any)
return_way any l breaking = sym (comes-mark (any && false) l ∙ and_false any)
return_way any l continuing = sym (comes-mark (any && false) l ∙ and_false any)
return_way any l returning = refl
return_way any l raising = sym (comes-mark (any && true) l ∙ and_true any)

pub raise_way : (any : Bool) (l : ℕ) → IsLeft (record { onward = false; breaking = false; continuing = false; returning = false; raising = true }) (λ w. own_way raising any w l)
raise_way any l onward = sym (comes-mark (any && false) l ∙ and_false any)
raise_way any l breaking = sym (comes-mark (any && false) l ∙ and_false any)
raise_way any l continuing = sym (comes-mark (any && false) l ∙ and_false any)
raise_way any l returning = sym (comes-mark (any && false) l ∙ and_false any)
raise_way any l raising = refl

pub before_ways : (empty : Bool) (a : Ways) (f : Way → List ℕ) → IsLeft a f → IsLeft (record a { onward = empty && a.onward }) (λ w. only (not (is_onward w) || empty) (f w))
before_ways empty a f h onward = ap (λ z. empty && z) (h onward) ∙ sym (comes-only empty (f onward))
before_ways empty a f h breaking = h breaking
before_ways empty a f h continuing = h continuing
before_ways empty a f h returning = h returning
before_ways empty a f h raising = h raising

pub loop_ways : (a : Ways) (f : Way → List ℕ) → IsLeft a f → IsLeft (record a { onward = a.breaking; breaking = false; continuing = false }) (λ w. past_loop w (f breaking) (f w))
loop_ways a f h onward = h breaking
loop_ways a f h breaking = refl
loop_ways a f h continuing = refl
loop_ways a f h returning = h returning
loop_ways a f h raising = h raising

pub try_ways : (empty tried passed : Bool) (a : Ways) (l : ℕ) (f : Way → List ℕ) → IsLeft a f
    → IsLeft (record a { onward = passed && (a.onward || empty); raising = not tried && a.raising }) (λ w. past_try w tried passed (f onward ++ only empty (l ∷ [])) (f w))
try_ways empty tried passed a l f h onward =
    ap (λ z. passed && z) (either _ _ _ _ (h onward) (sym (comes-mark empty l)) ∙ sym (comes-append (f onward) (only empty (l ∷ []))))
    ∙ sym (comes-only passed (f onward ++ only empty (l ∷ [])))
try_ways empty tried passed a l f h breaking = h breaking
try_ways empty tried passed a l f h continuing = h continuing
try_ways empty tried passed a l f h returning = h returning
try_ways empty tried passed a l f h raising = ap (λ z. not tried && z) (h raising) ∙ sym (comes-only (not tried) (f raising))

-- the ways through a `finally` suite, onward and by another way
through-onward : (c e s : Bool) → (c && (s || e)) ≡ ((c && s) || ((e && c) || false))
through-onward true true true = refl
through-onward true true false = refl
through-onward true false true = refl
through-onward true false false = refl
through-onward false true s = refl
through-onward false false s = refl

through-other : (c e s l : Bool) → ((c && (s || e)) || l) ≡ ((c && s) || ((e && c) || l))
through-other true true true l = refl
through-other true true false l = refl
through-other true false true l = refl
through-other true false false l = refl
through-other false true s l = refl
through-other false false s l = refl

finally-comes : (w : Way) (e : Bool) (came ended left : List ℕ) → comes (past_finally w e came ended left) ≡ ((comes came && comes ended) || ((e && comes came) || (not (is_onward w) && comes left)))
finally-comes w e came ended left =
    comes-append (only (comes came) ended) (only e came ++ only (not (is_onward w)) left)
    ∙ either _ _ _ _ (comes-only (comes came) ended) (comes-append (only e came) (only (not (is_onward w)) left) ∙ either _ _ _ _ (comes-only e came) (comes-only (not (is_onward w)) left))

by-another : (w : Way) (e c s l : Bool) (came ended left : List ℕ) → not (is_onward w) ≡ true → c ≡ comes came → s ≡ comes ended → l ≡ comes left → ((c && (s || e)) || l) ≡ comes (past_finally w e came ended left)
by-another w e c s l came ended left other hc hs hl =
    through-other c e s l
    ∙ either _ _ _ _ (ap (λ z. z && s) hc ∙ ap (λ z. comes came && z) hs) (either _ _ _ _ (ap (λ z. e && z) hc) (hl ∙ ap (λ z. z && comes left) (sym other)))
    ∙ sym (finally-comes w e came ended left)

pub finally_ways : (e : Bool) (a b : Ways) (f g : Way → List ℕ) → IsLeft a f → IsLeft b g
    → IsLeft (record {
      onward = a.onward && (b.onward || e);
      breaking = (a.breaking && (b.onward || e)) || b.breaking;
      continuing = (a.continuing && (b.onward || e)) || b.continuing;
      returning = (a.returning && (b.onward || e)) || b.returning;
      raising = (a.raising && (b.onward || e)) || b.raising;
    }) (λ w. past_finally w e (f w) (g onward) (g w))
finally_ways e a b f g h k onward =
    through-onward a.onward e b.onward
    ∙ either _ _ _ _ (ap (λ z. z && b.onward) (h onward) ∙ ap (λ z. comes (f onward) && z) (k onward)) (ap (λ z. (e && z) || false) (h onward))
    ∙ sym (finally-comes onward e (f onward) (g onward) (g onward))
finally_ways e a b f g h k breaking = by-another breaking e a.breaking b.onward b.breaking (f breaking) (g onward) (g breaking) refl (h breaking) (k onward) (k breaking)
finally_ways e a b f g h k continuing = by-another continuing e a.continuing b.onward b.continuing (f continuing) (g onward) (g continuing) refl (h continuing) (k onward) (k continuing)
finally_ways e a b f g h k returning = by-another returning e a.returning b.onward b.returning (f returning) (g onward) (g returning) refl (h returning) (k onward) (k returning)
finally_ways e a b f g h k raising = by-another raising e a.raising b.onward b.raising (f raising) (g onward) (g raising) refl (h raising) (k onward) (k raising)

-- either part's ways, one by one
pub or-is : (a b r : Ways) → ((f g : Way → List ℕ) → IsLeft a f → IsLeft b g → IsLeft r (λ w. f w ++ g w)) → (w : Way) → way_of r w ≡ (way_of a w || way_of b w)
or-is a b r u w =
    u (λ v. only (way_of a v) (0 ∷ [])) (λ v. only (way_of b v) (0 ∷ [])) (λ v. sym (comes-mark (way_of a v) 0)) (λ v. sym (comes-mark (way_of b v) 0)) w
    ∙ comes-append (only (way_of a w) (0 ∷ [])) (only (way_of b w) (0 ∷ []))
    ∙ either _ _ _ _ (comes-mark (way_of a w) 0) (comes-mark (way_of b w) 0)

-- the end of a loop over parts
pub ended_ways : {X : Type 0} (F : Way → List X → List ℕ) → ((w : Way) → F w [] ≡ []) → (left : Ways) (xs : List X) (i : ℕ) → length xs ≤ i
    → ((w : Way) → (way_of left w || comes (F w (drop i xs))) ≡ comes (F w xs)) → IsLeft left (λ w. F w xs)
ended_ways F none left xs i le h w =
    sym (or_false (way_of left w))
    ∙ ap (λ z. way_of left w || comes z) (sym (ap (F w) (drop_of_length-le xs le) ∙ none w))
    ∙ h w

-- one more part
pub next_ways : (left by next : Ways) (F : Way → List ℕ) → ((f g : Way → List ℕ) → IsLeft left f → IsLeft by g → IsLeft next (λ w. f w ++ g w)) → IsLeft by F
    → (w : Way) (all rest total : Bool) → all ≡ (comes (F w) || rest) → (way_of left w || all) ≡ total → (way_of next w || rest) ≡ total
next_ways left by next F u h w all rest total e k =
    ap (λ z. z || rest) (or-is left by next u w)
    ∙ or_assoc (way_of left w) (way_of by w) rest
    ∙ ap (λ z. way_of left w || (z || rest)) (h w)
    ∙ ap (λ z. way_of left w || z) (sym e)
    ∙ k

-- ---- from no way

pub onward_of : (n : Ways) (b : Bool) (ls : List ℕ) → IsLeft n (λ w. []) → b ≡ comes ls → IsLeft (record n { onward = b }) (λ w. onward_only w ls)
onward_of n b ls h e onward = e
onward_of n b ls h e breaking = h breaking
onward_of n b ls h e continuing = h continuing
onward_of n b ls h e returning = h returning
onward_of n b ls h e raising = h raising

pub raising_of : (n : Ways) (any : Bool) (l : ℕ) → IsLeft n (λ w. []) → IsLeft (record n { raising = any }) (λ w. may_raise any w l)
raising_of n any l h onward = h onward ∙ sym (comes-mark (any && false) l ∙ and_false any)
raising_of n any l h breaking = h breaking ∙ sym (comes-mark (any && false) l ∙ and_false any)
raising_of n any l h continuing = h continuing ∙ sym (comes-mark (any && false) l ∙ and_false any)
raising_of n any l h returning = h returning ∙ sym (comes-mark (any && false) l ∙ and_false any)
raising_of n any l h raising = sym (comes-mark (any && true) l ∙ and_true any)

pub through_ways : (e : Bool) (a b r : Ways)
    → r.onward ≡ (a.onward && (b.onward || e)) → r.breaking ≡ ((a.breaking && (b.onward || e)) || b.breaking) → r.continuing ≡ ((a.continuing && (b.onward || e)) || b.continuing)
    → r.returning ≡ ((a.returning && (b.onward || e)) || b.returning) → r.raising ≡ ((a.raising && (b.onward || e)) || b.raising)
    → (f g : Way → List ℕ) → IsLeft a f → IsLeft b g → IsLeft r (λ w. past_finally w e (f w) (g onward) (g w))
through_ways e a b r e1 e2 e3 e4 e5 f g h k onward = e1 ∙ finally_ways e a b f g h k onward
through_ways e a b r e1 e2 e3 e4 e5 f g h k breaking = e2 ∙ finally_ways e a b f g h k breaking
through_ways e a b r e1 e2 e3 e4 e5 f g h k continuing = e3 ∙ finally_ways e a b f g h k continuing
through_ways e a b r e1 e2 e3 e4 e5 f g h k returning = e4 ∙ finally_ways e a b f g h k returning
through_ways e a b r e1 e2 e3 e4 e5 f g h k raising = e5 ∙ finally_ways e a b f g h k raising

-- whether a part is empty, by its first mark
pub first-empty : (r : Option ℕ) (ms : List ℕ) (e : Bool) → IsFirst r ms e → (b : Bool) → is_some r ≡ not b → b ≡ e
first-empty None ms e h true k = sym h.1
first-empty None ms e h false k = absurd (false≢true k)
first-empty (Some l) ms e h true k = absurd (false≢true (sym k))
first-empty (Some l) ms e h false k = sym h.1

not_is : (x y : Bool) → not x ≡ y → x ≡ not y
not_is true y h = ap not h
not_is false y h = ap not h

-- and whether there is one
pub first-there : (r : Option ℕ) (ms : List ℕ) (x : Bool) → IsFirst r ms (not x) → (b : Bool) → b ≡ is_some r → b ≡ x
first-there None ms x h b k = k ∙ sym (not_is x true h.1)
first-there (Some l) ms x h b k = k ∙ sym (not_is x false h.1)

-- a header, what goes on after it, and what is taken
pub three_ways : (any : Bool) (l : ℕ) (marks : Bool) (ms : List ℕ) (g : Way → List ℕ) (taken header onward' inner whole : Ways) → marks ≡ comes ms → IsLeft taken g
    → MayRaise any header → GoesOnward marks onward' → Unites onward' taken inner → Unites header inner whole → IsLeft whole (λ w. may_raise any w l ++ (onward_only w ms ++ g w))
three_ways any l marks ms g taken header onward' inner whole e h r o u v =
    v (λ w. may_raise any w l) (λ w. onward_only w ms ++ g w) (r l) (u (λ w. onward_only w ms) g (o ms e) h)
