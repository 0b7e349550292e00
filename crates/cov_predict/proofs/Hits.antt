-- Which arcs a list has: a test for one arc, and how it goes over the lists that make up a walk and a prediction.
use Rattle.std.proofs.Common.{◌≡◌, ℕ, ℤ, pos, negsuc, Bool, true, false, if◌then◌else◌, List, [], ◌∷◌, ◌++◌, map, nat_eq, refl, ap, sym, subst, ◌∙◌}
use Rattle.std.specs.Prelude.{◌||◌, ◌&&◌, not}
use Rattle.std.specs.List.{list_any}
use Rattle.std.specs.Ordering.{eq_by_cmp, int_eq}
use Rattle.std.proofs.Math.Bool.{or_comm, or_assoc}
use Rattle.std.specs.Cmp.{unsigned_Decides, signed_Decides}
use Rattle.std.specs.Bool.{one_answer}
use Rattle.std.proofs.lemmas.List.Folds.{list_any-append}
use Rattle.py_syntax.specs.FirstMarks.{only}
use Rattle.py_syntax.specs.Neighbours.{Pair, followed, joined, turned}
use Rattle.py_syntax.specs.Prediction.{Arc, by_ends}
use Rattle.cov_predict.specs.Walk.{Target, arc_to, arcs_to, entering, turn}

-- ---- choices

pub or_left : (a b c : Bool) → (a || (b || c)) ≡ (b || (a || c))
or_left true true c = refl
or_left true false c = refl
or_left false true c = refl
or_left false false c = refl

pub or_same : (a : Bool) → (a || a) ≡ a
or_same true = refl
or_same false = refl

pub or_same_left : (a b : Bool) → (a || (a || b)) ≡ (a || b)
or_same_left true b = refl
or_same_left false b = refl

pub or_false : (a : Bool) → (a || false) ≡ a
or_false true = refl
or_false false = refl

pub and_or : (a b c : Bool) → (a && (b || c)) ≡ ((a && b) || (a && c))
and_or true b c = refl
and_or false b c = refl

pub and_false : (a : Bool) → (a && false) ≡ false
and_false true = refl
and_false false = refl

pub and_true : (a : Bool) → (a && true) ≡ a
and_true true = refl
and_true false = refl

pub and_together : (a b c : Bool) → ((a && b) && c) ≡ (a && (b && c))
and_together true b c = refl
and_together false b c = refl

pub middle : (a b c d : Bool) → ((a || b) || (c || d)) ≡ ((a || c) || (b || d))
middle true b c d = refl
middle false true true d = refl
middle false true false d = refl
middle false false c d = refl

pub ruleset choices = (and_together, and_or, and_false, and_true, or_false, or_assoc, or_comm, or_left, or_same, or_same_left)

at_least : ℤ → ℕ
at_least (pos n) = n
at_least (negsuc n) = 0

pub same_line : (l m : ℕ) → nat_eq l m ≡ int_eq (pos l) (pos m)
unfolding at_least
same_line l m =
    let z = signed_Decides (pos l) (pos m) in
    one_answer {P = l ≡ m} (nat_eq l m) (int_eq (pos l) (pos m)) (unsigned_Decides l m) (λ e. ap at_least (z.0 e), λ e. z.1 (ap pos e))

-- ---- one arc

module _ (q : Arc) where
  -- whether the list has it
  unfoldable pub hits : List Arc → Bool
  hits arcs = list_any (eq_by_cmp by_ends q) arcs

  pub hits-append : (xs ys : List Arc) → hits (xs ++ ys) ≡ (hits xs || hits ys)
  unfolding hits
  hits-append xs ys = list_any-append (eq_by_cmp by_ends q) xs ys

  pub hits-none : hits [] ≡ false
  unfolding hits
  hits-none = refl

  pub hits-if : (b : Bool) (xs : List Arc) → hits (if b then xs else []) ≡ (b && hits xs)
  unfolding hits
  hits-if true xs = refl
  hits-if false xs = refl

  pub hits-unless : (b : Bool) (xs : List Arc) → hits (if b then [] else xs) ≡ (not b && hits xs)
  unfolding hits
  hits-unless true xs = refl
  hits-unless false xs = refl

  -- from one mark to targets
  unfoldable pub from : ℕ → List Target → Bool
  from l ts = hits (arcs_to (pos l) ts)

  pub hits-arcs_to : (l : ℕ) (ts : List Target) → hits (arcs_to (pos l) ts) ≡ from l ts
  unfolding from
  hits-arcs_to l ts = refl

  pub from-none : (l : ℕ) → from l [] ≡ false
  unfolding from hits
  from-none l = refl

  pub from-append : (l : ℕ) (ts us : List Target) → from l (ts ++ us) ≡ (from l ts || from l us)
  unfolding from
  from-append l [] us = ap (λ b. b || hits (arcs_to (pos l) us)) (sym hits-none)
  from-append l (t ∷ ts) us =
      hits-append (arc_to (pos l) t) (arcs_to (pos l) (ts ++ us))
      ∙ ap (λ b. hits (arc_to (pos l) t) || b) (from-append l ts us)
      ∙ sym (or_assoc (hits (arc_to (pos l) t)) (hits (arcs_to (pos l) ts)) (hits (arcs_to (pos l) us)))
      ∙ ap (λ b. b || hits (arcs_to (pos l) us)) (sym (hits-append (arc_to (pos l) t) (arcs_to (pos l) ts)))

  pub from-if : (l : ℕ) (b : Bool) (ts : List Target) → from l (if b then ts else []) ≡ (b && from l ts)
  from-if l true ts = refl
  from-if l false ts = from-none l

  -- to first marks
  unfoldable pub firsts : List ℕ → List Target
  firsts ms = map (λ m. (pos m, false)) ms

  pub from-entering : (l : ℕ) (ms : List ℕ) (e : Bool) (ts : List Target) → from l (entering ms e ts) ≡ (from l (firsts ms) || (e && from l ts))
  unfolding firsts
  from-entering l ms e ts = from-append l (firsts ms) (if e then ts else []) ∙ ap (λ b. from l (firsts ms) || b) (from-if l e ts)

  -- from marks to targets
  unfoldable pub all_from : List ℕ → List Target → Bool
  all_from [] ts = false
  all_from (l ∷ ls) ts = from l ts || all_from ls ts

  pub all_from-none : (ts : List Target) → all_from [] ts ≡ false
  unfolding all_from
  all_from-none ts = refl

  pub all_from-one : (l : ℕ) (ts : List Target) → all_from (l ∷ []) ts ≡ from l ts
  unfolding all_from
  all_from-one l ts = or_false (from l ts)

  pub all_from-append : (xs ys : List ℕ) (ts : List Target) → all_from (xs ++ ys) ts ≡ (all_from xs ts || all_from ys ts)
  unfolding all_from
  all_from-append [] ys ts = refl
  all_from-append (x ∷ xs) ys ts = ap (λ b. from x ts || b) (all_from-append xs ys ts) ∙ sym (or_assoc (from x ts) (all_from xs ts) (all_from ys ts))

  pub all_from-only : (b : Bool) (xs : List ℕ) (ts : List Target) → all_from (only b xs) ts ≡ (b && all_from xs ts)
  unfolding all_from
  all_from-only true xs ts = refl
  all_from-only false xs ts = refl

  pub all_from-nowhere : (xs : List ℕ) → all_from xs [] ≡ false
  unfolding all_from
  all_from-nowhere [] = refl
  all_from-nowhere (x ∷ xs) = ap (λ b. b || all_from xs []) (from-none x) ∙ all_from-nowhere xs

  pub all_from-both : (xs : List ℕ) (ts us : List Target) → all_from xs (ts ++ us) ≡ (all_from xs ts || all_from xs us)
  unfolding all_from
  all_from-both [] ts us = refl
  all_from-both (x ∷ xs) ts us = ap (λ b. b || all_from xs (ts ++ us)) (from-append x ts us) ∙ ap (λ b. (from x ts || from x us) || b) (all_from-both xs ts us) ∙ middle (from x ts) (from x us) (all_from xs ts) (all_from xs us)

  pub all_from-if : (xs : List ℕ) (b : Bool) (ts : List Target) → all_from xs (if b then ts else []) ≡ (b && all_from xs ts)
  all_from-if xs true ts = refl
  all_from-if xs false ts = all_from-nowhere xs

  pub all_from-entering : (xs ms : List ℕ) (e : Bool) (ts : List Target) → all_from xs (entering ms e ts) ≡ (all_from xs (firsts ms) || (e && all_from xs ts))
  unfolding firsts
  all_from-entering xs ms e ts = all_from-both xs (firsts ms) (if e then ts else []) ∙ ap (λ b. all_from xs (firsts ms) || b) (all_from-if xs e ts)

  -- pairs of marks
  unfoldable pub has_pair : List Pair → Bool
  has_pair ps = hits (map (λ p. (pos p.0, pos p.1)) ps)

  pub has_pair-none : has_pair [] ≡ false
  unfolding has_pair hits
  has_pair-none = refl

  pub has_pair-append : (ps qs : List Pair) → has_pair (ps ++ qs) ≡ (has_pair ps || has_pair qs)
  unfolding has_pair hits
  has_pair-append [] qs = refl
  has_pair-append (p ∷ ps) qs = ap (λ b. eq_by_cmp by_ends q (pos p.0, pos p.1) || b) (has_pair-append ps qs) ∙ sym (or_assoc (eq_by_cmp by_ends q (pos p.0, pos p.1)) (has_pair ps) (has_pair qs))

  followed-step : (l m : ℕ) (ms : List ℕ) (b c : Bool) → b ≡ c → has_pair (followed l ms) ≡ from l (firsts ms)
      → has_pair (if b then followed l ms else (l, m) ∷ followed l ms) ≡ hits ((if c && true then [] else (pos l, pos m) ∷ []) ++ arcs_to (pos l) (firsts ms))
  unfolding has_pair hits from firsts
  followed-step l m ms true c e h = subst (λ c. has_pair (followed l ms) ≡ hits ((if c && true then [] else (pos l, pos m) ∷ []) ++ arcs_to (pos l) (firsts ms))) e h
  followed-step l m ms false c e h = subst (λ c. has_pair ((l, m) ∷ followed l ms) ≡ hits ((if c && true then [] else (pos l, pos m) ∷ []) ++ arcs_to (pos l) (firsts ms))) e (ap (λ b. eq_by_cmp by_ends q (pos l, pos m) || b) h)

  pub followed-is : (l : ℕ) (ms : List ℕ) → has_pair (followed l ms) ≡ from l (firsts ms)
  unfolding has_pair hits from firsts
  followed-is l [] = refl
  followed-is l (m ∷ ms) = followed-step l m ms (nat_eq l m) (int_eq (pos l) (pos m)) (same_line l m) (followed-is l ms)

  pub has_pair-joined : (ls ms : List ℕ) → has_pair (joined ls ms) ≡ all_from ls (firsts ms)
  unfolding all_from
  has_pair-joined [] ms = has_pair-none
  has_pair-joined (l ∷ ls) ms = has_pair-append (followed l ms) (joined ls ms) ∙ ap (λ b. b || has_pair (joined ls ms)) (followed-is l ms) ∙ ap (λ b. from l (firsts ms) || b) (has_pair-joined ls ms)

  back-to : (h l : ℕ) → from l (turn (pos h)) ≡ eq_by_cmp by_ends q (pos l, pos h)
  unfolding from hits
  back-to h l = elim (int_eq (pos l) (pos h)) as (λ b. hits ((if b && false then [] else (pos l, pos h) ∷ []) ++ []) ≡ eq_by_cmp by_ends q (pos l, pos h)) [ true ↦ or_false (eq_by_cmp by_ends q (pos l, pos h)) | false ↦ or_false (eq_by_cmp by_ends q (pos l, pos h)) ]

  pub has_pair-turned : (h : ℕ) (ls : List ℕ) → has_pair (turned h ls) ≡ all_from ls (turn (pos h))
  unfolding has_pair hits all_from
  has_pair-turned h [] = refl
  has_pair-turned h (l ∷ ls) = ap (λ b. b || has_pair (turned h ls)) (sym (back-to h l)) ∙ ap (λ b. from l (turn (pos h)) || b) (has_pair-turned h ls)
