-- More steps change nothing of a run that isn't cut, and go on where one that is cut ended.
use Rattle.std.proofs.Common.{◌≡◌, ℕ, zero, suc, ◌+◌, ◌<◌, ◌≤◌, Bool, true, false, cond, List, ◌++◌, Ok, Err, refl, ◌∙◌, arith}
use Rattle.py_value.specs.Plain.{PlainValue, PlainHeap}
use Rattle.py_meaning.specs.Activations.{Item}
use Rattle.py_meaning.specs.Computations.{Setting, State, Res, done, cut, M, Ans, bind, add, put, give, chain, step, tick, note, read, write, say, within, stop, on_value, value, ask, worked, work, branch}
use Rattle.py_meaning.specs.Laws.{IsAtMost}
use Rattle.py_meaning.proofs.Before.{Before, begins-append, begins-itself, before-itself, before-trans, before-add}

-- Two runs of one computation from a state, with n and with m steps. They answer the same where they are done; the one with
-- fewer steps may be cut, and then stands where the other came by. With as many steps they are the same.
abbrev pub Same : {A : Type 0} → State → ℕ → ℕ → Res A → Res A → Type 0
Same s n m (done a u l) (done b t k) = (a ≡ b) × (u ≡ t) × (l ≤ n) × (n + k ≡ m + l) × Before s u
Same s n m (done a u l) (cut t) = (l ≤ n) × (m + l < n) × Before s t × Before t u
Same s n m (cut u) (done b t k) = (k ≤ m) × (n + k < m) × Before s u × Before u t
Same s n m (cut u) (cut t) = Before s u × Before s t × (n ≤ m → Before u t) × (m ≤ n → Before t u) × (n ≡ m → u ≡ t)

-- the state at the end
abbrev pub end_of : {A : Type 0} → Res A → State
end_of (done a s l) = s
end_of (cut s) = s

-- two computations that are the same but for their budgets, as long as those are at most k
unfoldable pub Agrees : {A : Type 0} → ℕ → M A → M A → Type 0
Agrees k f g = (s : State) (n m : ℕ) → n ≤ k → m ≤ k → Same s n m (f s n) (g s m)

pub agree-give : {A : Type 0} (k : ℕ) (a : A) → Agrees k (give a) (give a)
unfolding Agrees give
agree-give k a s n m hn hm = (refl, refl, omega arith, omega arith, before-itself s)

-- two runs that are cut where they began
pub same-cut : (A : Type 0) (s : State) (n m : ℕ) → Same {A = A} s n m (cut s) (cut s)
same-cut A s n m = (before-itself s, before-itself s, λ h. before-itself s, λ h. before-itself s, λ h. refl)

pub agree-stop : (A : Type 0) (k : ℕ) → Agrees {A = A} k stop stop
unfolding Agrees stop
agree-stop A k s n m hn hm = same-cut A s n m

-- both with more steps
pub same-more : {A : Type 0} (s : State) (n m n' m' : ℕ) (r q : Res A) → Same s n m r q → n ≤ n' → m ≤ m' → n' + m ≡ m' + n → Same s n' m' r q
same-more s n m n' m' (done a u l) (done b t k) h hn hm e = (h.0, h.1, omega (arith, h.2), omega (arith, h.3), h.4)
same-more s n m n' m' (done a u l) (cut t) h hn hm e = (omega (arith, h.0), omega (arith, h.1), h.2, h.3)
same-more s n m n' m' (cut u) (done b t k) h hn hm e = (omega (arith, h.0), omega (arith, h.1), h.2, h.3)
same-more s n m n' m' (cut u) (cut t) h hn hm e = (h.0, h.1, λ le. h.2 (omega arith), λ le. h.3 (omega arith), λ q. h.4 (omega arith))

-- both from an earlier state
pub same-from : {A : Type 0} (s v : State) (n m : ℕ) (r q : Res A) → Before s v → Same v n m r q → Same s n m r q
same-from s v n m (done a u l) (done b t k) sv h = (h.0, h.1, h.2, h.3, before-trans s v u sv h.4)
same-from s v n m (done a u l) (cut t) sv h = (h.0, h.1, before-trans s v t sv h.2, h.3)
same-from s v n m (cut u) (done b t k) sv h = (h.0, h.1, before-trans s v u sv h.2, h.3)
same-from s v n m (cut u) (cut t) sv h = (before-trans s v u sv h.0, before-trans s v t sv h.1, h.2, h.3, h.4)

-- a run that is done doesn't have more steps than it began with
pub left_at_most : {A : Type 0} (s : State) (n m : ℕ) (r q : Res A) → Same s n m r q → IsAtMost n r
left_at_most s n m (done a u l) (done b t k) h = h.2
left_at_most s n m (done a u l) (cut t) h = h.0
left_at_most s n m (cut u) q h = tt

pub right_at_most : {A : Type 0} (s : State) (n m : ℕ) (r q : Res A) → Same s n m r q → IsAtMost m q
right_at_most s n m (done a u l) (done b t k) h = omega (arith, h.2, h.3)
right_at_most s n m (cut u) (done b t k) h = h.0
right_at_most s n m (done a u l) (cut t) h = tt
right_at_most s n m (cut u) (cut t) h = tt

-- and ends after where it began
pub before_left : {A : Type 0} (s : State) (n m : ℕ) (r q : Res A) → Same s n m r q → Before s (end_of r)
before_left s n m (done a u l) (done b t k) h = h.4
before_left s n m (done a u l) (cut t) h = before-trans s t u h.2 h.3
before_left s n m (cut u) (done b t k) h = h.2
before_left s n m (cut u) (cut t) h = h.0

pub before_right : {A : Type 0} (s : State) (n m : ℕ) (r q : Res A) → Same s n m r q → Before s (end_of q)
before_right s n m (done a u l) (done b t k) h = rw (← h.1) h.4
before_right s n m (done a u l) (cut t) h = h.2
before_right s n m (cut u) (done b t k) h = before-trans s u t h.2 h.3
before_right s n m (cut u) (cut t) h = h.1

-- one run is cut, and the other goes on from a state with too many steps left
pub cut-left : {A : Type 0} (s : State) (n m l : ℕ) (u : State) (q : Res A) → IsAtMost l q → l ≤ m → n + l < m → Before s u → Before u (end_of q) → Same s n m (cut u) q
cut-left s n m l u (done b t k) h lm hl su ut = (omega (arith, h), omega (arith, h), su, ut)
cut-left s n m l u (cut t) h lm hl su ut = (su, before-trans s u t su ut, λ le. ut, λ le. absurd (omega arith), λ q. absurd (omega arith))

pub cut-right : {A : Type 0} (s : State) (n m l : ℕ) (t : State) (r : Res A) → IsAtMost l r → l ≤ n → m + l < n → Before s t → Before t (end_of r) → Same s n m r (cut t)
cut-right s n m l t (done a u k) h ln hl st tu = (omega (arith, h), omega (arith, h), st, tu)
cut-right s n m l t (cut u) h ln hl st tu = (before-trans s t u st tu, st, λ le. absurd (omega arith), λ le. tu, λ q. absurd (omega arith))

pub agree-chain : {A B : Type 0} (k : ℕ) (f g : M A) (h j : A → M B) → Agrees k f g → ((a : A) → Agrees k (h a) (j a)) → Agrees k (chain f h) (chain g j)
unfolding Agrees chain
agree-chain {A} {B} k f g h j fg hj s n m hn hm = go (f s n) (g s m) (fg s n m hn hm)
  where
    go : (r q : Res A) → Same s n m r q → Same s n m (bind r h) (bind q j)
    go (done a u l) (done b t i) e =
        rw (← e.0, ← e.1) (same-from s u n m (h a u l) (j a u i) e.4 (same-more u l i n m (h a u l) (j a u i) (hj a u l i (omega (arith, e.2)) (omega (arith, e.2, e.3))) e.2 (omega (arith, e.2, e.3)) e.3))
    go (done a u l) (cut t) e =
        let both : Same u l l (h a u l) (j a u l) = hj a u l l (omega (arith, e.0)) (omega (arith, e.0)) in
        cut-right s n m l t (h a u l) (left_at_most u l l (h a u l) (j a u l) both) e.0 e.1 e.2 (before-trans t u (end_of (h a u l)) e.3 (before_left u l l (h a u l) (j a u l) both))
    go (cut u) (done b t i) e =
        let both : Same t i i (h b t i) (j b t i) = hj b t i i (omega (arith, e.0)) (omega (arith, e.0)) in
        cut-left s n m i u (j b t i) (right_at_most t i i (h b t i) (j b t i) both) e.0 e.1 e.2 (before-trans u t (end_of (j b t i)) e.3 (before_right t i i (h b t i) (j b t i) both))
    go (cut u) (cut t) e = e

pub agree-down : {A : Type 0} (k j : ℕ) (f g : M A) → k ≤ j → Agrees j f g → Agrees k f g
unfolding Agrees
agree-down k j f g kj h s n m hn hm = h s n m (omega arith) (omega arith)

pub agree-note : {A : Type 0} (k : ℕ) (i : Item) (f g : M A) → Agrees k f g → Agrees k (note i f) (note i g)
unfolding Agrees note
agree-note k i f g h s n m hn hm = same-from s (add i s) n m _ _ (before-add i s) (h (add i s) n m hn hm)

pub agree-write : {A : Type 0} (k : ℕ) (w : Setting → Setting) (f g : M A) → Agrees k f g → Agrees k (write w f) (write w g)
unfolding Agrees write
agree-write k w f g h s n m hn hm = same-from s (put w s) n m _ _ (before-itself s) (h (put w s) n m hn hm)

pub agree-say : {A : Type 0} (k : ℕ) (bytes : List ℕ) (f g : M A) → Agrees k f g → Agrees k (say bytes f) (say bytes g)
unfolding Agrees say
agree-say k bytes f g h s n m hn hm =
    let t : State = record s { out = s.out ++ bytes } in
    same-from s t n m (f t n) (g t m) (begins-append s.out bytes, λ es. begins-itself _) (h t n m hn hm)

pub agree-read : {A : Type 0} (k : ℕ) (f g : Setting → M A) → ((w : Setting) → Agrees k (f w) (g w)) → Agrees k (read f) (read g)
unfolding Agrees read
agree-read k f g h s n m hn hm = h s.now s n m hn hm

-- a step: what follows has one step less
pub agree-tick : {A : Type 0} (k : ℕ) (f g : M A) → Agrees k f g → Agrees (suc k) (tick f) (tick g)
unfolding Agrees tick
agree-tick {A} k f g h s zero zero hn hm = same-cut A s 0 0
agree-tick k f g h s zero (suc m) hn hm =
    let both : Same s m m (f s m) (g s m) = h s m m (omega arith) (omega arith) in
    cut-left s 0 (suc m) m s (g s m) (right_at_most s m m (f s m) (g s m) both) (omega arith) (omega arith) (before-itself s) (before_right s m m (f s m) (g s m) both)
agree-tick k f g h s (suc n) zero hn hm =
    let both : Same s n n (f s n) (g s n) = h s n n (omega arith) (omega arith) in
    cut-right s (suc n) 0 n s (f s n) (left_at_most s n n (f s n) (g s n) both) (omega arith) (omega arith) (before-itself s) (before_left s n n (f s n) (g s n) both)
agree-tick k f g h s (suc n) (suc m) hn hm = same-more s n m (suc n) (suc m) (f s n) (g s m) (h s n m (omega arith) (omega arith)) (omega arith) (omega arith) (omega arith)

-- a step that notes an item is a step, and then the item
step-is : {A : Type 0} (i : Item) (f : M A) (s : State) (n : ℕ) → step i f s n ≡ tick (note i f) s n
unfolding step tick note
step-is i f s zero = refl
step-is i f s (suc n) = refl

pub agree-step : {A : Type 0} (k : ℕ) (i : Item) (f g : M A) → Agrees k f g → Agrees (suc k) (step i f) (step i g)
unfolding Agrees
agree-step k i f g h s n m hn hm = rw (step-is i f s n, step-is i g s m) (agree-tick k (note i f) (note i g) (agree-note k i f g h) s n m hn hm)

pub agree-mark : {A : Type 0} (k : ℕ) (i : Item) (f g : M A) → Agrees k f g → Agrees k (step i f) (step i g)
agree-mark k i f g h = agree-down k (suc k) _ _ (omega arith) (agree-step k i f g h)

-- two computations that are cut where no step is left
pub agree-zero : {A : Type 0} (f g : M A) → ((s : State) → f s 0 ≡ cut s) → ((s : State) → g s 0 ≡ cut s) → Agrees 0 f g
unfolding Agrees
agree-zero {A} f g hf hg s zero zero hn hm = rw (hf s, hg s) (same-cut A s 0 0)
agree-zero f g hf hg s (suc n) m hn hm = absurd (omega arith)
agree-zero f g hf hg s zero (suc m) hn hm = absurd (omega arith)

pub step-zero : {A : Type 0} (t : Item) (f : M A) (s : State) → step t f s 0 ≡ cut s
unfolding step
step-zero t f s = refl

-- runs of one budget before or after
pub same-left : {A : Type 0} (s : State) (n m : ℕ) (r q p : Res A) → Same s n n r q → Same s n m q p → Same s n m r p
same-left s n m (done a u l) (done b t i) (done c v j) e h = rw (e.0, e.1) (h.0, h.1, omega (arith, e.3, h.2), omega (arith, e.3, h.3), h.4)
same-left s n m (done a u l) (done b t i) (cut v) e h = rw (e.1) (omega (arith, e.3, h.0), omega (arith, e.3, h.1), h.2, h.3)
same-left s n m (done a u l) (cut t) p e h = absurd (omega (arith, e.1))
same-left s n m (cut u) (done b t i) p e h = absurd (omega (arith, e.1))
same-left s n m (cut u) (cut t) (done c v j) e h = (h.0, h.1, e.0, before-trans u t v (e.2 (omega arith)) h.3)
same-left s n m (cut u) (cut t) (cut v) e h = (e.0, h.1, λ le. before-trans u t v (e.2 (omega arith)) (h.2 le), λ le. before-trans v t u (h.3 le) (e.3 (omega arith)), λ q. e.4 refl ∙ h.4 q)

pub same-right : {A : Type 0} (s : State) (n m : ℕ) (r q p : Res A) → Same s n m r q → Same s m m q p → Same s n m r p
same-right s n m (done a u l) (done b t i) (done c v j) h e = rw (h.0, h.1) (e.0, e.1, h.2, omega (arith, e.3, h.3), e.4)
same-right s n m (cut u) (done b t i) (done c v j) h e = (omega (arith, e.3, h.0), omega (arith, e.3, h.1), h.2, rw (← e.1) h.3)
same-right s n m r (done b t i) (cut v) h e = absurd (omega (arith, e.1))
same-right s n m r (cut t) (done c v j) h e = absurd (omega (arith, e.1))
same-right s n m (done a u l) (cut t) (cut v) h e = (h.0, h.1, e.1, before-trans v t u (e.3 (omega arith)) h.3)
same-right s n m (cut u) (cut t) (cut v) h e = (h.0, e.1, λ le. before-trans u t v (h.2 le) (e.2 (omega arith)), λ le. before-trans v t u (e.3 (omega arith)) (h.3 le), λ q. h.4 q ∙ e.4 refl)

-- where more fuel than steps changes nothing, the fuel may be the number of the steps
pub agree-within : {A : Type 0} (k : ℕ) (f g : ℕ → M A) → ((j i b : ℕ) → b ≤ j → b ≤ i → b ≤ k → Agrees b (f j) (f i)) → ((j i b : ℕ) → b ≤ j → b ≤ i → b ≤ k → Agrees b (g j) (g i)) → ((j i b : ℕ) → b ≤ j → b ≤ i → b ≤ k → Agrees b (f j) (g i)) → Agrees k (within f) (within g)
unfolding Agrees within
agree-within k f g ff gg fg s n m hn hm =
    same-left s n m (f n s n) (f k s n) (g m s m)
    (ff n k n (omega arith) (omega arith) (omega arith) s n n (omega arith) (omega arith))
    (same-right s n m (f k s n) (g k s m) (g m s m)
    (fg k k k (omega arith) (omega arith) (omega arith) s n m hn hm)
    (gg k m m (omega arith) (omega arith) (omega arith) s m m (omega arith) (omega arith)))

-- ---- answers

pub agree-on_value : {A B : Type 0} (k : ℕ) (a : Ans A) (h j : A → M (Ans B)) → ((v : A) → Agrees k (h v) (j v)) → Agrees k (on_value a h) (on_value a j)
agree-on_value k (Ok v) h j hj = hj v
agree-on_value k (Err e) h j hj = agree-give k (Err e)

pub agree-value : {A B : Type 0} (k : ℕ) (f g : M (Ans A)) (h j : A → M (Ans B)) → Agrees k f g → ((v : A) → Agrees k (h v) (j v)) → Agrees k (value f h) (value g j)
unfolding value
agree-value k f g h j fg hj = agree-chain k f g _ _ fg (λ a. agree-on_value k a h j hj)

pub agree-ask : {A : Type 0} (k : ℕ) (f : Setting → Ans A) → Agrees k (ask f) (ask f)
unfolding ask
agree-ask k f = agree-read k _ _ (λ w. agree-give k (f w))

pub agree-worked : {A : Type 0} (k : ℕ) (a : Ans (A × PlainHeap)) → Agrees k (worked a) (worked a)
agree-worked k (Ok r) = agree-write k _ _ _ (agree-give k _)
agree-worked k (Err e) = agree-give k _

pub agree-work : {A : Type 0} (k : ℕ) (f : PlainHeap → Ans (A × PlainHeap)) → Agrees k (work f) (work f)
unfolding work
agree-work k f = agree-read k _ _ (λ w. agree-worked k (f w.world.heap))

-- a choice by a test
pub agree-if : {A : Type 0} (k : ℕ) (b : Bool) (f g f' g' : M A) → Agrees k f f' → Agrees k g g' → Agrees k (cond b f g) (cond b f' g')
agree-if k true f g f' g' hf hg = hf
agree-if k false f g f' g' hf hg = hg

pub agree-branch : {A : Type 0} (k : ℕ) (v : PlainValue) (f g f' g' : M A) → Agrees k f f' → Agrees k g g' → Agrees k (branch v f g) (branch v f' g')
unfolding branch
agree-branch k v f g f' g' hf hg = agree-read k _ _ (λ w. agree-if k _ _ _ _ _ hf hg)
