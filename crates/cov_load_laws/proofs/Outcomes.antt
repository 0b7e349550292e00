-- Each file comes to one thing, and is refused by that.
use Rattle.std.proofs.Common.{◌≡◌, ◌≢◌, ◌↔◌, ℕ, ◌+◌, ◌<◌, ◌≤◌, List, length, Option, Some, None, refl, sym, ap, ◌∙◌, subst, arith, encode_utf8_all}
use Rattle.py_syntax.specs.Tree.{Text}
use Rattle.cov_why.specs.Answers.{Refusal, limit}
use Rattle.cov_why.specs.declared.why.LimitKind.TheVariants as limits
use Rattle.cov_run.specs.Reading.{Reading, unread, Reads}
use Rattle.cov_run.specs.Loading.{most_bytes, most_total, most_modules}
use Rattle.cov_run.specs.Refusals.{HasRoom, IsNext, Refuses, absent, crowded, large, heavy, unreadable, refusal_of}
use Rattle.cov_load_laws.specs.Outcomes.{Outcome, missing, one_too_many, too_large, too_heavy, read_as, HasOutcome, refusal_for}
use Rattle.cov_load_laws.specs.Texts.{OneText}
use Rattle.cov_load_laws.proofs.Readings.{one-reading}

-- ---- what is there

some-is : {X : Type 0} (a b : X) → Some a ≡ Some b → a ≡ b
some-is {X} a b e =
    ap (λ (o : Option X). elim o as (λ (o : Option X). X) [ None ↦ a | Some x ↦ x ]) e

pub some-same : {X : Type 0} (o : Option X) (a b : X) → o ≡ Some a → o ≡ Some b → a ≡ b
some-same o a b h k = some-is a b (sym h ∙ k)

none-is : {X : Type 0} (a : X) → None ≡ Some a → ⊥
none-is a e = cc

pub none-some : {X : Type 0} (o : Option X) (a : X) → o ≡ None → o ≡ Some a → ⊥
none-some o a h k = none-is a (sym h ∙ k)

-- ---- one outcome

module _ (modules total : ℕ) (file : Option (List ℕ)) where
  next-many : (bytes : List ℕ) → IsNext modules file bytes → most_modules ≤ modules → ⊥
  next-many bytes n q = let few = n.few in omega (arith, few, q)

  next-large :
      (a b : List ℕ) → IsNext modules file a → IsNext modules file b → most_bytes < length a
      → length b ≤ most_bytes → ⊥
  next-large a b h k q small =
      let e = ap length (some-same file a b h.there k.there) in omega (arith, e, q, small)

  next-heavy :
      (a b : List ℕ) → IsNext modules file a → IsNext modules file b
      → most_total < total + length a → total + length b ≤ most_total → ⊥
  next-heavy a b h k q light =
      let e = ap length (some-same file a b h.there k.there) in omega (arith, e, q, light)

  abbrev Comes : Outcome → Type 0
  Comes = HasOutcome modules total file

  -- a file that isn't there comes to nothing else
  not-missing : (o : Outcome) → file ≡ None → Comes o → o ≡ missing
  not-missing missing h k = refl
  not-missing one_too_many h k = absurd (none-some file k.0 h k.1)
  not-missing too_large h k = absurd (none-some file k.0 h k.1.there)
  not-missing (too_heavy n) h k = absurd (none-some file k.0 h k.1.there)
  not-missing (read_as r) h k = absurd (none-some file k.0 h k.1.next.there)

  -- nor does that of a module too many
  not-many : (o : Outcome) → Comes one_too_many → Comes o → o ≡ one_too_many
  not-many missing h k = absurd (none-some file h.0 k h.1)
  not-many one_too_many h k = refl
  not-many too_large h k = absurd (next-many k.0 k.1 h.2)
  not-many (too_heavy n) h k = absurd (next-many k.0 k.1 h.2)
  not-many (read_as r) h k = absurd (next-many k.0 k.1.next h.2)

  -- nor does one with too many bytes
  not-large : (o : Outcome) → Comes too_large → Comes o → o ≡ too_large
  not-large missing h k = absurd (none-some file h.0 k h.1.there)
  not-large one_too_many h k = absurd (next-many h.0 h.1 k.2)
  not-large too_large h k = refl
  not-large (too_heavy n) h k = absurd (next-large h.0 k.0 h.1 k.1 h.2 k.2)
  not-large (read_as r) h k = absurd (next-large h.0 k.0 h.1 k.1.next h.2 k.1.small)

  -- nor does one with too many after those before it
  not-heavy : (n : ℕ) (o : Outcome) → Comes (too_heavy n) → Comes o → o ≡ too_heavy n
  not-heavy n missing h k = absurd (none-some file h.0 k h.1.there)
  not-heavy n one_too_many h k = absurd (next-many h.0 h.1 k.2)
  not-heavy n too_large h k = absurd (next-large k.0 h.0 k.1 h.1 k.2 h.2)
  not-heavy n (too_heavy m) h k =
      let same = some-same file k.0 h.0 k.1.there h.1.there in
      ap (λ t. too_heavy t) (k.4 ∙ ap (λ b. total + length b) same ∙ sym h.4)
  not-heavy n (read_as r) h k = absurd (next-heavy h.0 k.0 h.1 k.1.next h.3 k.1.light)

module _ (one : OneText) where
  same-reading :
      (modules total : ℕ) (file : Option (List ℕ)) (r s : Reading)
      → HasOutcome modules total file (read_as r) → HasOutcome modules total file (read_as s)
      → r ≡ s
  same-reading modules total file r s h k =
      let same = some-same file h.0 k.0 h.1.next.there k.1.next.there in
      one-reading one k.0 r s h.3 k.3 (subst (λ b. Reads b r) same h.2) k.2

  pub one-outcome :
      (modules total : ℕ) (file : Option (List ℕ)) (o p : Outcome)
      → HasOutcome modules total file o → HasOutcome modules total file p → o ≡ p
  one-outcome modules total file missing p h k = sym (not-missing modules total file p h k)
  one-outcome modules total file one_too_many p h k = sym (not-many modules total file p h k)
  one-outcome modules total file too_large p h k = sym (not-large modules total file p h k)
  one-outcome modules total file (too_heavy n) p h k = sym (not-heavy modules total file n p h k)
  one-outcome modules total file (read_as r) missing h k =
      not-missing modules total file (read_as r) k h
  one-outcome modules total file (read_as r) one_too_many h k =
      not-many modules total file (read_as r) k h
  one-outcome modules total file (read_as r) too_large h k =
      not-large modules total file (read_as r) k h
  one-outcome modules total file (read_as r) (too_heavy n) h k =
      not-heavy modules total file n (read_as r) k h
  one-outcome modules total file (read_as r) (read_as s) h k =
      ap (λ x. read_as x) (same-reading modules total file r s h k)

-- ---- what a file is refused by

-- what can be refused was read
was-read :
    (name : List ℕ) (reading : Reading) (r : Refusal) → refusal_of name reading ≡ Some r
    → reading ≢ unread
was-read name reading r e q = none-some (refusal_of name reading) r (ap (refusal_of name) q) e

-- a file comes to something that is refused so
abbrev pub IsRefusedSo : ℕ → ℕ → Text → Option (List ℕ) → Refusal → Type 0
IsRefusedSo modules total path file r =
    (o : Outcome) × HasOutcome modules total file o × (refusal_for path o ≡ Some r)

pub refused-outcome :
    (modules total : ℕ) (path : Text) (file : Option (List ℕ)) (r : Refusal)
    → Refuses modules total path file r → IsRefusedSo modules total path file r
refused-outcome modules total path file r (absent none is) =
    (missing, none, ap (λ x. Some x) (sym is))
refused-outcome modules total path file r (crowded bytes there many is) =
    (one_too_many, (bytes, there, many), ap (λ x. Some x) (sym is))
refused-outcome modules total path file r (large bytes next many is) =
    (too_large, (bytes, next, many), ap (λ x. Some x) (sym is))
refused-outcome modules total path file r (heavy bytes next small many is) = (
  too_heavy (total + length bytes),
  (bytes, next, small, many, refl),
  ap (λ x. Some x) (sym is),
)
refused-outcome modules total path file r (unreadable bytes reading room read is) = (
  read_as reading,
  (bytes, room, read, was-read (encode_utf8_all path) reading r is),
  is,
)

outcome-refuses :
    (modules total : ℕ) (path : Text) (file : Option (List ℕ)) (r : Refusal) (o : Outcome)
    → HasOutcome modules total file o → refusal_for path o ≡ Some r
    → Refuses modules total path file r
outcome-refuses modules total path file r missing h e = absent h (sym (some-is _ r e))
outcome-refuses modules total path file r one_too_many h e =
    crowded h.0 h.1 h.2 (sym (some-is _ r e))
outcome-refuses modules total path file r too_large h e =
    large h.0 h.1 h.2 (sym (some-is _ r e))
outcome-refuses modules total path file r (too_heavy n) h e =
    heavy h.0 h.1 h.2 h.3 (sym (some-is _ r e) ∙ ap (λ m. limit limits.TotalBytes m) h.4)
outcome-refuses modules total path file r (read_as reading) h e =
    unreadable h.0 reading h.1 h.2 e

pub refused-by :
    (modules total : ℕ) (path : Text) (file : Option (List ℕ)) (r : Refusal)
    → Refuses modules total path file r ↔ IsRefusedSo modules total path file r
refused-by modules total path file r = (
  λ h. refused-outcome modules total path file r h,
  λ h. outcome-refuses modules total path file r h.0 h.1 h.2,
)

module _ (one : OneText) where
  pub one-answer :
      (modules total : ℕ) (path : Text) (file : Option (List ℕ)) (r s : Refusal)
      → Refuses modules total path file r → Refuses modules total path file s → r ≡ s
  one-answer modules total path file r s h k =
      let a = refused-outcome modules total path file r h in
      let b = refused-outcome modules total path file s k in
      let same = one-outcome one modules total file a.0 b.0 a.1 b.1 in
      some-same (refusal_for path b.0) r s (sym (ap (refusal_for path) same) ∙ a.2) b.2
