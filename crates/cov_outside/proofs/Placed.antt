-- The first pair of a name, and what becomes of the files where it is replaced or a new pair is added.
use Rattle.std.proofs.Common.{◌≡◌, ℕ, suc, zero, ◌+◌, ◌<◌, Bool, true, false, cond, List, [], ◌∷◌, ◌++◌, length, get_or, set, Option, Some, None, String, Vec, string_bytes, refl, sym, ◌∙◌, arith}
use Rattle.std.specs.declared.alloc.Global.{Global}
use Rattle.std.specs.List.{position, position_from}
use Rattle.std.specs.Str.{bytes_eq}
use Rattle.std.proofs.lemmas.Iterator.Adapters.{position_from-zero}
use Rattle.std.proofs.lemmas.List.Quantifiers.{position-Some}
use Rattle.std.proofs.lemmas.Slice.Eq.{bytes_eq-Decides}
use Rattle.std.proofs.lemmas.Bool.{false_from_ne_true}
use Rattle.cov_outside.specs.Files.{files_of, with_file}
use Rattle.cov_outside.specs.Pairs.{plain_pairs}

abbrev Pair : Type 0
Pair = String Global × Vec ℕ Global

-- the pair has this name
abbrev pub is_named : List ℕ → Pair → Bool
is_named name pair = bytes_eq (string_bytes pair.0) name

no_place : (name : List ℕ) (pairs : List Pair) (i : ℕ) → position_from (is_named name) i pairs ≡ None → files_of (plain_pairs pairs) name ≡ None
no_place name [] i none = refl
no_place name (pair ∷ pairs) i none =
    elim (is_named name pair) as (λ b. cond b (Some i) (position_from (is_named name) (i + 1) pairs) ≡ None → cond b (Some pair.1.items) (files_of (plain_pairs pairs) name) ≡ None) [
      | true ↦ λ h. absurd (cc)
      | false ↦ λ h. no_place name pairs (i + 1) h
    ] none

pub absent_file : (name : List ℕ) (pairs : List Pair) → position (is_named name) pairs ≡ None → files_of (plain_pairs pairs) name ≡ None
absent_file name pairs none = no_place name pairs 0 (sym (position_from-zero (is_named name) pairs) ∙ none)

file_at : (name : List ℕ) (pairs : List Pair) (i : ℕ) (d : Pair) → i < length pairs → is_named name (get_or pairs i d) ≡ true → ((k : ℕ) → k < i → is_named name (get_or pairs k d) ≡ false)
    → files_of (plain_pairs pairs) name ≡ Some (get_or pairs i d).1.items
file_at name [] i d low here before = absurd (omega arith)
file_at name (pair ∷ pairs) zero d low here before = rw here refl
file_at name (pair ∷ pairs) (suc i) d low here before =
    let other : is_named name pair ≡ false = before 0 (omega arith) in
    rw other (file_at name pairs i d (omega arith) here (λ k h. before (suc k) (omega arith)))

pub present_file : (name : List ℕ) (pairs : List Pair) (i : ℕ) (d : Pair) → position (is_named name) pairs ≡ Some i → files_of (plain_pairs pairs) name ≡ Some (get_or pairs i d).1.items
present_file name pairs i d found = let at = position-Some (is_named name) pairs i d found in file_at name pairs i d at.0 at.1 at.2

same_name : (name key : List ℕ) → bytes_eq key name ≡ true → key ≡ name
same_name name key is = (bytes_eq-Decides key name).0 is

other_name : (name key other : List ℕ) → key ≡ other → bytes_eq key name ≡ false → bytes_eq name other ≡ false
other_name name key other same differs = false_from_ne_true (bytes_eq name other) (λ is. let k : bytes_eq key name ≡ true = (bytes_eq-Decides key name).1 (same ∙ sym (same_name other name is)) in cc)

module _ (name bytes : List ℕ) (put : Pair) (named : string_bytes put.0 ≡ name) (holds : put.1.items ≡ bytes) where
  after : (pair : Pair) (old new : Option (List ℕ)) (other : List ℕ) → is_named name pair ≡ false → new ≡ cond (bytes_eq name other) (Some bytes) old
      → cond (bytes_eq (string_bytes pair.0) other) (Some pair.1.items) new ≡ cond (bytes_eq name other) (Some bytes) (cond (bytes_eq (string_bytes pair.0) other) (Some pair.1.items) old)
  after pair old new other differs rest =
      elim (bytes_eq (string_bytes pair.0) other) as (λ b. bytes_eq (string_bytes pair.0) other ≡ b → cond b (Some pair.1.items) new ≡ cond (bytes_eq name other) (Some bytes) (cond b (Some pair.1.items) old)) [
        | true ↦ λ is. rw (other_name name (string_bytes pair.0) other (same_name other (string_bytes pair.0) is) differs) refl
        | false ↦ λ is. rest
      ] refl

  in_front : (pair : Pair) (rest : Option (List ℕ)) (other : List ℕ) → string_bytes pair.0 ≡ name
      → cond (bytes_eq (string_bytes put.0) other) (Some put.1.items) rest ≡ cond (bytes_eq name other) (Some bytes) (cond (bytes_eq (string_bytes pair.0) other) (Some pair.1.items) rest)
  in_front pair rest other same =
      rw (named, holds, same) (elim (bytes_eq name other) as (λ b. cond b (Some bytes) rest ≡ cond b (Some bytes) (cond b (Some pair.1.items) rest)) [ true ↦ refl | false ↦ refl ])

  set_at : (pairs : List Pair) (i : ℕ) (d : Pair) (other : List ℕ) → i < length pairs → is_named name (get_or pairs i d) ≡ true → ((k : ℕ) → k < i → is_named name (get_or pairs k d) ≡ false)
      → files_of (plain_pairs (set pairs i put)) other ≡ with_file name bytes (files_of (plain_pairs pairs)) other
  set_at [] i d other low here before = absurd (omega arith)
  set_at (pair ∷ pairs) zero d other low here before = in_front pair (files_of (plain_pairs pairs) other) other (same_name name (string_bytes pair.0) here)
  set_at (pair ∷ pairs) (suc i) d other low here before =
      after pair (files_of (plain_pairs pairs) other) _ other (before 0 (omega arith)) (set_at pairs i d other (omega arith) here (λ k h. before (suc k) (omega arith)))

  push_at : (pairs : List Pair) (i : ℕ) (other : List ℕ) → position_from (is_named name) i pairs ≡ None → files_of (plain_pairs (pairs ++ put ∷ [])) other ≡ with_file name bytes (files_of (plain_pairs pairs)) other
  push_at [] i other none = rw (named, holds) refl
  push_at (pair ∷ pairs) i other none =
      elim (is_named name pair) as (λ b. is_named name pair ≡ b → cond b (Some i) (position_from (is_named name) (i + 1) pairs) ≡ None → files_of (plain_pairs (pair ∷ pairs ++ put ∷ [])) other ≡ with_file name bytes (files_of (plain_pairs (pair ∷ pairs))) other) [
        | true ↦ λ is h. absurd (cc)
        | false ↦ λ is h. after pair (files_of (plain_pairs pairs) other) _ other is (push_at pairs (i + 1) other h)
      ] refl none

  -- a pair of a new name is added
  pub added_file : (pairs : List Pair) → position (is_named name) pairs ≡ None → files_of (plain_pairs (pairs ++ put ∷ [])) ≡ with_file name bytes (files_of (plain_pairs pairs))
  added_file pairs none = λ k other. push_at pairs 0 other (sym (position_from-zero (is_named name) pairs) ∙ none) k

-- the bytes of the first pair of the name are replaced
pub replaced_file : (name bytes : List ℕ) (pairs : List Pair) (i : ℕ) (pair : Pair) (copy : Vec ℕ Global) → position (is_named name) pairs ≡ Some i → pair ≡ get_or pairs i pair → copy.items ≡ bytes
    → files_of (plain_pairs (set pairs i (pair.0, copy))) ≡ with_file name bytes (files_of (plain_pairs pairs))
replaced_file name bytes pairs i pair copy found is holds =
    let at = position-Some (is_named name) pairs i pair found in
    let named : string_bytes pair.0 ≡ name = same_name name (string_bytes pair.0) (rw (← is) at at.1) in
    λ k other. set_at name bytes (pair.0, copy) named holds pairs i pair other at.0 at.1 at.2 k
