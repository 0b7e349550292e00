-- The contents that bases tell, where one is looked up, replaced, added or taken away.
--     bases_absent, bases_held, bases_present      what a name holds
--     bases_kept, bases_replaced, bases_added, bases_removed      the contents then
--     declared_at, declared_set, declared_push   the bases are as declared
--     each_filter, idle_filter                     and those that are left are as all were
--     bases_names                                  the names in order
use Rattle.std.proofs.Common.{◌≡◌, ℕ, suc, zero, ◌+◌, ◌<◌, Bool, true, false, cond, not, List, [], ◌∷◌, ◌++◌, length, get_or, set, map, Some, None, string_bytes, refl, sym, ap, subst, ◌∙◌, arith}
use Rattle.std.specs.Prelude.{filter}
use Rattle.std.specs.List.{position, position_from, All, AllByRecursion}
use Rattle.std.specs.Str.{bytes_eq}
use Rattle.std.specs.FinMap.{get, insert, remove, keys}
use Rattle.std.proofs.lemmas.Iterator.Adapters.{position_from-zero}
use Rattle.std.proofs.lemmas.List.{map-append, map-set, get_or-map, set-get_or}
use Rattle.std.proofs.lemmas.List.Elements.{All-from_recursion, recursion_from_All}
use Rattle.std.proofs.lemmas.List.Quantifiers.{position-Some}
use Rattle.std.proofs.lemmas.Simd.{map-map}
use Rattle.sqlite_trees.specs.declared.memory.MemStore.{MemStore}
use Rattle.sqlite.specs.Held.{Held}
use Rattle.cov_data.specs.DataSet.{Text, text_cmp}
use Rattle.cov_data.specs.Rows.{distinct_in_order}
use Rattle.cov_vault.specs.Contents.{contents_of}
use Rattle.cov_vault.specs.declared.vault.Content.{Content}
use Rattle.cov_vault.proofs.Named.{Pair, is_named, is_other, get-absent, get-present, some_held, replaced_at, added, removed, names_in_order}
use Rattle.cov_sql.specs.Content.{content_in}
use Rattle.cov_sql.specs.Bases.{Base, IsIdle, kept_in, IsAsDeclared, AreAsDeclared, with_content, bases_contents}

abbrev pub has_name : Text → Base → Bool
has_name name b = bytes_eq (string_bytes b.0) name

abbrev pub is_another : Text → Base → Bool
is_another name b = not (has_name name b)

from_same : (name : Text) (i : ℕ) (bases : List Base) → position_from (has_name name) i bases ≡ position_from (is_named name) i (map with_content bases)
from_same name i [] = refl
from_same name i (b ∷ bases) = ap (λ o. cond (has_name name b) (Some i) o) (from_same name (i + 1) bases)

place_same : (name : Text) (bases : List Base) → position (is_named name) (map with_content bases) ≡ position (has_name name) bases
place_same name bases = position_from-zero (is_named name) (map with_content bases) ∙ sym (from_same name 0 bases) ∙ sym (position_from-zero (has_name name) bases)

filter_same : (name : Text) (bases : List Base) → map with_content (filter (is_another name) bases) ≡ filter (is_other name) (map with_content bases)
filter_same name [] = refl
filter_same name (b ∷ bases) =
    elim (is_another name b) as (λ t. map with_content (cond t (b ∷ filter (is_another name) bases) (filter (is_another name) bases)) ≡ cond t (with_content b ∷ filter (is_other name) (map with_content bases)) (filter (is_other name) (map with_content bases)))
    [ true ↦ ap (λ ps. with_content b ∷ ps) (filter_same name bases) | false ↦ filter_same name bases ]

pub bases_absent : (name : Text) (bases : List Base) → position (has_name name) bases ≡ None → get (bases_contents bases) name ≡ None
bases_absent name bases none = get-absent name (map with_content bases) (place_same name bases ∙ none)

pub bases_held : (name : Text) (bases : List Base) (i : ℕ) → position (has_name name) bases ≡ Some i → get (bases_contents bases) name ≡ None → ⊥
bases_held name bases i found = some_held name (map with_content bases) i (place_same name bases ∙ found)

module _ (name : Text) (bases : List Base) (i : ℕ) (b : Base) (found : position (has_name name) bases ≡ Some i) (is : b ≡ get_or bases i b) where
  low : i < length bases
  low = (position-Some (has_name name) bases i b found).0

  at : position (is_named name) (map with_content bases) ≡ Some i
  at = place_same name bases ∙ found

  here : with_content b ≡ get_or (map with_content bases) i (with_content b)
  here = ap with_content is ∙ sym (get_or-map with_content bases i b (with_content b) low)

  pub bases_present : get (bases_contents bases) name ≡ Some (content_in (kept_in b.1))
  bases_present = get-present name (map with_content bases) i (with_content b) at here

  -- another base of the same contents
  pub bases_kept : (h : Held MemStore) → kept_in h ≡ kept_in b.1 → bases_contents (set bases i (b.0, h)) ≡ bases_contents bases
  bases_kept h same =
      ap contents_of (map-set with_content bases i (b.0, h) ∙ (λ k. set (map with_content bases) i (b.0, content_in (same k))) ∙ ap (set (map with_content bases) i) here ∙ set-get_or (map with_content bases) i (with_content b))

  pub bases_replaced : (content : Content) (h : Held MemStore) → content_in (kept_in h) ≡ content → bases_contents (set bases i (b.0, h)) ≡ insert (bases_contents bases) name content
  bases_replaced content h holds =
      ap contents_of (map-set with_content bases i (b.0, h)) ∙ replaced_at name content (map with_content bases) i (with_content b) (content_in (kept_in h)) at here holds

  pub declared_at : AreAsDeclared bases → IsAsDeclared (kept_in b.1)
  declared_at all = subst (λ (x : Base). IsAsDeclared (kept_in x.1)) (sym is) (each bases i low all)
    where
      each : (bs : List Base) (k : ℕ) → k < length bs → AreAsDeclared bs → IsAsDeclared (kept_in (get_or bs k b).1)
      each [] k l h = absurd (omega arith)
      each (x ∷ bs) zero l h = h.0
      each (x ∷ bs) (suc k) l h = each bs k (omega (arith, l)) h.1

pub declared_set : (bases : List Base) (i : ℕ) (x : Base) → AreAsDeclared bases → IsAsDeclared (kept_in x.1) → AreAsDeclared (set bases i x)
declared_set [] i x all one = tt
declared_set (b ∷ bases) zero x all one = (one, all.1)
declared_set (b ∷ bases) (suc i) x all one = (all.0, declared_set bases i x all.1 one)

pub declared_push : (bases : List Base) (x : Base) → AreAsDeclared bases → IsAsDeclared (kept_in x.1) → AreAsDeclared (bases ++ x ∷ [])
declared_push [] x all one = (one, tt)
declared_push (b ∷ bases) x all one = (all.0, declared_push bases x all.1 one)

pub each_filter : (P : Base → Type 0) (test : Base → Bool) (bases : List Base) → AllByRecursion P bases → AllByRecursion P (filter test bases)
each_filter P test [] all = tt
each_filter P test (b ∷ bases) all =
    elim (test b) as (λ t. AllByRecursion P (cond t (b ∷ filter test bases) (filter test bases)))
    [ true ↦ (all.0, each_filter P test bases all.1) | false ↦ each_filter P test bases all.1 ]

pub idle_filter : (test : Base → Bool) (bases : List Base) → All IsIdle bases → All IsIdle (filter test bases)
idle_filter test bases all = All-from_recursion IsIdle (filter test bases) (each_filter IsIdle test bases (recursion_from_All IsIdle bases all))

pub bases_added : (name : Text) (content : Content) (bases : List Base) (x : Base) → string_bytes x.0 ≡ name → content_in (kept_in x.1) ≡ content → position (has_name name) bases ≡ None
    → bases_contents (bases ++ x ∷ []) ≡ insert (bases_contents bases) name content
bases_added name content bases x named holds none =
    ap contents_of (map-append with_content bases (x ∷ [])) ∙ added name content (with_content x) named holds (map with_content bases) (place_same name bases ∙ none)

pub bases_removed : (name : Text) (bases : List Base) → bases_contents (filter (is_another name) bases) ≡ remove (bases_contents bases) name
bases_removed name bases = ap contents_of (filter_same name bases) ∙ removed name (map with_content bases)

pub bases_names : (bases : List Base) → distinct_in_order text_cmp (map (λ b. string_bytes b.0) bases) ≡ keys (bases_contents bases)
bases_names bases = ap (distinct_in_order text_cmp) (sym (map-map (λ (p : Pair). string_bytes p.0) with_content bases)) ∙ names_in_order (map with_content bases)
