-- The rules as a finite map over the tree that holds them, and as they are given one after the other.
use Rattle.std.proofs.Common.{◌≡◌, true, false, cond, List, [], ◌∷◌, ◌++◌, map, Option, Some, None, String, string_bytes, refl, ap, sym, ◌∙◌}
use Rattle.std.specs.declared.cmp.Ordering.TheVariants.{Less, Equal, Greater}
use Rattle.std.specs.Ordering.{is_eq, eq_by_cmp}
use Rattle.std.specs.Option.{is_some, option_or}
use Rattle.std.specs.Map.{lookup, keys_of}
use Rattle.std.specs.List.Sorted.{IsStrictlySortedBy}
use Rattle.std.specs.String.{string_cmp}
use Rattle.std.specs.BTreeMap.{insert_entry}
use Rattle.std.specs.FinMap.{get, insert, values, from_entries, find, get-from_entries, from_entries_push, contains_key, same_map}
use Rattle.std.specs.FinMap.Entries.{find_tied}
use Rattle.std.proofs.lemmas.List.{map-append}
use Rattle.cov_data.specs.DataSet.{Text, text_cmp, rekeyed}
use Rattle.cov_data.proofs.MapViews.{find-rekeyed, rekeyed-insert_entry, is_sorted-rekeyed, from_entries-put, entries-from_entries, none_from_is_some}
use Rattle.cov_data.proofs.FileViews.{text_cmp_total, text_cmp_same}
use Rattle.cov_combine.specs.Aliases.{Rule, rule_from, rules_from}
use Rattle.cov_combine.specs.Stored.{rules_by_name, with_first}

module _ {Y : Type 0} where
  pub get-rules_by_name : (es : List (String Y × Rule)) (q : Text) → get (rules_by_name es) q ≡ lookup (λ k. is_eq (text_cmp q (string_bytes k))) es
  get-rules_by_name es q = get-from_entries text_cmp_total _ _ ∙ find-rekeyed text_cmp string_bytes q es

  pub rules_by_name-insert_entry : (k : String Y) (r : Rule) (es : List (String Y × Rule)) → rules_by_name (insert_entry string_cmp es k r) ≡ insert (rules_by_name es) (string_bytes k) r
  rules_by_name-insert_entry k r es = ap from_entries (rekeyed-insert_entry text_cmp string_bytes k r es) ∙ from_entries-put text_cmp_total text_cmp_same (string_bytes k) r (rekeyed string_bytes es)

  rules_of : (es : List (String Y × Rule)) → map (λ e. e.1) (rekeyed string_bytes es) ≡ map (λ e. e.1) es
  rules_of [] = refl
  rules_of (e ∷ es) = ap (λ rs. e.1 ∷ rs) (rules_of es)

  -- the rules in the order of the tree
  pub values-rules_by_name : (es : List (String Y × Rule)) → IsStrictlySortedBy string_cmp (keys_of es) → values (rules_by_name es) ≡ map (λ e. e.1) es
  values-rules_by_name es h = ap (map (λ e. e.1)) (entries-from_entries text_cmp_total text_cmp_same (rekeyed string_bytes es) (is_sorted-rekeyed text_cmp string_bytes es h)) ∙ rules_of es

-- ---- a rule more at the end of the list

find_after : (q k : Text) (r : Rule) (es : List (Text × Rule)) → find text_cmp q (es ++ (k, r) ∷ []) ≡ option_or (find text_cmp q es) (cond (eq_by_cmp text_cmp q k) (Some r) None)
find_after q k r [] = refl
find_after q k r (e ∷ es) = ap (cond (eq_by_cmp text_cmp q e.0) (Some e.1)) (find_after q k r es)
    ∙ elim (eq_by_cmp text_cmp q e.0) as (λ b. cond b (Some e.1) (option_or (find text_cmp q es) (cond (eq_by_cmp text_cmp q k) (Some r) None)) ≡ option_or (cond b (Some e.1) (find text_cmp q es)) (cond (eq_by_cmp text_cmp q k) (Some r) None)) [ true ↦ refl | false ↦ refl ]

left_out : (o p : Option Rule) → is_some p ≡ false → option_or o p ≡ o
left_out o None h = elim o as (λ x. option_or x None ≡ x) [ None ↦ refl | Some r ↦ refl ]
left_out o (Some r) h = cc

kept_first : (o p : Option Rule) → is_some o ≡ true → option_or o p ≡ o
kept_first None p h = cc
kept_first (Some r) p h = refl

-- a name that is there keeps its rule
pub from_entries-present : (es : List (Text × Rule)) (k : Text) (r : Rule) → is_some (find text_cmp k es) ≡ true → from_entries {R = text_cmp} (es ++ (k, r) ∷ []) ≡ from_entries es
from_entries-present es k r there = same_map text_cmp_total text_cmp_same _ _ (λ q.
    get-from_entries text_cmp_total (es ++ (k, r) ∷ []) q ∙ find_after q k r es
    ∙ elim (text_cmp q k) as (λ o. text_cmp q k ≡ o → option_or (find text_cmp q es) (cond (is_eq o) (Some r) None) ≡ find text_cmp q es) [
      | Less ↦ λ t. left_out (find text_cmp q es) None refl
      | Equal ↦ λ t. kept_first (find text_cmp q es) (Some r) (ap is_some (sym (find_tied text_cmp text_cmp_total q k t es)) ∙ there)
      | Greater ↦ λ t. left_out (find text_cmp q es) None refl
    ] refl
    ∙ sym (get-from_entries text_cmp_total es q))

pub from_entries-absent : (es : List (Text × Rule)) (k : Text) (r : Rule) → find text_cmp k es ≡ None → from_entries {R = text_cmp} (es ++ (k, r) ∷ []) ≡ insert (from_entries es) k r
from_entries-absent es k r none = from_entries_push text_cmp_total text_cmp_same es k r none

pairs : List (Text × List Text) → List (Text × Rule)
pairs given = map (λ e. (e.0, rule_from e.1)) given

pub rules_from-push : (given : List (Text × List Text)) (name : Text) (texts : List Text) → rules_from (given ++ (name, texts) ∷ []) ≡ with_first (rules_from given) name (rule_from texts)
unfolding pairs
rules_from-push given name texts =
    let es = pairs given in
    let r = rule_from texts in
    let held : contains_key (rules_from given) name ≡ is_some (find text_cmp name es) = ap is_some (get-from_entries text_cmp_total es name) in
    ap from_entries (map-append (λ (e : Text × List Text). (e.0, rule_from e.1)) given ((name, texts) ∷ []))
    ∙ elim (is_some (find text_cmp name es)) as (λ b. is_some (find text_cmp name es) ≡ b → from_entries {R = text_cmp} (es ++ (name, r) ∷ []) ≡ cond b (rules_from given) (insert (rules_from given) name r)) [
      | true ↦ λ h. from_entries-present es name r h
      | false ↦ λ h. from_entries-absent es name r (none_from_is_some (find text_cmp name es) h)
    ] refl
    ∙ ap (λ b. cond b (rules_from given) (insert (rules_from given) name r)) (sym held)
