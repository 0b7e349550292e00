-- What a statement that reads a table gives.
use Rattle.std.proofs.Common.{◌≡◌, ℕ, negsuc, ◌-◌, ◌^◌, nat_le, List, [], ◌∷◌, map, slice_get, Bool, true, false, None, if◌then◌else◌, refl, sym, ap, subst, ◌∙◌, unwrap_or}
use Rattle.std.specs.List.{flat_map}
use Rattle.std.specs.List.Sorted.{IsPermutation}
use Rattle.std.proofs.lemmas.List.Sorted.{IsPermutation-map}
use Rattle.sqlite_value.specs.declared.value.Value.TheVariants.{Null, Int}
use Rattle.sqlite_value.specs.Order.{Row, column}
use Rattle.sqlite_trees.specs.Tree.{Trees}
use Rattle.sqlite_sql.specs.Term.{Env, col, lit, eval_all}
use Rattle.sqlite_resolve.specs.Terms.{number}
use Rattle.sqlite_sql.specs.Query.{Query, inner, end, IsAnswer, IsSureAnswer, matches, output, Output}
use Rattle.sqlite_sql.specs.Program.{overlay}
use Rattle.sqlite_schema.specs.Names.{place_of}
use Rattle.sqlite_schema.specs.declared.schema.Table.{Table}
use Rattle.sqlite_schema.specs.declared.schema.Column.{Column}

-- no table is computed first
pub plain_tree : (db : Trees) (t : ℕ) → overlay db [] t ≡ db t
plain_tree db t = by (nat_le (2 ^ 31) t)
  where
    by : (b : Bool) → unwrap_or (if b then slice_get {X = List Row} [] (t - 2 ^ 31) else None) (db t) ≡ db t
    by true = refl
    by false = refl

pub singles : {A B : Type 0} (f : A → B) (xs : List A) → flat_map (λ x. f x ∷ []) xs ≡ map f xs
singles f [] = refl
singles f (x ∷ xs) = ap (λ ys. f x ∷ ys) (singles f xs)

pub mapped : {X Y Z : Type 0} (f : X → Y) (g : Y → Z) (xs : List X) → map g (map f xs) ≡ map (λ x. g (f x)) xs
mapped f g [] = refl
mapped f g (x ∷ xs) = ap (λ r. g (f x) ∷ r) (mapped f g xs)

mapped_same : {X Y : Type 0} (f g : X → Y) → ((x : X) → f x ≡ g x) → (xs : List X) → map f xs ≡ map g xs
mapped_same f g same [] = refl
mapped_same f g same (x ∷ xs) = rw (same x, mapped_same f g same xs) refl

module _ (t : Table) (ps : List (ℕ × Column)) where
  abbrev pub query : Query
  query = record {
    from = inner t.tree end;
    filter = [];
    group = None;
    project = map (λ p. col 1 (place_of t p.0)) ps;
    distinct = false;
    collations = [];
    order = [];
    limit = lit (Int (negsuc 0));
    offset = number 0;
  }

  abbrev pub places : List ℕ
  places = map (λ p. place_of t p.0) ps

  shown_row : (row : Row) → eval_all (map (λ p. col 1 (place_of t p.0)) ps) ([] ∷ row ∷ []) ≡ map (column row) places
  shown_row row = mapped (λ p. col 1 (place_of t p.0)) _ ps ∙ sym (mapped (λ p. place_of t p.0) (column row) ps)

  abbrev env_of : Row → Env
  env_of row = [] ∷ row ∷ []

  all_matches : (db : Trees) → matches (overlay db []) [] (inner t.tree end) ([] ∷ []) ≡ map env_of (db t.tree)
  all_matches db = singles env_of (overlay db [] t.tree) ∙ ap (map env_of) (plain_tree db t.tree)

  pub answer_rows : (db : Trees) (rows : List Row) → IsSureAnswer query (overlay db []) [] rows → IsPermutation (map (λ r. map (column r) places) (db t.tree)) rows
  answer_rows db rows h =
      let a : IsAnswer query (overlay db []) [] rows = h Null in
      let second : Output → Row = λ o. o.1 in
      let kept : a.kept ≡ map (output query) (map env_of (db t.tree)) = a.distinct ∙ ap (map (output query)) (a.grouped ∙ all_matches db) in
      let shown : map second a.kept ≡ map (λ r. map (column r) places) (db t.tree) =
      ap (map second) kept ∙ mapped (output query) second (map env_of (db t.tree)) ∙ mapped env_of (λ e. second (output query e)) (db t.tree) ∙ mapped_same _ _ shown_row (db t.tree) in
      subst (λ xs. IsPermutation xs rows) shown (subst (IsPermutation (map second a.kept)) (sym a.shown) (IsPermutation-map second a.kept a.ordered a.same))
