-- What SELECT of some columns of one table is, under any schema.
use Rattle.std.proofs.Common.{◌≡◌, ◌⊎◌, inl, inr, ℕ, ◌-◌, negsuc, List, [], ◌∷◌, ◌++◌, map, slice_get, true, false, Some, None, Ok, Err, nat_lt, refl, ap, ◌∙◌, append_assoc, append-nil}
use Rattle.sqlite_ast.specs.declared.Expr.{Expr, out-Expr}
use Rattle.sqlite_ast.specs.declared.Expr.TheOpen.{Expr-F, Shown-F}
use Rattle.sqlite_ast.specs.declared.Shown.{Shown, out-Shown}
use Rattle.sqlite_ast.specs.declared.Origin.TheVariants as origin
use Rattle.sqlite_ast.specs.declared.Source.{Source, out-Source}
use Rattle.sqlite_ast.specs.declared.Core.{Core, out-Core}
use Rattle.sqlite_sql.specs.Term.{col, lit}
use Rattle.sqlite_value.specs.declared.value.Value.TheVariants.{Int}
use Rattle.sqlite_schema.specs.Names.{column_named, table_named, place_of}
use Rattle.sqlite_schema.specs.declared.schema.Schema.{Schema}
use Rattle.sqlite_schema.specs.declared.schema.Table.{Table}
use Rattle.sqlite_schema.specs.declared.schema.Column.{Column}
use Rattle.sqlite_draft.specs.declared.join.Step.TheVariants.{Inner}
use Rattle.sqlite_draft.specs.declared.query.Draft.{Draft}
use Rattle.sqlite_sql.specs.Query.{inner, end}
use Rattle.sqlite_resolve.specs.declared.state.State.{State}
use Rattle.sqlite_resolve.specs.declared.state.Carried.{Carried}
use Rattle.sqlite_resolve.specs.declared.scope.Level.{Level}
use Rattle.sqlite_resolve.specs.declared.scope.Output.{Output}
use Rattle.sqlite_resolve.specs.declared.error.CompileError.TheVariants.{NoSuchColumn}
use Rattle.sqlite_resolve.specs.Lowering.{take_slot, fresh, max_budget, nothing}
use Rattle.sqlite_resolve.specs.Scope.{Name, declared, is_rowid}
use Rattle.sqlite_resolve.specs.Expr.{lower}
use Rattle.sqlite_resolve.specs.Terms.{number}
use Rattle.sqlite_resolve.specs.Body.{table_in, bound, bounds, outputs, outputs_from, shown, heading, is_column, declared as declared_name, result, tests, joins, join, shared, inner_join, matching, body}
use Rattle.sqlite_resolve.specs.Order.{keys, sorts}
use Rattle.sqlite_resolve.specs.Select.{outermost, having, parts, ungrouped, assembled, named}
use Rattle.cov_sql.proofs.Columns.{the_bound, state_at, context_of, found_is, lowered, not_lowered}

-- the text shows these columns
abbrev pub AreColumns : List Shown → List Name → Type 0
AreColumns [] [] = Unit {0}
AreColumns [] (n ∷ ns) = ⊥
AreColumns (s ∷ ss) [] = ⊥
AreColumns (s ∷ ss) (n ∷ ns) = ((e : Expr) × (text : Name) × (out-Shown s ≡ Shown-F.One e None text) × (out-Expr e ≡ Expr-F.Column None n)) × AreColumns ss ns

-- and reads no more than this table
pub record IsPlainCore (core : Core) (name : Name) (names : List Name) : Type 0 where
  pub source : Source
  pub from : (out-Core core).from ≡ source ∷ []
  pub table : (out-Source source).origin ≡ origin.Table name
  pub alias : (out-Source source).alias ≡ None
  pub on : (out-Source source).on ≡ None
  pub using : (out-Source source).using ≡ []
  pub is_left : (out-Source source).is_left ≡ false
  pub distinct : (out-Core core).distinct ≡ false
  pub filter : (out-Core core).filter ≡ None
  pub group : (out-Core core).group ≡ []
  pub having : (out-Core core).having ≡ None
  pub shown : AreColumns (out-Core core).shown names

-- where the columns of these names are
abbrev pub AreFound : Table → List Name → List (ℕ × Column) → Type 0
AreFound t [] [] = Unit {0}
AreFound t [] (p ∷ ps) = ⊥
AreFound t (n ∷ ns) [] = ⊥
AreFound t (n ∷ ns) (p ∷ ps) = ((column_named t n ≡ Some p.0) × (slice_get t.columns p.0 ≡ Some p.1)) × AreFound t ns ps

abbrev pub Affords : List (ℕ × Column) → ℕ → Type 0
Affords [] budget = Unit {0}
Affords (p ∷ ps) budget = (nat_lt 1 budget ≡ true) × Affords ps (budget - 1)

abbrev pub budget_after : List (ℕ × Column) → ℕ → ℕ
budget_after [] budget = budget
budget_after (p ∷ ps) budget = budget_after ps (budget - 1)

-- the same, by the names alone
abbrev pub Spends : List Name → ℕ → Type 0
Spends [] budget = Unit {0}
Spends (n ∷ ns) budget = (nat_lt 1 budget ≡ true) × Spends ns (budget - 1)

-- the table has the columns up to one, and lacks that one, whose name is no rowid's
abbrev pub IsLacking : Table → List Name → Type 0
IsLacking t [] = ⊥
IsLacking t (n ∷ ns) = ((column_named t n ≡ None) × (is_rowid n ≡ false)) ⊎ ((p : ℕ × Column) × ((column_named t n ≡ Some p.0) × (slice_get t.columns p.0 ≡ Some p.1)) × IsLacking t ns)

module _ (t : Table) where
  abbrev pub output_of : ℕ × Column → Output
  output_of p = record { name = p.1.name; is_alias = false; is_column = true; term = col 1 (place_of t p.0); carried = declared t p.0 p.1 }

  abbrev pub last_after : List (ℕ × Column) → Carried → Carried
  last_after [] last = last
  last_after (p ∷ ps) last = last_after ps (declared t p.0 p.1)

module _ (schema : Schema) (name : Name) (at : ℕ) (t : Table) (is : slice_get schema.tables at ≡ Some t) where
  shown_is : (s : Shown) (n : Name) (p : ℕ × Column) (e : Expr) (text : Name) → out-Shown s ≡ Shown-F.One e None text → out-Expr e ≡ Expr-F.Column None n → column_named t n ≡ Some p.0
      → slice_get t.columns p.0 ≡ Some p.1 → (done : List Output) (budget : ℕ) (last : Carried) → nat_lt 1 budget ≡ true
      → shown lower (context_of schema name at [] true) (the_bound name at ∷ []) done s (state_at budget last) ≡ Ok (done ++ output_of t p ∷ [], state_at (budget - 1) (declared t p.0 p.1))
  unfolding shown heading is_column declared_name
  shown_is s n p e text one column has there done budget last enough =
      rw (one, lowered schema name at t is true n p.0 has p.1 there e column budget last enough, column, found_is schema name at t is true n p.0 has, is, there) refl

  outputs_are : (ss : List Shown) (ns : List Name) (ps : List (ℕ × Column)) → AreColumns ss ns → AreFound t ns ps → (done : List Output) (budget : ℕ) (last : Carried) → Affords ps budget
      → outputs_from lower (context_of schema name at [] true) (the_bound name at ∷ []) done ss (state_at budget last) ≡ Ok (done ++ map (output_of t) ps, state_at (budget_after ps budget) (last_after t ps last))
  outputs_are [] [] [] written found done budget last enough = rw append-nil refl
  outputs_are [] [] (p ∷ ps) written found done budget last enough = absurd found
  outputs_are [] (n ∷ ns) ps written found done budget last enough = absurd written
  outputs_are (s ∷ ss) [] ps written found done budget last enough = absurd written
  outputs_are (s ∷ ss) (n ∷ ns) [] written found done budget last enough = absurd found
  outputs_are (s ∷ ss) (n ∷ ns) (p ∷ ps) written found done budget last enough =
      rw (shown_is s n p written.0.0 written.0.1 written.0.2 written.0.3 found.0.0 found.0.1 done budget last enough.0)
      (outputs_are ss ns ps written.1 found.1 (done ++ output_of t p ∷ []) (budget - 1) (declared t p.0 p.1) enough.1 ∙ rw append_assoc refl)

  not_shown : (s : Shown) (n : Name) (e : Expr) (text : Name) → out-Shown s ≡ Shown-F.One e None text → out-Expr e ≡ Expr-F.Column None n → column_named t n ≡ None → is_rowid n ≡ false
      → (done : List Output) (budget : ℕ) (last : Carried) → nat_lt 1 budget ≡ true
      → shown lower (context_of schema name at [] true) (the_bound name at ∷ []) done s (state_at budget last) ≡ Err NoSuchColumn
  unfolding shown
  not_shown s n e text one column none other done budget last enough = rw (one, not_lowered schema name at t is true n none other e column budget last enough) refl

  outputs_lack : (ss : List Shown) (ns : List Name) → AreColumns ss ns → IsLacking t ns → (done : List Output) (budget : ℕ) (last : Carried) → Spends ns budget
      → outputs_from lower (context_of schema name at [] true) (the_bound name at ∷ []) done ss (state_at budget last) ≡ Err NoSuchColumn
  outputs_lack [] [] written lacks done budget last enough = absurd lacks
  outputs_lack [] (n ∷ ns) written lacks done budget last enough = absurd written
  outputs_lack (s ∷ ss) [] written lacks done budget last enough = absurd written
  outputs_lack (s ∷ ss) (n ∷ ns) written (inl none) done budget last enough =
      rw (not_shown s n written.0.0 written.0.1 written.0.2 written.0.3 none.0 none.1 done budget last enough.0) refl
  outputs_lack (s ∷ ss) (n ∷ ns) written (inr later) done budget last enough =
      rw (shown_is s n later.0 written.0.0 written.0.1 written.0.2 written.0.3 later.1.0 later.1.1 done budget last enough.0)
      (outputs_lack ss ns written.1 later.2 (done ++ output_of t later.0 ∷ []) (budget - 1) (declared t later.0.0 later.0.1) enough.1)

module _ (schema : Schema) (core : Core) (name : Name) (names : List Name) (plain : IsPlainCore core name names) where
  bound_is : (at : ℕ) → table_named schema name ≡ Some at → bound schema plain.source (fresh 1 max_budget) ≡ Ok (the_bound name at, state_at max_budget nothing)
  unfolding bound take_slot table_in
  bound_is at named = rw (plain.table, plain.alias, plain.using, named) refl

  bounds_are : (at : ℕ) → table_named schema name ≡ Some at → bounds schema (plain.source ∷ []) (fresh 1 max_budget) ≡ Ok (the_bound name at ∷ [], state_at max_budget nothing)
  unfolding bounds
  bounds_are at named = rw (bound_is at named) refl

  module _ (at : ℕ) (is_named : table_named schema name ≡ Some at) (t : Table) (is : slice_get schema.tables at ≡ Some t) (lacks : IsLacking t names) (enough : Spends names max_budget) where
    no_result : result lower (outermost schema) (record { tables = the_bound name at ∷ []; shown = [] }) core (state_at max_budget nothing) ≡ Err NoSuchColumn
    unfolding result outputs
    no_result = outputs_lack schema name at t is (out-Core core).shown names plain.shown lacks [] max_budget nothing enough

    pub named_no_column : named schema core [] (lit (Int (negsuc 0)), number 0) ≡ Err NoSuchColumn
    unfolding named parts body
    named_no_column = rw (plain.from, bounds_are at is_named, no_result) refl

  module _ (at : ℕ) (is_named : table_named schema name ≡ Some at) (t : Table) (is : slice_get schema.tables at ≡ Some t) (ps : List (ℕ × Column)) (found : AreFound t names ps) (enough : Affords ps max_budget) where
    abbrev final : State
    final = state_at (budget_after ps max_budget) (last_after t ps nothing)

    abbrev level : Level
    level = record { tables = the_bound name at ∷ []; shown = map (output_of t) ps }

    result_is : result lower (outermost schema) (record { tables = the_bound name at ∷ []; shown = [] }) core (state_at max_budget nothing) ≡ Ok (map (output_of t) ps, final)
    unfolding result outputs
    result_is = outputs_are schema name at t is (out-Core core).shown names ps plain.shown found [] max_budget nothing enough

    matching_is : (s : State) → matching lower (outermost schema) level core s ≡ Ok (record { steps = Inner t.tree ∷ []; filter = [] }, s)
    unfolding matching joins join shared inner_join tests
    matching_is s = rw (plain.from, plain.on, plain.using, plain.is_left, plain.filter, is) refl

    body_is : body lower (outermost schema) core (fresh 1 max_budget) ≡ Ok (record { level = level; steps = Inner t.tree ∷ []; filter = [] }, final)
    unfolding body
    body_is = rw (plain.from, bounds_are at is_named, result_is, matching_is final) refl

    abbrev pub names_of : List (ℕ × Column) → List Name
    names_of = map (λ p. p.1.name)

    abbrev pub draft : Draft
    draft = record {
      from = inner t.tree end;
      filter = [];
      group = None;
      project = map (λ p. col 1 (place_of t p.0)) ps;
      distinct = false;
      collations = [];
      order = [];
      limit = lit (Int (negsuc 0));
      offset = number 0;
    }

    parts_is : parts schema core [] (fresh 1 max_budget)
        ≡ Ok (record { body = record { level = level; steps = Inner t.tree ∷ []; filter = [] }; is_grouped = false; keys = []; collations = []; having = []; order = [] }, final)
    unfolding parts keys sorts having tests
    parts_is = rw (body_is, plain.group, plain.having) refl

    mapped : {X Y Z : Type 0} (f : X → Y) (g : Y → Z) (xs : List X) → map g (map f xs) ≡ map (λ x. g (f x)) xs
    mapped f g [] = refl
    mapped f g (x ∷ xs) = ap (λ r. g (f x) ∷ r) (mapped f g xs)

    pub named_is : named schema core [] (lit (Int (negsuc 0)), number 0) ≡ Ok (draft, names_of ps, map (λ p. (declared t p.0 p.1).collation) ps)
    unfolding named assembled ungrouped
    named_is = rw (parts_is, plain.distinct, mapped (output_of t) (λ o. o.term) ps, mapped (output_of t) (λ o. o.name) ps, mapped (output_of t) (λ o. o.carried.collation) ps) refl
