-- A table has all the columns, or lacks one.
use Rattle.std.proofs.Common.{◌≡◌, ◌⊎◌, inl, inr, ℕ, suc, ◌+◌, arith, cond, List, [], ◌∷◌, map, slice_get, Bool, true, false, Option, Some, None, option_map, option_and_then, refl, ap, ◌∙◌}
use Rattle.std.specs.List.{position_from}
use Rattle.std.proofs.lemmas.Option.{same_Some}
use Rattle.sqlite_schema.specs.Names.{column_named, place_of}
use Rattle.sqlite_schema.specs.declared.schema.Table.{Table}
use Rattle.sqlite_schema.specs.declared.schema.Column.{Column}
use Rattle.sqlite_resolve.specs.Scope.{Name, is_rowid}
use Rattle.cov_sql.specs.Tables.{places_in}
use Rattle.cov_sql.proofs.Selects.{AreFound, IsLacking}

abbrev pub AreOrdinary : List Name → Type 0
AreOrdinary [] = Unit {0}
AreOrdinary (n ∷ ns) = (is_rowid n ≡ false) × AreOrdinary ns

abbrev pub Splits : Table → List Name → Type 0
Splits t ns = ((ps : List (ℕ × Column)) × AreFound t ns ps × (places_in t ns ≡ Some (map (λ p. place_of t p.0) ps))) ⊎ (IsLacking t ns × (places_in t ns ≡ None))

none_then : {A : Type 0} (f : ℕ → List A → List A) (o : Option ℕ) → option_and_then (λ k. option_map (f k) None) o ≡ None
none_then f None = refl
none_then f (Some k) = refl

abbrev Stands : {A : Type 0} → List A → ℕ → ℕ → Type 0
Stands {A} xs i k = (j : ℕ) × (x : A) × (k ≡ i + j) × (slice_get xs j ≡ Some x)

found_next : {A : Type 0} (b : Bool) (i : ℕ) (x : A) (xs : List A) (k : ℕ) (later : Option ℕ) → (later ≡ Some k → Stands xs (i + 1) k) → cond b (Some i) later ≡ Some k → Stands (x ∷ xs) i k
found_next true i x xs k later rest h = (0, x, omega (arith, same_Some i k h), refl)
found_next false i x xs k later rest h = let r = rest h in (suc r.0, r.1, omega (arith, r.2), r.3)

found_from : {A : Type 0} (p : A → Bool) (i : ℕ) (xs : List A) (k : ℕ) → position_from p i xs ≡ Some k → Stands xs i k
found_from p i [] k h = absurd cc
found_from p i (x ∷ xs) k h = found_next (p x) i x xs k (position_from p (i + 1) xs) (found_from p (i + 1) xs k) h

pub found_at : {A : Type 0} (p : A → Bool) (xs : List A) (k : ℕ) → position_from p 0 xs ≡ Some k → (x : A) × (slice_get xs k ≡ Some x)
found_at p xs k h = let found = found_from p 0 xs k h in (found.1, ap (slice_get xs) (omega (arith, found.2)) ∙ found.3)

pub either : {A : Type 0} (o : Option A) → ((x : A) × (o ≡ Some x)) ⊎ (o ≡ None)
either None = inr refl
either (Some x) = inl (x, refl)

pub splits : (t : Table) (ns : List Name) → AreOrdinary ns → Splits t ns
splits t [] plain = inl ([], tt, refl)
splits t (n ∷ ns) plain = by (either (column_named t n)) (splits t ns plain.1)
  where
    by : ((k : ℕ) × (column_named t n ≡ Some k)) ⊎ (column_named t n ≡ None) → Splits t ns → Splits t (n ∷ ns)
    by (inr none) rest = inr (inl (none, plain.0), rw none refl)
    by (inl has) (inr lacks) = let c = found_at _ t.columns has.0 has.1 in inr (inr ((has.0, c.0), (has.1, c.1), lacks.0), rw (has.1, lacks.1) refl)
    by (inl has) (inl all) = let c = found_at _ t.columns has.0 has.1 in inl ((has.0, c.0) ∷ all.0, ((has.1, c.1), all.1), rw (has.1, all.2) refl)
