-- What the types of the code stand for.
use Rattle.std.specs.Prelude.{ℕ, List, map}
use Rattle.std.specs.Borrow.{Bor}
use Rattle.std.specs.BTreeSet.{contains}
use Rattle.std.specs.Ordering.{nat_cmp}
use Rattle.cov_lcov.specs.Annotated.{mark_by}
use Rattle.cov_lcov.specs.declared.annotating.Marks.{Marks}

-- the bytes of texts
abbrev pub texts_view : List (Bor (List ℕ)) → List (List ℕ)
texts_view texts = map (λ text. text.now) texts

-- the mark of a line by sets of lines
abbrev pub mark_in : Marks → ℕ → List ℕ
mark_in marks =
    let has = contains nat_cmp in
    mark_by (has marks.missing) (has marks.statements) (has marks.excluded)
