use Rattle.std.proofs.Common.{◌≡◌, ◌≢◌, inl, inr, ℕ, List, Result, Err, sym, ap, ◌∙◌, subst}
use Rattle.cov_outside.specs.declared.shelf.ShelfError.{ShelfError}
use Rattle.cov_outside.specs.declared.shelf.ShelfError.TheVariants.{Absent, Failed}
use Rattle.cov_why.specs.Answers.{no_memory, no_source}
use Rattle.cov_why.proofs.Refusing.{refused-map, is-memory}
use Rattle.cov_run.specs.Alone.{SourceComes, ReadsAlone}
use Rattle.cov_run.proofs.alone.load_source.Goals as goal

pub returns-in-Err-Absent-clause-reads : goal.returns-in-Err-Absent-clause-reads
returns-in-Err-Absent-clause-reads g c =
    refused-map c.no_source.result (λ r. r ≢ no_memory → r ≡ no_source c.args.path.now) (λ r. ReadsAlone g.H.Shelf.reads g.H.Shelf.faults c.args.shelf.now c.args.path.now (Err r) c.read.new.self)
    (λ r k. record {
      answer = Err c.in-Err-Absent.field-0;
      led = c.in-Err-Absent.ensures.moved;
      failed = λ e. absurd (other c.in-Err-Absent.field-0 c.in-Err-Absent.field-0-is e);
      comes = subst (λ x. SourceComes c.args.path.now (Err x) (Err r)) (sym c.in-Err-Absent.field-0-is) (elim (is-memory r) [ inl e ↦ inr (ap (λ x. Err x) e) | inr other ↦ inl (ap (λ x. Err x) (k other)) ]);
    })
    c.no_source.ensures
  where
    other : (e : ShelfError) → e ≡ Absent → ◌≡◌ {A = Result (List ℕ) ShelfError} (Err e) (Err Failed) → ⊥
    other e is same = let q : ◌≡◌ {A = Result (List ℕ) ShelfError} (Err Absent) (Err Failed) = ap (λ x. Err x) (sym is) ∙ same in cc
