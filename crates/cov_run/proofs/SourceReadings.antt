-- What a source that is read alone comes to.
use Rattle.std.proofs.Common.{◌≡◌, ◌≢◌, inl, inr, ℕ, List, Some, Result, Ok, Err, sym, ap}
use Rattle.py_syntax.specs.Tree.{Stmts}
use Rattle.cov_why.specs.Answers.{Refusal, no_memory, RefusedAs}
use Rattle.cov_why.specs.declared.why.Why.{Why}
use Rattle.cov_why.proofs.Refusing.{refused-map, is-memory}
use Rattle.cov_run.specs.Alone.{PlainSource, or_no_memory, source_of, ReadsText}
use Rattle.cov_run.specs.Reading.{Reading, no_text, long, stuck, no_tree, ill_formed, tree, unread, Reads}
use Rattle.cov_run.specs.Refusals.{refusal_of}

pub made : (path text bytes : List ℕ) (m : Stmts) → text ≡ bytes → ◌≡◌ {A = Result PlainSource Refusal} (Ok (record { path = path; text = text; body = m })) (source_of path bytes (tree m))
made path text bytes m e = ap (λ t. Ok (record { path = path; text = t; body = m })) e

source-refused : (path bytes : List ℕ) (reading : Reading) (r : Refusal) → refusal_of path reading ≡ Some r → ◌≡◌ {A = Result PlainSource Refusal} (Err r) (source_of path bytes reading)
source-refused path bytes (no_text line) r h = ap (λ o. Err (or_no_memory o)) (sym h)
source-refused path bytes (long lines) r h = ap (λ o. Err (or_no_memory o)) (sym h)
source-refused path bytes (stuck error) r h = ap (λ o. Err (or_no_memory o)) (sym h)
source-refused path bytes (no_tree error) r h = ap (λ o. Err (or_no_memory o)) (sym h)
source-refused path bytes (ill_formed error) r h = ap (λ o. Err (or_no_memory o)) (sym h)
source-refused path bytes (tree m) r h = cc
source-refused path bytes unread r h = cc

-- a refusal by a reading, or want of memory
pub refused-reads : (path bytes : List ℕ) (reading : Reading) (w : Why) → Reads bytes reading → RefusedAs w (λ r. r ≢ no_memory → refusal_of path reading ≡ Some r) → RefusedAs w (λ r. ReadsText path bytes (Err r))
refused-reads path bytes reading w read h =
    refused-map w (λ r. r ≢ no_memory → refusal_of path reading ≡ Some r) (λ r. ReadsText path bytes (Err r)) (λ r k. elim (is-memory r) [ inl e ↦ (unread, tt, ap (λ x. Err x) e) | inr other ↦ (reading, read, source-refused path bytes reading r (k other)) ]) h
