-- The last calls of reports, under other names of the same texts and endings.
use Rattle.std.proofs.Common.{◌≡◌, ℕ, List, [], ◌∷◌, map, refl, ap, subst, Result, Ok, IfOk, String, string_bytes}
use Rattle.std.specs.declared.alloc.Global.{Global}
use Rattle.cov_analysis.specs.Analyses.{AnalysisView, analysis_view}
use Rattle.cov_analysis.specs.Counts.{numbers_of, total_of}
use Rattle.cov_analysis.specs.declared.analysis.Analysis.{Analysis}
use Rattle.cov_analysis.specs.declared.numbers.Numbers.{Numbers}
use Rattle.cov_outside.specs.declared.shelf.Shelf.{Ghosts as ShelfOf}
use Rattle.cov_outside.specs.declared.sink.Sink.{Ghosts as SinkOf}
use Rattle.cov_words.specs.Values.{Word}
use Rattle.cov_programs.specs.Objects.{beside}
use Rattle.cov_programs.specs.Ends.{Follows}
use Rattle.cov_why.specs.Answers.{PlainWhy}
use Rattle.cov_step.specs.Calls.{Answered, IsNoMemory}
use Rattle.cov_step.specs.Objects.{on_shelf, on_sink}
use Rattle.cov_step.specs.Phases.{judged, judged_by, put_last, write_last}

numbers-of-views : (files : List Analysis) → map numbers_of files ≡ map (λ (f : AnalysisView). f.numbers) (map analysis_view files)
numbers-of-views [] = refl
numbers-of-views (f ∷ files) = ap (λ ns. numbers_of f ∷ ns) (numbers-of-views files)

-- files are judged by their numbers
pub judged-views : (least : ℕ) (files : List Analysis) → judged_by least (total_of (map numbers_of files)) ≡ judged least (map analysis_view files)
judged-views least files = ap (λ (ns : List Numbers). judged_by least (total_of ns)) (numbers-of-views files)

pub written-so : {O : Type 0} (sink : SinkOf O) {bytes also : List ℕ} {a same : Answered} {old new : O} {e : Result Answered PlainWhy} → bytes ≡ also → a ≡ same
    → Follows (on_sink sink) IsNoMemory (write_last bytes a) old e new → Follows (on_sink sink) IsNoMemory (write_last also same) old e new
written-so sink {bytes = bytes} {same = same} {old = old} {new = new} {e = e} is too f =
    subst (λ b. Follows (on_sink sink) IsNoMemory (write_last b same) old e new) is (subst (λ x. Follows (on_sink sink) IsNoMemory (write_last bytes x) old e new) too f)

pub put-so : {H O : Type 0} (shelf : ShelfOf H) (sink : SinkOf O) (name : Word) {bytes also : List ℕ} {a same : Answered} {old new : H × O} {e : Result Answered PlainWhy} → bytes ≡ also → a ≡ same
    → Follows (beside (on_shelf shelf) (on_sink sink)) IsNoMemory (put_last name bytes a) old e new → Follows (beside (on_shelf shelf) (on_sink sink)) IsNoMemory (put_last name also same) old e new
put-so shelf sink name {bytes = bytes} {same = same} {old = old} {new = new} {e = e} is too f =
    subst (λ b. Follows (beside (on_shelf shelf) (on_sink sink)) IsNoMemory (put_last name b same) old e new) is
    (subst (λ x. Follows (beside (on_shelf shelf) (on_sink sink)) IsNoMemory (put_last name bytes x) old e new) too f)

-- ---- a text that was made, where memory sufficed

pub text-is : {E : Type 0} (r : Result (String Global) E) (text : String Global) (bytes : List ℕ) → r ≡ Ok text → IfOk r (λ t. string_bytes t ≡ bytes) → string_bytes text ≡ bytes
text-is r text bytes is made = subst (λ x. IfOk x (λ t. string_bytes t ≡ bytes)) is made

-- of the same list of analyses
pub text-of : {E : Type 0} (r : Result (String Global) E) (bytes_of : List Analysis → List ℕ) {files also : List Analysis} → files ≡ also → IfOk r (λ t. string_bytes t ≡ bytes_of files) → IfOk r (λ t. string_bytes t ≡ bytes_of also)
text-of r bytes_of is made = subst (λ fs. IfOk r (λ t. string_bytes t ≡ bytes_of fs)) is made
