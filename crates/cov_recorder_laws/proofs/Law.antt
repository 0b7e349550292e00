-- The arcs or lines in the data of a recorder are those that its events tell, and those that a run's
-- items cross.
use Rattle.std.proofs.Common.{All, ◌≡◌, ◌↔◌, ℕ, ℤ, pos, List, [], ◌∷◌, Option, Contains, refl, ap, sym, ◌∙◌}
use Rattle.std.specs.List.{fold}
use Rattle.std.specs.BTreeSet.{insert_key}
use Rattle.std.proofs.lemmas.List.Elements.{recursion_from_All}
use Rattle.cov_data.specs.DataSet.{Text}
use Rattle.cov_data.specs.Rows.{arc_cmp}
use Rattle.py_meaning.specs.Activations.{Items}
use Rattle.py_meaning.specs.Crossings.{crossings, lines_crossed, ordered}
use Rattle.py_meaning.specs.Events.{events_in}
use Rattle.py_meaning.specs.Loading.{loaded}
use Rattle.py_meaning.specs.Modules.{LoadedModule}
use Rattle.py_meaning.specs.Program.{run_modules, meaning, called}
use Rattle.cov_arcs.specs.Laws.{firsts_of, ArcsAgree, ProgramArcsLaw, ModulesArcsLaw, CallArcsLaw}
use Rattle.cov_arcs.specs.Told.{arcs_told}
use Rattle.cov_recorder.specs.Plan.{Plan}
use Rattle.cov_recorder.specs.Recording.{Recording}
use Rattle.cov_recorder_laws.specs.Laws.{first_lines, IsKnown, RecordedStepsLaw, KeepsMeaning, ProgramStepsLaw, ModulesStepsLaw, CallStepsLaw}
use Rattle.cov_recorder_laws.proofs.Pairs.{among, among-Contains, Contains-among, among-in_order, arcs_of-has, lines_of-has}
use Rattle.cov_recorder_laws.proofs.Walk.{from_first, kind-first}
use Rattle.cov_recorder_laws.proofs.Beside.{events-told}
use Rattle.cov_recorder_laws.proofs.Lines as lines
use Rattle.cov_recorder_laws.proofs.Known.{modules-known, call-known}

-- arcs in order, each once, are the same arcs
pub ordered-is : (arcs found : List (ℤ × ℤ)) → ordered found arcs ≡ fold (insert_key arc_cmp) found arcs
unfolding ordered
ordered-is [] found = refl
ordered-is (a ∷ arcs) found = ordered-is arcs (insert_key arc_cmp found a)

pub in_order : (xs ys : List (ℤ × ℤ)) → ordered [] xs ≡ ys → (a : ℤ × ℤ) → Contains xs a ↔ Contains ys a
in_order xs ys e a =
    let same : among a ys ≡ among a xs = ap (among a) (sym e ∙ ordered-is xs []) ∙ among-in_order a xs in (
      λ h. among-Contains a ys (same ∙ Contains-among a xs h),
      λ h. among-Contains a xs (sym same ∙ Contains-among a ys h),
    )

module _ {S C : Type 0} (asks : C → Text → Text → Option (List ℕ) → C → Type 0) (state : S → Recording × C) where
  pub recorded_law : RecordedStepsLaw asks state
  recorded_law plan events new known took =
      let each = recursion_from_All (IsKnown plan) events known in
      let d = (state new).0.data in
      let has = from_first asks state plan events new took in
      record {
        arcs = λ kind path a.
            let is = arcs_of-has d (kind-first asks state plan events new took ∙ kind) path a in
            let told = events-told plan path a kind [] tt events each in
            (λ h. told.0 ((has path a).0 (is.0 h)), λ h. is.1 ((has path a).1 (told.1 h)));
        lines = λ kind path line some.
            let is = lines_of-has d path line in
            let row : ℤ × ℤ = (pos line, pos line) in (
              λ h. let at = is.0 h in lines.events-found plan path line some kind [] tt events each at.0 ((has path at.0).0 at.1) at.2,
              λ h. is.1 (row, (has path row).1 (lines.events-told plan path line some kind [] tt events each h), lines.own_line line some),
            );
      }

  -- arcs that agree, and events that are known
  keeps : (ms : List LoadedModule) (items : Items) → ArcsAgree ms items → ((plan : Plan) → first_lines plan ≡ firsts_of ms → All (IsKnown plan) (events_in items)) → KeepsMeaning asks state ms items
  keeps ms items agree known plan new same took =
      let recorded = recorded_law plan (events_in items) new (known plan same) took in
      let s = λ (m : ℕ). in_order (arcs_told (first_lines plan) m [] (events_in items)) (lines_crossed (crossings ms m items))
      (ap (λ firsts. ordered [] (arcs_told firsts m [] (events_in items))) same ∙ agree.told m) in
      record {
        arcs = λ kind path a.
            let is = recorded.arcs kind path a in (
              λ h. let x = is.0 h in (x.0, x.1, x.2, (s x.0 a).0 x.3),
              λ x. is.1 (x.0, x.1, x.2, (s x.0 a).1 x.3),
            );
        lines = λ kind path line some.
            let is = recorded.lines kind path line some in (
              λ h. let x = is.0 h in (x.0, x.1, x.2, x.3, (s x.0 (x.1, pos line)).0 x.4),
              λ x. is.1 (x.0, x.1, x.2, x.3, (s x.0 (x.1, pos line)).1 x.4),
            );
      }

  pub modules_law : ModulesArcsLaw → ModulesStepsLaw asks state
  modules_law agree ms some lines words input budget =
      keeps ms (run_modules ms words input budget).items (agree ms words input budget) (λ plan same. modules-known ms lines plan same some words input budget)

  pub program_law : ProgramArcsLaw → ProgramStepsLaw asks state
  unfolding meaning
  program_law agree program some lines words input budget =
      keeps (loaded program) (meaning program words input budget).items (agree program words input budget) (λ plan same. modules-known (loaded program) lines plan same some words input budget)

  pub call_law : CallArcsLaw → CallStepsLaw asks state
  call_law agree ms lines w input r budget =
      keeps ms (called ms w input r budget).items (agree ms w input r budget) (λ plan same. call-known ms lines plan same w input r budget)
