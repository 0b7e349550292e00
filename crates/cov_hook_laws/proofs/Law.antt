-- A hook of faithful code does what its trees mean.
use Rattle.std.proofs.Common.{◌≡◌, ◌<◌, ◌↔◌, ℕ, List, [], ◌∷◌, length, Option, Some, None, Contains, ap, sym, subst, ◌∙◌}
use Rattle.py_builtins.specs.World.{World}
use Rattle.py_code.specs.Programs.{Reply}
use Rattle.py_code.specs.Units.{Module}
use Rattle.py_compile.specs.Laws.{UnitsAreFaithful}
use Rattle.py_compile.specs.ProgramRuns.{AreFaithful, as_run, as_reply}
use Rattle.py_meaning.specs.Modules.{LoadedModule}
use Rattle.py_syntax.specs.Tree.{Text}
use Rattle.py_compile_laws.specs.Traces.{AreWellFormed, TracesKept}
use Rattle.cov_hook.specs.Questions.{texts, asking, label_of, world_after_call, AnswersOn, GivesUp}
use Rattle.cov_hook.specs.States.{HookState, with_world, most_steps, opening, opened, world_after_body}
use Rattle.cov_hook_laws.specs.Laws.{with_trees, HooksMean}
use Rattle.cov_hook_laws.specs.MeantHooks as meant
use Rattle.cov_hook_laws.specs.MeantHooks.{MeantHook, meant_opening, meant_opened, meant_call, MeansAnswerOn, MeansAnswer, HasDef, LeavesOff}
use Rattle.cov_hook_laws.proofs.Names.{names}

-- a state by its parts
abbrev state : List Module → Text → Option World → HookState
state cs f w = record { modules = cs; function = f; world = w }

-- states of the same parts
same_state : (cs ds : List Module) (f g : Text) (v w : Option World) → cs ≡ ds → f ≡ g → v ≡ w → state cs f v ≡ state ds g w
same_state cs ds f g v w a b c = ap (λ x. state x f v) a ∙ ap (λ x. state ds x v) b ∙ ap (λ x. state ds g x) c

-- a state, and the same over trees
state_meant : (ms : List LoadedModule) (old new : HookState) (w : Option World)
    → (new ≡ with_world w old) ↔ ((with_trees ms new ≡ meant.with_world w (with_trees ms old)) × (new.modules ≡ old.modules))
state_meant ms old new w = (
  λ e. (ap (with_trees ms) e, ap (λ h. h.modules) e),
  λ h. same_state new.modules old.modules new.function old.function new.world w h.1 (ap (λ x. x.function) h.0) (ap (λ x. x.world) h.0),
)

-- with a label beside it
answer_meant : (ms : List LoadedModule) (old new : HookState) (w : Option World) (label told : Option Text)
    → ((label ≡ told) × (new ≡ with_world w old))
    ↔ (((label ≡ told) × (with_trees ms new ≡ meant.with_world w (with_trees ms old))) × (new.modules ≡ old.modules))
answer_meant ms old new w label told =
    let s = state_meant ms old new w in (
      λ h. let both = s.0 h.1 in ((h.0, both.0), both.1),
      λ h. (h.0.0, s.1 (h.0.1, h.1)),
    )

-- a refused question, which asks for no call
gives_up : (ms : List LoadedModule) (old new : HookState)
    → GivesUp old new ↔ (LeavesOff (with_trees ms old) (with_trees ms new) × (new.modules ≡ old.modules))
gives_up ms old new =
    let s = state_meant ms old new None in (
      λ h. let both = s.0 h.1 in ((h.0, both.0), both.1),
      λ h. (h.0.0, s.1 (h.0.1, h.1)),
    )

-- what an answer says, for any reply
abbrev By : HookState → HookState → Option Text → Reply → Type 0
By old new label reply = (label ≡ label_of reply.returned) × (new ≡ with_world (world_after_call reply.returned reply.world) old)

module _ (kept : TracesKept) where
  opens : (cs : List Module) (ms : List LoadedModule) → AreFaithful cs ms → AreWellFormed ms → 0 < length ms → (path function : Text)
      → with_trees ms (opened cs path function) ≡ meant_opened ms path function
  opens cs ms faithful well some path function =
      let e : opening cs path ≡ as_run (meant_opening ms path) = kept.runs cs ms faithful well some (path ∷ []) [] most_steps in
      ap (λ r. record { modules = ms; function = function; world = world_after_body r.outcome r.world }) e

  module _ (ms : List LoadedModule) (old new : HookState) (faithful : AreFaithful old.modules ms) (well : AreWellFormed ms) («module» function : List ℕ) (label : Option Text) where
    answers_on : (w : Option World)
        → AnswersOn w old «module» function label new
        ↔ (MeansAnswerOn w (with_trees ms old) «module» function label (with_trees ms new) × (new.modules ≡ old.modules))
    answers_on None = answer_meant ms old new old.world label None
    answers_on (Some w) =
        let e : asking old.modules old.function «module» function w ≡ as_reply (meant_call ms old.function «module» function w) =
        kept.calls old.modules ms faithful well w [] (record { number = 0; name = old.function; values = texts «module» function }) most_steps in
        let a = meant_call ms old.function «module» function w in
        let s = answer_meant ms old new (world_after_call a.returned a.world) label (label_of a.returned) in (
          λ h. s.0 (subst (By old new label) e h),
          λ h. subst (By old new label) (sym e) (s.1 h),
        )

pub law : UnitsAreFaithful → TracesKept → HooksMean
law units kept = record {
  opens = λ cs ms faithful well some path function. opens kept cs ms faithful well some path function;
  answers = λ ms old new faithful well «module» function label. answers_on kept ms old new faithful well «module» function label old.world;
  gives_up = gives_up;
  defines = λ cs ms faithful name. let e = names units cs ms faithful in (subst (λ xs. Contains xs name) e, subst (λ xs. Contains xs name) (sym e));
}
