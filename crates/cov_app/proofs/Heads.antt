-- The headline of a whole call.
use Rattle.std.proofs.Common.{◌≡◌, ◌≢◌, ◌∙◌, inl, inr, ℕ, ◌≤◌, refl, ap, List, Result, Ok, Err, arith}
use Rattle.cov_contexts.specs.declared.plugins.Plugin.{Ghosts as PluginOf}
use Rattle.cov_exclude.specs.declared.maker.Maker.{Ghosts as MakerOf}
use Rattle.cov_outside.specs.Counts.{Rose}
use Rattle.cov_outside.specs.declared.shelf.Shelf.{Ghosts as ShelfOf}
use Rattle.cov_outside.specs.declared.sink.Sink.{Ghosts as SinkOf}
use Rattle.cov_outside.specs.declared.source.Source.{Ghosts as SourceOf}
use Rattle.py_machine.specs.declared.engine.Engine.{Ghosts as EngineOf}
use Rattle.cov_vault.specs.declared.vault.Vault.{Ghosts as VaultOf}
use Rattle.cov_headline.specs.Headline.{HeadlineLaw}
use Rattle.cov_headline.specs.Told.{Lent, on_lent, NoneRose}
use Rattle.cov_programs.specs.Ends.{Follows}
use Rattle.cov_programs.specs.Laws.{IsFed}
use Rattle.cov_step.specs.Calls.{Answered, IsNoMemory}
use Rattle.cov_step.specs.Objects.{Saying, SayOf}
use Rattle.cov_step.specs.Step.{step}
use Rattle.cov_why.specs.Answers.{PlainWhy, no_memory}
use Rattle.cov_why.specs.Messages.{message_of}
use Rattle.cov_words.specs.Values.{Word}
use Rattle.cov_app.specs.Heads.{HeadsWhere}
use Rattle.cov_app.specs.Objects.{on_all}
use Rattle.cov_app.specs.Taken.{why_of, ending_in}
use Rattle.cov_app.proofs.Said.{GoesOn, says-on}

rose-first : (a b c : ℕ) → b ≤ c → (Rose a c → ⊥) → Rose a b → ⊥
rose-first a b c h n (inl less) = n (inl (omega (arith, h, less)))
rose-first a b c h n (inr full) = n (inr (omega (arith, h, full)))

rose-second : (a b c : ℕ) → a ≤ b → (Rose a c → ⊥) → Rose b c → ⊥
rose-second a b c h n (inl less) = n (inl (omega (arith, h, less)))
rose-second a b c h n (inr full) = n (inr full)

fed-so : (e : Result Answered PlainWhy) (why : PlainWhy) → why ≡ why_of e → why ≢ Err no_memory → IsFed IsNoMemory e
fed-so (Ok a) why is n = tt
fed-so (Err w) why is n = λ h. n (is ∙ h)

module _ {H V M I O P G E : Type 0} (shelf : ShelfOf H) (vault : VaultOf V) (maker : MakerOf M) (source : SourceOf I) (sink : SinkOf O) (plugin : PluginOf P) (engine : EngineOf G) (err : SinkOf E) where
  -- what is said at last counts no fault where none was counted in all
  pub heads-so : HeadlineLaw shelf vault maker source sink plugin engine err → (words : List Word) (old mid : Lent H V M I O P G E) (last : Saying E) (e : Result Answered PlainWhy) (why : PlainWhy) → why ≡ why_of e
      → Follows (on_lent shelf vault maker source sink plugin engine err) IsNoMemory (step words) old e mid → SayOf err mid.1 (message_of why (ending_in e)) last
      → HeadsWhere shelf vault maker source sink plugin engine err words why old (mid.0, last)
  heads-so law words old mid last e why is f said tells none full = record {
    ending = e;
    before = _;
    kept = law words old mid e tells no_earlier (fed-so e why is full) f;
    answered = is;
    said = record {
      said = λ w. said.said w tells.said;
      not_failed = λ w failed. rose-second (err.faults old.1.sink) (err.faults mid.1.sink) (err.faults last.sink) on.count none.said (said.rose w failed);
      over = λ w. ap (λ (s : Saying E). record { sink = err.contents s.sink; told = s.told }) (said.over w);
    };
    rest = refl;
  }
    where
      on : GoesOn err old.1 mid.1
      on = says-on (on_all shelf vault maker source sink plugin engine) err (step words) old mid e f

      no_earlier : NoneRose shelf vault maker source sink err old mid
      no_earlier = record {
        files = none.files;
        contents = none.contents;
        patterns = none.patterns;
        input = none.input;
        out = none.out;
        said = rose-first (err.faults old.1.sink) (err.faults mid.1.sink) (err.faults last.sink) said.count none.said;
      }
