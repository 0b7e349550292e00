-- Programs over some objects of `make`, among all of them.
use Rattle.std.proofs.Common.{inl, inr, refl, ap, Result}
use Rattle.cov_exclude.specs.declared.maker.Maker.{Ghosts as MakerOf}
use Rattle.cov_outside.specs.declared.sink.Sink.{Ghosts as SinkOf}
use Rattle.cov_programs.specs.Ends.{Follows}
use Rattle.cov_programs.specs.Objects.{beside}
use Rattle.cov_programs.proofs.Composing.{among, on-left, on-right}
use Rattle.cov_step.specs.Calls.{Answer, Call, IsNoMemory, Step}
use Rattle.cov_step.specs.Objects.{on_maker, on_sink}
use Rattle.cov_streams.specs.Trials.{on_trial}
use Rattle.cov_why.specs.Answers.{PlainWhy}

module _ {M O A : Type 0} (maker : MakerOf M) (sink : SinkOf O) {p : Step A}
    {e : Result A PlainWhy} where
  -- the maker
  pub maker-first : {m m' : M} (o : O) → Follows (on_maker maker) IsNoMemory p m e m'
      → Follows (beside (beside on_trial (on_maker maker)) (on_sink sink)) IsNoMemory p
      ((tt, m), o) e ((tt, m'), o)
  maker-first o f =
      on-left (beside on_trial (on_maker maker)) (on_sink sink) o
      (on-right on_trial (on_maker maker) tt f)

  -- nobody's objects and the output
  pub past-maker : {o o' : O} (m : M)
      → Follows (beside on_trial (on_sink sink)) IsNoMemory p (tt, o) e (tt, o')
      → Follows (beside (beside on_trial (on_maker maker)) (on_sink sink)) IsNoMemory p
      ((tt, m), o) e ((tt, m), o')
  past-maker m f =
      among (beside on_trial (on_sink sink))
      (beside (beside on_trial (on_maker maker)) (on_sink sink)) IsNoMemory
      (λ (s : Unit {0} × O). ((s.0, m), s.1)) moved f
    where
      moved : (old : Unit {0} × O) (call : Call) (answer : Answer call) (new : Unit {0} × O)
          → beside on_trial (on_sink sink) old call answer new
          → beside (beside on_trial (on_maker maker)) (on_sink sink) ((old.0, m), old.1) call
          answer ((new.0, m), new.1)
      moved old call answer new (inl (n, same)) = inl (inl (n, refl), same)
      moved old call answer new (inr (n, same)) = inr (n, ap (λ u. (u, m)) same)
