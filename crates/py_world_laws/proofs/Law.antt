-- Worlds fit at first, and runs and calls keep it so.
use Rattle.std.proofs.Common.{ℕ, List, [], ◌∷◌, ◌++◌, map, None, refl, arith}
use Rattle.std.specs.Prelude.{Result, Ok, Err}
use Rattle.py_value.specs.Plain.{PlainValue, str_value, PlainHeap, PlainRaised}
use Rattle.py_builtins.specs.Attributes.{or_raise}
use Rattle.py_builtins.specs.Faults.{name_unknown}
use Rattle.py_builtins.specs.World.{global_of}
use Rattle.py_code.specs.Configurations.{Effects, Ended, gave, failed, spent, stuck}
use Rattle.py_code.specs.Machine.{outermost, outer_call}
use Rattle.py_code.specs.Programs.{first_world, no_names, at_rest, script, returned_by, reach_global, end_of_run, run, end_of_call, called}
use Rattle.py_code.specs.Slots.{by_slots}
use Rattle.py_code.specs.Units.{Module}
use Rattle.py_world_laws.specs.Frames.{SuitsEnded}
use Rattle.py_world_laws.specs.Laws.{values_given, FirstFits, RunsKeep, CallsKeep, FewerFit}
use Rattle.py_world_laws.specs.Suits.{Environment, Suits, Suit, SuitAll, GlobalsSuit, WorldSuits}
use Rattle.py_world_laws.proofs.Addresses.{env_of, world_suits, more_suit}
use Rattle.py_world_laws.proofs.Calls.{Reaches, at_once_suits, reached}
use Rattle.py_world_laws.proofs.Environments.{fits_so}
use Rattle.py_world_laws.proofs.Moves.{follows_keep, begins, outer}
use Rattle.py_world_laws.proofs.Names.{or_raise_suits, global_suits}
use Rattle.py_world_laws.proofs.Results.{ResultSuits}
use Rattle.py_world_laws.proofs.Values.{all_left}

-- ---- at first

-- the list of words alone, which holds no defaults
abbrev first_env : Environment
first_env = record { room = 1; lists = λ a. None }

no_globals : (ms ks : List Module) → GlobalsSuit ms first_env (map no_names ks)
no_globals ms [] = tt
no_globals ms (k ∷ ks) = (tt, no_globals ms ks)

words_suit : (ms : List Module) (words : List (List ℕ)) → SuitAll ms first_env (map str_value words)
words_suit ms [] = tt
words_suit ms (x ∷ xs) = (tt, words_suit ms xs)

first_suits : (ms : List Module) (words : List (List ℕ)) → WorldSuits ms first_env (first_world ms words)
first_suits ms words = record {
  globals = no_globals ms ms;
  heap = record { objects = (words_suit ms words, tt); room = refl; lists = λ a n h. absurd cc };
  words = (omega arith, refl);
}

pub first_fits : FirstFits
first_fits ms words = fits_so ms first_env (first_world ms words) [] (first_suits ms words) tt

-- ---- runs and calls

pub runs_keep : RunsKeep
unfolding run end_of_run
runs_keep ms codes_are makers w fits input budget =
    let e = env_of ms w [] fits in
    let n = outermost (by_slots ms) ms script [] budget (at_rest w input) in
    let r = follows_keep ms codes_are makers n (begins ms codes_are makers e script [] budget (at_rest w input) (world_suits ms w [] fits) tt) in
    fits_so ms r.env _ [] r.world tt

given_suits : (ms : List Module) (e : Environment) (h : PlainHeap) (how : Ended) → SuitsEnded ms e how → SuitAll ms e (values_given (returned_by h how))
given_suits ms e h (gave v) k = (k, tt)
given_suits ms e h (failed raised) k = tt
given_suits ms e h spent k = tt
given_suits ms e h stuck k = tt

reached_global : (ms : List Module) (e : Environment) (r : Result PlainValue PlainRaised) (vs : List PlainValue) (w : Effects) → WorldSuits ms e w.world → ResultSuits ms e (Suit ms e) r → SuitAll ms e vs
    → Reaches ms e (reach_global ms r vs w)
reached_global ms e (Ok f) vs w g i k = reached ms e f vs w g k
reached_global ms e (Err raised) vs w g i k = at_once_suits ms e (Err raised) w g i

pub calls_keep : CallsKeep
unfolding called end_of_call
calls_keep ms codes_are makers w q fits input budget =
    let e = env_of ms w q.values fits in
    let first = at_rest w input in
    let g = world_suits ms w q.values fits in
    let found = or_raise (name_unknown q.name) (global_of q.number q.name w) in
    let reach = reach_global ms found q.values first in
    let k = reached_global ms e found q.values first g (or_raise_suits ms e (name_unknown q.name) (global_of q.number q.name w) tt (global_suits ms e w g q.number q.name)) (more_suit ms w q.values fits) in
    let r = follows_keep ms codes_are makers (outer_call (by_slots ms) ms reach budget first) (outer ms codes_are makers e reach budget first g k) in
    fits_so ms r.env _ _ r.world (given_suits ms r.env _ _ r.how)

-- ---- fewer values

pub fewer_fit : FewerFit
fewer_fit ms w some others fits =
    let e = env_of ms w (some ++ others) fits in
    fits_so ms e w some (world_suits ms w (some ++ others) fits) (all_left (Suits ms e) some others (more_suit ms w (some ++ others) fits))
