-- Programs beside their trees, and code with other units in one module.
use Rattle.std.proofs.Common.{◌≡◌, ℕ, zero, suc, ◌+◌, ◌<◌, ◌≤◌, min, List, [], ◌∷◌, ◌++◌, map, length, drop, get_or, encode_utf8_all, append_assoc, add-one, refl, ap, sym, ◌∙◌, arith}
use Rattle.std.proofs.lemmas.List.{append-nil, drop_all, map-append}
use Rattle.std.proofs.Math.ListN.{set}
use Rattle.py_code.specs.declared.code.Program.{Program}
use Rattle.py_code.specs.Loaded.{module_of}
use Rattle.py_code.specs.Units.{Code, Module as CodeModule}
use Rattle.py_compile.specs.ProgramRuns.{AreFaithful}
use Rattle.py_meaning.specs.Modules.{LoadedModule}
use Rattle.py_syntax.specs.View.{plain_module}
use Rattle.py_syntax.specs.declared.stmt.Module.{Module}
use Rattle.cov_measure_laws.specs.Units.{HaveSamePaths}
use Rattle.cov_mutate.specs.Code.{Source, source_of, sources, code_of, units_in, with_units}

heads : {X : Type 0} {x y : X} {xs ys : List X} → (x ∷ xs) ≡ (y ∷ ys) → x ≡ y
heads e = cc

tails : {X : Type 0} {x y : X} {xs ys : List X} → (x ∷ xs) ≡ (y ∷ ys) → xs ≡ ys
tails e = cc

-- ---- programs beside trees

pub length-sources : (ps : List Program) (ts : List Module) → length (sources ps ts) ≡ min (length ps) (length ts)
length-sources [] ts = omega arith
length-sources (p ∷ ps) [] = omega arith
length-sources (p ∷ ps) (t ∷ ts) = omega (arith, length-sources ps ts)

-- those from a number on
pub sources-at : (ps : List Program) (ts : List Module) (m : ℕ) (p : Program) (t : Module) → m < length ps → m < length ts → p ≡ get_or ps m p → t ≡ get_or ts m t
    → drop m (sources ps ts) ≡ source_of p t ∷ drop (suc m) (sources ps ts)
sources-at [] ts m p t lt less e f = absurd (omega arith)
sources-at (q ∷ ps) [] m p t lt less e f = absurd (omega arith)
sources-at (q ∷ ps) (u ∷ ts) zero p t lt less e f = λ i. source_of (sym e i) (sym f i) ∷ sources ps ts
sources-at (q ∷ ps) (u ∷ ts) (suc m) p t lt less e f = sources-at ps ts m p t (omega (arith, lt)) (omega (arith, less)) e f

-- ---- code of modules

pub units-at : (ps : List Program) (m : ℕ) (p : Program) → m < length ps → p ≡ get_or ps m p → p.code ≡ units_in (map module_of ps) m
units-at [] m p lt e = absurd (omega arith)
units-at (q ∷ ps) zero p lt e = ap (λ (x : Program). x.code) e
units-at (q ∷ ps) (suc m) p lt e = units-at ps m p (omega (arith, lt)) e

pub units-set : (ps : List Program) (m : ℕ) (p q : Program) → m < length ps → p ≡ get_or ps m p → module_of q ≡ record { name = (module_of p).name; units = q.code } → map module_of (set ps m q) ≡ with_units (map module_of ps) m q.code
units-set [] m p q lt e same = absurd (omega arith)
units-set (x ∷ ps) zero p q lt e same = λ i. (same ∙ ap (λ (y : Program). let c : CodeModule = record { name = (module_of y).name; units = q.code } in c) e) i ∷ map module_of ps
units-set (x ∷ ps) (suc m) p q lt e same = ap (λ cs. module_of x ∷ cs) (units-set ps m p q (omega (arith, lt)) e same)

pub put-back : (cs : List CodeModule) (m : ℕ) (us : List Code) → with_units (with_units cs m us) m (units_in cs m) ≡ cs
put-back [] m us = refl
put-back (c ∷ cs) zero us = refl
put-back (c ∷ cs) (suc m) us = ap (λ rest. c ∷ rest) (put-back cs m us)

pub length-with : (cs : List CodeModule) (m : ℕ) (us : List Code) → length (with_units cs m us) ≡ length cs
length-with [] m us = refl
length-with (c ∷ cs) zero us = refl
length-with (c ∷ cs) (suc m) us = ap suc (length-with cs m us)

pub put-back-so : (cs ds es : List CodeModule) (m : ℕ) (us ws : List Code) → ds ≡ with_units cs m us → es ≡ with_units ds m ws → ws ≡ units_in cs m → es ≡ cs
put-back-so cs ds es m us ws one two own = two ∙ ap (λ xs. with_units xs m ws) one ∙ ap (λ vs. with_units (with_units cs m us) m vs) own ∙ put-back cs m us

pub length-so : (cs ds : List CodeModule) (m : ℕ) (us : List Code) → ds ≡ with_units cs m us → length ds ≡ length cs
length-so cs ds m us e = ap length e ∙ length-with cs m us

pub length-modules : (ps : List Program) → length (map module_of ps) ≡ length ps
length-modules [] = refl
length-modules (p ∷ ps) = ap suc (length-modules ps)

pub length-code : (srcs : List Source) → length (map code_of srcs) ≡ length srcs
length-code [] = refl
length-code (s ∷ srcs) = ap suc (length-code srcs)

-- ---- sources of trees

-- the source of a module
abbrev pub of_module : LoadedModule → Source
of_module m = record { name = m.name; path = encode_utf8_all m.path; body = m.body }

-- programs and trees of modules are their sources
pub sources-are : (ps : List Program) (ts : List Module) (ms : List LoadedModule) → AreFaithful (map module_of ps) ms → HaveSamePaths ps ms → map plain_module ts ≡ map (λ m. m.body) ms → sources ps ts ≡ map of_module ms
sources-are [] ts [] f p b = refl
sources-are [] ts (m ∷ ms) f p b = absurd f
sources-are (q ∷ ps) ts [] f p b = absurd f
sources-are (q ∷ ps) [] (m ∷ ms) f p b = absurd cc
sources-are (q ∷ ps) (t ∷ ts) (m ∷ ms) f p b =
    λ i. record { name = f.0 i; path = heads p i; body = heads b i } ∷ sources-are ps ts ms f.2 (tails p) (tails b) i

-- ---- copies

module _ (all : List CodeModule) where
  -- one more is copied
  pub copies-step : (srcs : List Source) (i : ℕ) (s : Source) (copied : Program) (old new : List Program) → drop i srcs ≡ s ∷ drop (suc i) srcs → module_of copied ≡ code_of s → new ≡ old ++ copied ∷ []
      → map module_of old ++ map code_of (drop i srcs) ≡ all → map module_of new ++ map code_of (drop (i + 1) srcs) ≡ all
  copies-step srcs i s copied old new here same more h =
      ap (λ k. map module_of new ++ map code_of (drop k srcs)) (add-one i)
      ∙ ap (λ cs. cs ++ map code_of (drop (suc i) srcs)) (ap (map module_of) more ∙ map-append module_of old (copied ∷ []))
      ∙ append_assoc (map module_of old) (module_of copied ∷ []) (map code_of (drop (suc i) srcs))
      ∙ ap (λ c. map module_of old ++ c ∷ map code_of (drop (suc i) srcs)) same
      ∙ ap (λ ss. map module_of old ++ map code_of ss) (sym here) ∙ h

  -- none is left
  pub copies-end : (srcs : List Source) (i : ℕ) (made : List Program) → drop i srcs ≡ [] → map module_of made ++ map code_of (drop i srcs) ≡ all → map module_of made ≡ all
  copies-end srcs i made none h = sym (append-nil (map module_of made)) ∙ ap (λ ss. map module_of made ++ map code_of ss) (sym none) ∙ h

pub past-sources : (ps : List Program) (ts : List Module) (i : ℕ) → min (length ps) (length ts) ≤ i → drop i (sources ps ts) ≡ []
past-sources ps ts i le = drop_all i (sources ps ts) (omega (arith, length-sources ps ts))
