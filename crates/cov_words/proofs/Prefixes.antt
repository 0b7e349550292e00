-- How many words begin a command.
use Rattle.std.proofs.Common.{◌≡◌, ◌≤◌, ◌<◌, ℕ, zero, suc, Bool, true, false, cond, List, [], ◌∷◌, ◌++◌, length, take, nat_le, codes, Option, Some, None, option_map, option_and_then, refl, sym, ap, subst, ◌∙◌, arith, append_assoc}
use Rattle.std.specs.Option.{is_some}
use Rattle.std.proofs.lemmas.Bool.{leb-true, leb-false}
use Rattle.std.proofs.lemmas.Bool.Decides.{nat_tests}
use Rattle.cov_words.specs.declared.options.OptionName.{OptionName}
use Rattle.cov_words.specs.declared.options.CommandName.{CommandName}
use Rattle.cov_words.specs.declared.options.CommandName.TheVariants.{Arcs, Run, Combine, Report, Json, Lcov, Annotate, Erase, Script, Make, Suite, Select, Mutate}
use Rattle.cov_words.specs.Values.{Word, Value, text, number, file_named, Form, no_value, any_text, up_to, a_file_and_name, value_of, whole_number, number_up_to}
use Rattle.cov_words.specs.Options.{command_named, form_of, has_value, Given, none, one_more, apart}
use Rattle.cov_words.specs.Operands.{shape_of, fit}
use Rattle.cov_words.specs.Commands.{PlainCommand, erase, make, command_of, of_numbers, IsCommand, spelled, BeginsCommand, StopsAfter}
use Rattle.cov_words.specs.Reading.{Reading, step, begun, run, passed, passed_by, read, passed_words, command_read}
use Rattle.cov_words.proofs.Choices.{first_true, second_true}
use Rattle.cov_words.proofs.OperandLists.{none_begun, completing, completed}
use Rattle.cov_words.proofs.Complete.{is_read}
use Rattle.cov_words.proofs.SameCommand.{run_command}
use Rattle.cov_words.proofs.Sound.{HasRead, HasReadIn, Settled, Open, run_keeps, begun_is, alone_read}

-- ---- operands that fit make a command

made_of_numbers : (m n : Option ℕ) → is_some m ≡ true → is_some n ≡ true → (command : PlainCommand) × (of_numbers m n ≡ Some command)
made_of_numbers None n h k = cc
made_of_numbers (Some m) None h k = cc
made_of_numbers (Some m) (Some n) h k = (make m n, refl)

makes : (c : CommandName) (g : Given) (ys : List Word) → fit (shape_of c) ys ≡ true → (command : PlainCommand) × (command_of c g ys ≡ Some command)
makes Arcs g [] h = cc
makes Arcs g (y ∷ ys) h = (_, refl)
makes Run g [] h = cc
makes Run g (y ∷ ys) h = (_, refl)
makes Combine g ys h = (_, refl)
makes Report g ys h = (_, refl)
makes Json g ys h = (_, refl)
makes Lcov g ys h = (_, refl)
makes Annotate g [] h = cc
makes Annotate g (y ∷ ys) h = (_, refl)
makes Erase g ys h = (_, refl)
makes Script g [] h = cc
makes Script g (y ∷ ys) h = (_, refl)
makes Make g [] h = cc
makes Make g (y ∷ []) h = cc
makes Make g (y ∷ z ∷ []) h =
    made_of_numbers (whole_number y) (number_up_to 16000 z) (first_true (is_some (whole_number y)) (is_some (number_up_to 16000 z)) h) (second_true (is_some (whole_number y)) (is_some (number_up_to 16000 z)) h)
makes Make g (y ∷ z ∷ x ∷ ys) h = cc
makes Suite g [] h = cc
makes Suite g (y ∷ ys) h = (_, refl)
makes Select g [] h = cc
makes Select g (y ∷ []) h = cc
makes Select g (y ∷ z ∷ ys) h = (_, refl)
makes Mutate g [] h = cc
makes Mutate g (y ∷ ys) h = (_, refl)

-- ---- what was read begins a command

settled_begins : (r : Reading) (w : Word) (words : List Word) → command_named w ≡ Some r.command → Settled r words → BeginsCommand (w ∷ words)
settled_begins r w words named s =
    let s' = shape_of r.command in
    let more = completing s' r.operands in
    let fits = completed s' r.operands s.begun in
    let made = makes r.command r.given (r.operands ++ more) fits in
    let whole : words ++ more ≡ s.option_words ++ (r.operands ++ more) = ap (λ (x : List Word). x ++ more) s.are ∙ append_assoc s.option_words r.operands more in
    (more, made.0, subst (λ (x : List Word). IsCommand made.0 (w ∷ x)) (sym whole) (spelled w r.command r.given s.option_words (r.operands ++ more) named s.gives fits made.1))

zero_within : (most : ℕ) → nat_le 0 most ≡ true
zero_within most = grind (arith, nat_tests)

-- a value of a form
fitting : (f : Form) → has_value f ≡ true → (t : Word) × (v : Value) × (value_of f t ≡ Some v)
fitting no_value h = cc
fitting any_text h = ([], text [], refl)
fitting (up_to most) h = (48 ∷ [], number 0, ap (λ (b : Bool). option_map number (cond b (Some 0) None)) (zero_within most))
fitting a_file_and_name h = (codes "a:b", file_named (codes "a") (codes "b"), refl)

open_begins : (r : Reading) (o : OptionName) (w : Word) (words : List Word) → command_named w ≡ Some r.command → Open r o words → BeginsCommand (w ∷ words)
open_begins r o w words named p =
    let v = fitting (form_of o) p.takes in
    let s' = shape_of r.command in
    let more = completing s' [] in
    let xs = p.option_words ++ (p.word ∷ v.0 ∷ []) in
    let gives = one_more p.option_words (p.word ∷ v.0 ∷ []) p.gives p.may (apart p.word v.0 p.named v.2) in
    let fits = completed s' [] (none_begun s') in
    let made = makes r.command (r.given ++ ((o, v.1) ∷ [])) more fits in
    let whole : words ++ (v.0 ∷ more) ≡ xs ++ more =
    ap (λ (x : List Word). x ++ (v.0 ∷ more)) p.are ∙ append_assoc p.option_words (p.word ∷ []) (v.0 ∷ more) ∙ sym (append_assoc p.option_words (p.word ∷ v.0 ∷ []) more) in
    (v.0 ∷ more, made.0, subst (λ (x : List Word). IsCommand made.0 (w ∷ x)) (sym whole) (spelled w r.command (r.given ++ ((o, v.1) ∷ [])) xs more named gives fits made.1))

begins_in : (r : Reading) (a : Option OptionName) (w : Word) (words : List Word) → command_named w ≡ Some r.command → HasReadIn r words a → BeginsCommand (w ∷ words)
begins_in r None w words named s = settled_begins r w words named s
begins_in r (Some o) w words named p = open_begins r o w words named p

-- ---- how far the words are read

within_after : (ws : List Word) (s : Option Reading) → ((t : Reading) → passed ws t ≤ length ws) → passed_by (passed ws) s ≤ suc (length ws)
within_after ws None ih = omega arith
within_after ws (Some t) ih = omega (arith, ih t)

pub within : (ws : List Word) (r : Reading) → passed ws r ≤ length ws
within [] r = omega arith
within (w ∷ ws) r = within_after ws (step r w) (within ws)

-- that many words are read
reads_on : (ws : List Word) (w : Word) (s : Option Reading) (r : Reading) → step r w ≡ s → ((t : Reading) → (q : Reading) × (run (take (passed ws t) ws) t ≡ Some q)) → (q : Reading) × (run (take (passed_by (passed ws) s) (w ∷ ws)) r ≡ Some q)
reads_on ws w None r e ih = (r, refl)
reads_on ws w (Some t) r e ih =
    let q = ih t in
    (q.0, ap (option_and_then (run (take (passed ws t) ws))) e ∙ q.1)

reads : (ws : List Word) (r : Reading) → (q : Reading) × (run (take (passed ws r) ws) r ≡ Some q)
reads [] r = (r, refl)
reads (w ∷ ws) r = reads_on ws w (step r w) r refl (reads ws)

-- no more words are read
fails_on : (ws : List Word) (w : Word) (s : Option Reading) (r : Reading) (k : ℕ) (rest : List Word) → step r w ≡ s → passed_by (passed ws) s < suc k → ((t : Reading) → passed ws t < k → run (take k ws ++ rest) t ≡ None) → run (take (suc k) (w ∷ ws) ++ rest) r ≡ None
fails_on ws w None r k rest e h ih = ap (option_and_then (run (take k ws ++ rest))) e
fails_on ws w (Some t) r k rest e h ih = ap (option_and_then (run (take k ws ++ rest))) e ∙ ih t (omega (arith, h))

fails : (ws : List Word) (r : Reading) (j : ℕ) (rest : List Word) → passed ws r < j → j ≤ length ws → run (take j ws ++ rest) r ≡ None
fails [] r j rest h k = absurd (omega (arith, h, k))
fails (w ∷ ws) r zero rest h k = absurd (omega (arith, h))
fails (w ∷ ws) r (suc j) rest h k = fails_on ws w (step r w) r j rest refl h (λ t past. fails ws t j rest past (omega (arith, k)))

-- ---- the words that begin a command

-- `erase` alone is a command
nothing_begins : BeginsCommand []
nothing_begins = (codes "erase" ∷ [], erase None None, spelled (codes "erase") Erase [] [] [] refl none refl refl)

none_stops : StopsAfter [] 0
none_stops = record { within = omega arith; begins = nothing_begins; most = λ j inside begins. inside }

-- a first word that names no command
unknown_most : (w : Word) (ws : List Word) → begun w ≡ None → (j : ℕ) → BeginsCommand (take j (w ∷ ws)) → j ≤ 0
unknown_most w ws e zero begins = omega arith
unknown_most w ws e (suc j) begins = absurd (let same : command_read None ≡ Some begins.1 = ap (λ (x : Option Reading). command_read (option_and_then (run (take j ws ++ begins.0)) x)) (sym e) ∙ is_read begins.1 (w ∷ (take j ws ++ begins.0)) begins.2 in cc)

known_most : (w : Word) (ws : List Word) (r : Reading) → begun w ≡ Some r → (j : ℕ) → j ≤ suc (length ws) → BeginsCommand (take j (w ∷ ws)) → j ≤ suc (passed ws r)
known_most w ws r e zero inside begins = omega arith
known_most w ws r e (suc j) inside begins = at_most (nat_le (suc j) (suc (passed ws r))) refl
  where
    at_most : (b : Bool) → nat_le (suc j) (suc (passed ws r)) ≡ b → suc j ≤ suc (passed ws r)
    at_most true h = leb-true (suc j) (suc (passed ws r)) h
    at_most false h = absurd (
        let past : passed ws r < j = omega (arith, leb-false (suc j) (suc (passed ws r)) h) in
        let same : command_read None ≡ Some begins.1 =
        ap command_read (sym (fails ws r j begins.0 past (omega (arith, inside))))
        ∙ ap (λ (x : Option Reading). command_read (option_and_then (run (take j ws ++ begins.0)) x)) (sym e)
        ∙ is_read begins.1 (w ∷ (take j ws ++ begins.0)) begins.2 in
        cc)

pub named_by : (w : Word) (c : Option CommandName) (r : Reading) → command_named w ≡ c → option_map alone_read c ≡ Some r → (d : CommandName) × (command_named w ≡ Some d) × (alone_read d ≡ r)
named_by w None r e h = cc
named_by w (Some d) r e h = (d, e, same h)
  where
    same : Some (alone_read d) ≡ Some r → alone_read d ≡ r
    same h = cc

known_stops : (w : Word) (ws : List Word) (r : Reading) → begun w ≡ Some r → StopsAfter (w ∷ ws) (suc (passed ws r))
known_stops w ws r e = record {
  within = omega (arith, within ws r);
  begins = begins;
  most = known_most w ws r e;
}
  where
    begins : BeginsCommand (w ∷ take (passed ws r) ws)
    begins =
        let q = reads ws r in
        let name = named_by w (command_named w) r refl e in
        let has = run_keeps (take (passed ws r) ws) r q.0 [] (subst (λ (x : Reading). HasRead x []) name.2 (begun_is name.0)) q.1 in
        begins_in q.0 q.0.awaiting w (take (passed ws r) ws) (name.1 ∙ ap Some (ap (λ (x : Reading). x.command) name.2 ∙ sym (run_command (take (passed ws r) ws) r q.0 q.1))) has

stops_by : (w : Word) (ws : List Word) (s : Option Reading) → begun w ≡ s → StopsAfter (w ∷ ws) (passed_by (passed ws) s)
stops_by w ws None e = record { within = omega arith; begins = nothing_begins; most = λ j inside begins. unknown_most w ws e j begins }
stops_by w ws (Some r) e = known_stops w ws r e

pub stops : (words : List Word) → StopsAfter words (passed_words words)
stops [] = none_stops
stops (w ∷ ws) = stops_by w ws (begun w) refl

pub no_command : (words : List Word) → command_read (read words) ≡ None → (c : PlainCommand) → IsCommand c words → ⊥
no_command words h c is = let same : None ≡ Some c = sym h ∙ is_read c words is in cc
