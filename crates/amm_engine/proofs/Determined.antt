-- The replies to lines fix the ledger that they leave.
use Rattle.std.proofs.Common.{◌≡◌, ◌≢◌, ◌+◌, ◌++◌, ◌∷◌, ◌∙◌, ℕ, List, [], Result, Ok, Err, sym, ap, refl, subst}
use Rattle.std.specs.Prelude.{MatchResult}
use Rattle.amm_model.specs.declared.fault.Refusal.{Refusal}
use Rattle.amm_model.specs.declared.line.Line.{Line}
use Rattle.amm_model.specs.declared.line.Line.TheVariants.{Blank, Whole, Long}
use Rattle.amm_model.specs.declared.reply.Answer.{Answer}
use Rattle.amm_model.specs.declared.reply.Answer.TheVariants as answers
use Rattle.amm_model.specs.declared.reply.Reply.{Reply}
use Rattle.amm_model.specs.declared.problem.Part.{Part}
use Rattle.amm_model.specs.declared.problem.ProblemPool.{ProblemPool}
use Rattle.amm_model.specs.declared.route.Leg.{Leg}
use Rattle.amm_model.specs.declared.route.OpenQuote.{OpenQuote}
use Rattle.amm_model.specs.declared.route.Quote.{Quote}
use Rattle.amm_model.specs.Outcome.{Made, Outcome}
use Rattle.amm_model.specs.Ledger.{Ledger, with_quote}
use Rattle.amm_model.specs.Splits.{Routes, may_split}
use Rattle.amm_model.specs.CommandView as command
use Rattle.amm_model.specs.CommandView.{CommandView}
use Rattle.amm_model.specs.CycleRuns.{Cycles, RunsNested, may_cycle}
use Rattle.amm_model.specs.Meaning.{MayComeTo, meaning}
use Rattle.amm_model.specs.Sales.{Sells, may_sell}
use Rattle.amm_model.specs.Settlement.{perform_legs}
use Rattle.amm_model.proofs.Guards.{same_answer}
use Rattle.amm_model.specs.Answers.{ComesTo, answer_of, ledger_after}
use Rattle.amm_model.specs.Reading.{command_of_line}
use Rattle.amm_model.specs.Runs.{RunBy, Step, one_reply}

same_quote : (n m : ℕ) (x y : Quote) → answers.Split n x ≡ answers.Split m y → x ≡ y
same_quote n m x y e = cc

no_refusal : (n : ℕ) (x : Quote) (why : Refusal) → answers.Split n x ≢ answers.Refused why
no_refusal n x why e = cc

-- two outcomes of a split that are told alike
split_fixes : (old : Ledger) (s t : List ℕ) (d : ℕ) (may : Result (Unit {0}) Refusal) (a b : Outcome Answer)
    → MatchResult may (λ _. Routes old s t d a) (λ why. a ≡ Err why) → MatchResult may (λ _. Routes old s t d b) (λ why. b ≡ Err why)
    → answer_of a ≡ answer_of b → ledger_after old a ≡ ledger_after old b
split_fixes old s t d (Err why) a b p q same = ap (ledger_after old) (p ∙ sym q)
split_fixes old s t d (Ok ok) (Ok a) (Ok b) p q same =
    p.kept ∙ ap (with_quote old) (same_quote _ _ p.quote q.quote (sym p.told ∙ same ∙ q.told)) ∙ sym q.kept
split_fixes old s t d (Ok ok) (Ok a) (Err why) p q same = absurd (no_refusal _ _ why (sym p.told ∙ same))
split_fixes old s t d (Ok ok) (Err why) (Ok b) p q same = absurd (no_refusal _ _ why (sym q.told ∙ sym same))
split_fixes old s t d (Ok ok) (Err why) (Err other) p q same = refl

-- two outcomes of a basket: the quote that is told fixes what is performed
same_basket : (x y : OpenQuote) → answers.Basket x ≡ answers.Basket y → x ≡ y
same_basket x y e = cc

no_basket : (x : OpenQuote) (why : Refusal) → answers.Basket x ≢ answers.Refused why
no_basket x why e = cc

basket_fixes : (old : Ledger) (actor : List ℕ) (parts : List Part) (t : List ℕ) (min : ℕ) (may : Result (Unit {0}) Refusal) (a b : Outcome Answer)
    → MatchResult may (λ _. Sells old actor parts t min a) (λ why. a ≡ Err why) → MatchResult may (λ _. Sells old actor parts t min b) (λ why. b ≡ Err why)
    → answer_of a ≡ answer_of b → ledger_after old a ≡ ledger_after old b
basket_fixes old actor parts t min (Err why) a b p q same = ap (ledger_after old) (p ∙ sym q)
basket_fixes old actor parts t min (Ok ok) (Ok a) (Ok b) p q same =
    let quotes = same_basket p.quote q.quote (sym p.told ∙ same ∙ q.told) in
    let first : Made (Unit {0}) = record { ledger = a.ledger; answer = tt } in
    let second : Made (Unit {0}) = record { ledger = b.ledger; answer = tt } in
    ap (λ (m : Made (Unit {0})). m.ledger) (same_answer first second (sym p.performed ∙ ap (λ (quote : OpenQuote). perform_legs old actor quote.problem.pools quote.route.legs) quotes ∙ q.performed))
basket_fixes old actor parts t min (Ok ok) (Ok a) (Err why) p q same = absurd (no_basket _ why (sym p.told ∙ same))
basket_fixes old actor parts t min (Ok ok) (Err why) (Ok b) p q same = absurd (no_basket _ why (sym q.told ∙ sym same))
basket_fixes old actor parts t min (Ok ok) (Err why) (Err other) p q same = refl

-- two outcomes of a cycle: the legs that are told fix the loans
same_cycle : (x y : OpenQuote) → answers.Cycle x ≡ answers.Cycle y → x ≡ y
same_cycle x y e = cc

no_cycle : (x : OpenQuote) (why : Refusal) → answers.Cycle x ≢ answers.Refused why
no_cycle x why e = cc

loans_fix : (old : Ledger) (actor : List ℕ) (pools : List ProblemPool) (legs : List Leg) (a b : Ledger) → RunsNested meaning old actor pools legs a → RunsNested meaning old actor pools legs b → a ≡ b
loans_fix old actor pools legs a b p q =
    let both : p.first ∷ p.later ≡ q.first ∷ q.later = sym p.are ∙ q.are in
    let first : p.first ≡ q.first = cc in
    let later : p.later ≡ q.later = cc in
    let ran = rw (first, later) at p.ran in
    ap (λ (m : Made Answer). m.ledger) (same_answer _ _ (sym ran ∙ q.ran))

cycle_fixes : (old : Ledger) (actor t : List ℕ) (may : Result (Unit {0}) Refusal) (a b : Outcome Answer)
    → MatchResult may (λ _. Cycles meaning old actor t a) (λ why. a ≡ Err why) → MatchResult may (λ _. Cycles meaning old actor t b) (λ why. b ≡ Err why)
    → answer_of a ≡ answer_of b → ledger_after old a ≡ ledger_after old b
cycle_fixes old actor t (Err why) a b p q same = ap (ledger_after old) (p ∙ sym q)
cycle_fixes old actor t (Ok ok) (Ok a) (Ok b) p q same =
    let quotes = same_cycle p.quote q.quote (sym p.told ∙ same ∙ q.told) in
    loans_fix old actor q.quote.problem.pools q.quote.route.legs a.ledger b.ledger
    (subst (λ (quote : OpenQuote). RunsNested meaning old actor quote.problem.pools quote.route.legs a.ledger) quotes p.run) q.run
cycle_fixes old actor t (Ok ok) (Ok a) (Err why) p q same = absurd (no_cycle _ why (sym p.told ∙ same))
cycle_fixes old actor t (Ok ok) (Err why) (Ok b) p q same = absurd (no_cycle _ why (sym q.told ∙ sym same))
cycle_fixes old actor t (Ok ok) (Err why) (Err other) p q same = refl

-- two outcomes of a command
command_fixes : (old : Ledger) (asked : CommandView) (a b : Outcome Answer) → MayComeTo old asked a → MayComeTo old asked b → answer_of a ≡ answer_of b
    → ledger_after old a ≡ ledger_after old b
unfolding MayComeTo
command_fixes old (command.split s t d) a b p q same = split_fixes old s t d (may_split old s t d) a b p q same
command_fixes old (command.basket actor parts t min deadline) a b p q same = basket_fixes old actor parts t min (may_sell old actor parts t deadline) a b p q same
command_fixes old (command.cycle actor t deadline) a b p q same = cycle_fixes old actor t (may_cycle old t deadline) a b p q same
command_fixes old (command.deposit user token n) a b p q same = ap (ledger_after old) (sym p ∙ q)
command_fixes old (command.withdraw user token n) a b p q same = ap (ledger_after old) (sym p ∙ q)
command_fixes old (command.time n) a b p q same = ap (ledger_after old) (sym p ∙ q)
command_fixes old (command.fee_to actor to) a b p q same = ap (ledger_after old) (sym p ∙ q)
command_fixes old (command.setter actor to) a b p q same = ap (ledger_after old) (sym p ∙ q)
command_fixes old (command.quote_out path n) a b p q same = ap (ledger_after old) (sym p ∙ q)
command_fixes old (command.quote_in path n) a b p q same = ap (ledger_after old) (sym p ∙ q)
command_fixes old (command.certificate number) a b p q same = ap (ledger_after old) (sym p ∙ q)
command_fixes old (command.pool pool) a b p q same = ap (ledger_after old) (sym p ∙ q)
command_fixes old (command.balance asset holder) a b p q same = ap (ledger_after old) (sym p ∙ q)
command_fixes old (command.total asset) a b p q same = ap (ledger_after old) (sym p ∙ q)
command_fixes old (command.observe actor pool) a b p q same = ap (ledger_after old) (sym p ∙ q)
command_fixes old (command.average first second) a b p q same = ap (ledger_after old) (sym p ∙ q)
command_fixes old (command.consult first second token n) a b p q same = ap (ledger_after old) (sym p ∙ q)
command_fixes old (command.window pool seconds) a b p q same = ap (ledger_after old) (sym p ∙ q)
command_fixes old (command.act actor step) a b p q same = ap (ledger_after old) (sym p ∙ q)

-- two outcomes of a line
line_fixes : (old : Ledger) (line : Line) (a b : Outcome Answer) → ComesTo old line a → ComesTo old line b → answer_of a ≡ answer_of b → ledger_after old a ≡ ledger_after old b
unfolding ComesTo
line_fixes old Blank a b p q same = absurd p
line_fixes old Long a b p q same = ap (ledger_after old) (p ∙ sym q)
line_fixes old (Whole bytes) a b p q same = by (command_of_line bytes) p q
  where
    by : (read : Result CommandView Refusal) → MatchResult read (λ asked. MayComeTo old asked a) (λ why. a ≡ Err why)
        → MatchResult read (λ asked. MayComeTo old asked b) (λ why. b ≡ Err why) → ledger_after old a ≡ ledger_after old b
    by (Ok asked) one two = command_fixes old asked a b one two same
    by (Err why) one two = ap (ledger_after old) (one ∙ sym two)

-- replies that begin alike
same_first : (x y : Reply) (xs ys : List Reply) → x ∷ xs ≡ y ∷ ys → (x ≡ y) × (xs ≡ ys)
same_first x y xs ys e = (cc, cc)

told_alike : (old : Ledger) (number : ℕ) (line : Line) (a b : Outcome Answer) (first other rest more : List Reply) (mid end : Ledger) → ComesTo old line a → ComesTo old line b
    → first ≡ one_reply number (answer_of a) → other ≡ one_reply number (answer_of b) → mid ≡ ledger_after old a → end ≡ ledger_after old b
    → first ++ rest ≡ other ++ more → (mid ≡ end) × (rest ≡ more)
told_alike old number line a b first other rest more mid end p q first_is other_is mid_is end_is e =
    let both = same_first _ _ rest more (sym (ap (λ f. f ++ rest) first_is) ∙ e ∙ ap (λ f. f ++ more) other_is) in
    (mid_is ∙ line_fixes old line a b p q (ap (λ (r : Reply). r.answer) both.0) ∙ sym end_is, both.1)

-- two steps over a line
step_fixes : (old : Ledger) (number : ℕ) (line : Line) (first other rest more : List Reply) (mid end : Ledger) → Step old number line first mid → Step old number line other end
    → first ++ rest ≡ other ++ more → (mid ≡ end) × (rest ≡ more)
unfolding Step
step_fixes old number Blank first other rest more mid end p q e = (p.1 ∙ sym q.1, sym (ap (λ f. f ++ rest) p.0) ∙ e ∙ ap (λ f. f ++ more) q.0)
step_fixes old number Long first other rest more mid end p q e = told_alike old number Long p.0 q.0 first other rest more mid end p.1 q.1 p.2 q.2 p.3 q.3 e
step_fixes old number (Whole bytes) first other rest more mid end p q e =
    told_alike old number (Whole bytes) p.0 q.0 first other rest more mid end p.1 q.1 p.2 q.2 p.3 q.3 e

-- Two runs over the same lines with the same replies leave the same ledger.
pub run_fixed : (old : Ledger) (number : ℕ) (lines : List Line) (replies : List Reply) (new end : Ledger) → RunBy Step old number lines replies new → RunBy Step old number lines replies end → new ≡ end
run_fixed old number [] replies new end p q = p.1 ∙ sym q.1
run_fixed old number (line ∷ lines) replies new end p q =
    let same = step_fixes old number line p.0 q.0 p.1 q.1 p.2 q.2 p.3 q.3 (sym p.5 ∙ q.5) in
    run_fixed q.2 (number + 1) lines q.1 new end
    (subst (λ l. RunBy Step l (number + 1) lines q.1 new) same.0 (subst (λ r. RunBy Step p.2 (number + 1) lines r new) same.1 p.4)) q.4
