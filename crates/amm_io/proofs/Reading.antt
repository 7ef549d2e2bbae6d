-- How far a part is read.
use Rattle.std.proofs.Common.{◌≡◌, ◌≤◌, ◌<◌, ◌+◌, ◌-◌, ◌++◌, ◌∙◌, ◌∷◌, ◌⊎◌, inl, inr, ℕ, List, [], length, sym, ap, refl, arith, subst, append_assoc, length-append, None, Some, Result, Ok, Err, false}
use Rattle.std.proofs.lemmas.List.{append-nil}
use Rattle.std.specs.declared.option.Option.{Option}
use Rattle.std.specs.Io.KnownBytes.{Consumes, IsAtEnd}
use Rattle.std.proofs.KnownBytes.{Consumes-nil, Consumes-trans}
use Rattle.amm_model.specs.declared.line.Line.{Line}
use Rattle.amm_model.specs.Lines.{line_of, IsUnbroken}
use Rattle.amm_io.specs.declared.stream.Stop.{Stop}
use Rattle.amm_io.specs.declared.source.IoEnd.{IoEnd}
use Rattle.amm_io.specs.declared.stream.Stop.TheVariants as stop
use Rattle.amm_io.specs.declared.source.IoEnd.TheVariants as end
use Rattle.amm_io.specs.Parts.{Beginning, Holds, Refills, RefillMet, EndsPart, LeavesOpen, SameCounts}
use Rattle.amm_io.specs.Streams.{Stream, TakesNext, NextOutcome, within_limit, again_of}
use Rattle.amm_io.proofs.Parts.{IsUnbroken-append, IsUnbroken-before}

-- What the end that was met says of the bytes taken.
pub record IsSettled (s : Stream) : Type 0 where
  pub most : s.taken ≤ s.limit + 1
  pub within : s.met ≡ None → s.taken ≤ s.limit
  pub ended : s.met ≡ Some stop.EndOfInput → s.taken ≤ s.limit
  pub faulted : s.met ≡ Some stop.ReadFault → s.taken ≤ s.limit
  pub passed : s.met ≡ Some stop.InputLimit → s.taken ≡ s.limit + 1
  pub lacked : s.met ≡ Some stop.Memory → s.kept ≡ []

-- Since the first state, the source gave bytes, and with what was kept then they are what was seen
-- of the part and what is kept now.
pub record Reading (left_before left_now : Option (List ℕ)) (first now : Stream) (part : Beginning) : Type 0 where
  pub given : List ℕ
  pub consumed : Consumes left_before left_now given
  pub count : now.taken ≡ first.taken + length given
  pub same : now.limit ≡ first.limit
  pub settled : IsSettled now
  pub at_end : now.met ≡ Some stop.EndOfInput → (first.met ≡ Some stop.EndOfInput) ⊎ IsAtEnd left_now
  pub met : (now.met ≡ first.met) ⊎ ((first.met ≡ None) × ((now.met ≡ Some stop.InputLimit) ⊎ (now.kept ≡ [])))
  pub seen : List ℕ
  pub unbroken : IsUnbroken seen
  pub holds : Holds part seen
  pub split : first.kept ++ given ≡ seen ++ now.kept

pub Reading-start : (left : Option (List ℕ)) (first : Stream) (part : Beginning) → Holds part [] → IsSettled first → Reading left left first first part
Reading-start left first part holds settled =
    record {
      given = [];
      consumed = Consumes-nil left;
      count = omega arith;
      same = refl;
      settled = settled;
      at_end = λ e. inl e;
      met = inl refl;
      seen = [];
      unbroken = tt;
      holds = holds;
      split = append-nil first.kept;
    }

-- the end that a refill met
met_after : (mid next : Stream) (first : Option Stop) (given : List ℕ) (AtEnd : Type 0) (met : Option Stop) → first ≡ None → next.kept ≡ given → RefillMet mid next given AtEnd met
    → (met ≡ first) ⊎ ((first ≡ None) × ((met ≡ Some stop.InputLimit) ⊎ (next.kept ≡ [])))
met_after mid next first given AtEnd None none kept m = inl (sym none)
met_after mid next first given AtEnd (Some stop.EndOfInput) none kept m = inr (none, inr (kept ∙ m.0))
met_after mid next first given AtEnd (Some stop.ReadFault) none kept m = inr (none, inr (kept ∙ m))
met_after mid next first given AtEnd (Some stop.InputLimit) none kept m = inr (none, inl refl)
met_after mid next first given AtEnd (Some stop.Memory) none kept m = absurd m

-- all that was kept went to the part
front_is : (now mid : Stream) (part later : Beginning) → (o : LeavesOpen now mid part later) → mid.taken ≤ mid.limit → now.kept ≡ o.front
front_is now mid part later o within = o.split ∙ ap (λ l. o.front ++ l) (o.none within) ∙ append-nil o.front

-- no newline was kept, and the source was read again
pub Reading-more : (left_before left_now left_after : Option (List ℕ)) (first now mid next : Stream) (part later : Beginning)
    → Reading left_before left_now first now part → LeavesOpen now mid part later → SameCounts now mid → mid.met ≡ None
    → Refills left_now left_after mid next → Reading left_before left_after first next later
Reading-more left_before left_now left_after first now mid next part later r o same none f =
    let inside : now.taken ≤ now.limit = r.settled.within (sym same.met ∙ none) in
    let inside_mid : mid.taken ≤ mid.limit = omega (arith, inside, same.taken, same.limit) in
    let first_met : first.met ≡ None = elim r.met [ inl is ↦ sym is ∙ sym same.met ∙ none | inr was ↦ was.0 ] in
    let met = f.met in
    let M : Option Stop → Type 0 = RefillMet mid next f.given (IsAtEnd left_after) in
    let unread : f.given ≡ [] → next.taken ≤ next.limit
    = λ m. let none : length f.given ≡ 0 = ap length m in omega (arith, none, f.count, f.same, inside_mid) in
    record {
      given = r.given ++ f.given;
      consumed = Consumes-trans _ _ _ _ _ r.consumed f.consumed;
      count = omega (arith, r.count, same.taken, f.count, length-append r.given f.given);
      same = f.same ∙ same.limit ∙ r.same;
      settled = record {
        most = omega (arith, f.most, f.same);
        within = λ e. let m = subst M e met in omega (arith, m.1, f.same);
        ended = λ e. let m = subst M e met in unread m.0;
        faulted = λ e. let m = subst M e met in unread m;
        passed = λ e. let m = subst M e met in omega (arith, m, f.same);
        lacked = λ e. absurd (subst M e met);
      };
      at_end = λ e. let m = subst M e met in inr m.1;
      met = met_after mid next first.met f.given (IsAtEnd left_after) next.met first_met f.kept met;
      seen = r.seen ++ o.front;
      unbroken = IsUnbroken-append r.seen o.front r.unbroken o.unbroken;
      holds = o.grown r.seen r.holds;
      split =
          sym (append_assoc first.kept r.given f.given)
          ∙ ap (λ l. l ++ f.given) (r.split ∙ ap (λ l. r.seen ++ l) (front_is now mid part later o inside_mid))
          ∙ ap (λ l. (r.seen ++ o.front) ++ l) (sym f.kept);
    }

-- the call ends
pub Reading-gives : (left_before left_now : Option (List ℕ)) (first now last : Stream) (part : Beginning) (result : Result (Option Line) IoEnd)
    → (r : Reading left_before left_now first now part) → last.taken ≡ now.taken → last.limit ≡ now.limit
    → NextOutcome first last (first.kept ++ r.given) ((first.met ≡ Some stop.EndOfInput) ⊎ IsAtEnd left_now) result
    → TakesNext left_before left_now first last result
Reading-gives left_before left_now first now last part result r taken limit outcome =
    record {
      given = r.given;
      consumed = r.consumed;
      count = taken ∙ r.count;
      most = omega (arith, taken, r.settled.most, r.same);
      same = limit ∙ r.same;
      outcome = outcome;
    }

not_nil : {P : Type 0} (front rest : List ℕ) → front ++ 10 ∷ rest ≡ [] → P
not_nil [] rest e = cc
not_nil (x ∷ front) rest e = cc

-- a byte more than the limit was taken, and something is kept: then the limit is met
limit_met : (s : Stream) (met : Option Stop) → IsSettled s → s.met ≡ met → (s.kept ≡ [] → ⊥) → s.limit < s.taken → met ≡ Some stop.InputLimit
limit_met s None settled is some over = absurd (omega (arith, over, settled.within is))
limit_met s (Some stop.EndOfInput) settled is some over = absurd (omega (arith, over, settled.ended is))
limit_met s (Some stop.ReadFault) settled is some over = absurd (omega (arith, over, settled.faulted is))
limit_met s (Some stop.InputLimit) settled is some over = refl
limit_met s (Some stop.Memory) settled is some over = absurd (some (settled.lacked is))

-- the part ends in what is kept
pub Reading-ended : (left_before left_now : Option (List ℕ)) (first now mid : Stream) (part later : Beginning) (line : Line)
    → Reading left_before left_now first now part → EndsPart now mid part later → SameCounts now mid
    → ((seen : List ℕ) → Holds later seen → line ≡ line_of seen) → TakesNext left_before left_now first mid (Ok (Some line))
Reading-ended left_before left_now first now mid part later line r e same line_is =
    let whole = line_is (r.seen ++ e.front) (e.grown r.seen r.holds) in
    rw whole (Reading-gives _ _ _ _ _ _ _ r same.taken same.limit (inl (record {
      part = r.seen ++ e.front;
      unbroken = IsUnbroken-append r.seen e.front r.unbroken e.unbroken;
      is = refl;
      split = r.split ∙ ap (λ l. r.seen ++ l) e.split ∙ sym (append_assoc r.seen e.front (10 ∷ mid.kept));
      within = e.within;
      met = elim r.met [
        | inl is ↦ inl (same.met ∙ is)
        | inr was ↦ elim was.1 [ inl passed ↦ inr (was.0, same.met ∙ passed) | inr none ↦ not_nil e.front mid.kept (sym e.split ∙ none) ]
      ];
      passed = λ over. same.met ∙ limit_met now now.met r.settled refl (λ none. not_nil e.front mid.kept (sym e.split ∙ none)) (omega (arith, over, same.taken, same.limit));
    })))

not_empty : (xs : List ℕ) → (xs ≡ [] → ⊥) → 0 < length xs
not_empty [] none = absurd (none refl)
not_empty (x ∷ xs) none = omega arith

-- the bytes at hand, all of which are within the limit and went to the part
hand_is : (left_before left_now : Option (List ℕ)) (first now mid : Stream) (part later : Beginning)
    → (r : Reading left_before left_now first now part) → (o : LeavesOpen now mid part later) → mid.taken ≤ mid.limit → first.kept ++ r.given ≡ r.seen ++ o.front
hand_is left_before left_now first now mid part later r o within = r.split ∙ ap (λ l. r.seen ++ l) (front_is now mid part later o within)

-- the input ends in the part
pub Reading-last : (left_before left_now : Option (List ℕ)) (first now mid : Stream) (part later : Beginning) (line : Line)
    → Reading left_before left_now first now part → LeavesOpen now mid part later → SameCounts now mid → mid.met ≡ Some stop.EndOfInput
    → ((seen : List ℕ) → Holds later seen → seen ≡ [] → ⊥)
    → ((seen : List ℕ) → Holds later seen → line ≡ line_of seen) → TakesNext left_before left_now first mid (Ok (Some line))
Reading-last left_before left_now first now mid part later line r o same met some line_is =
    let whole = line_is (r.seen ++ o.front) (o.grown r.seen r.holds) in
    let within : mid.taken ≤ mid.limit = omega (arith, r.settled.ended (sym same.met ∙ met), same.taken, same.limit) in
    let hand = sym (hand_is _ _ first now mid part later r o within) in
    rw whole (Reading-gives _ _ _ _ _ _ _ r same.taken same.limit (inr (record {
      unbroken = subst IsUnbroken hand (IsUnbroken-append r.seen o.front r.unbroken o.unbroken);
      some = subst (λ l. 0 < length l) hand (not_empty (r.seen ++ o.front) (some (r.seen ++ o.front) (o.grown r.seen r.holds)));
      is = ap line_of hand;
      drained = o.none within;
      met = met;
      within = within;
      at_end = r.at_end (sym same.met ∙ met);
    })))

pub Reading-limit : (left_before left_now : Option (List ℕ)) (first now mid last : Stream) (part later : Beginning)
    → Reading left_before left_now first now part → LeavesOpen now mid part later → SameCounts now mid → mid.met ≡ Some stop.InputLimit
    → last ≡ record mid { kept = [] } → TakesNext left_before left_now first last (Err end.InputLimit)
Reading-limit left_before left_now first now mid last part later r o same met is =
    let passed : now.taken ≡ now.limit + 1 = r.settled.passed (sym same.met ∙ met) in
    let seen : List ℕ = r.seen ++ o.front in
    let hand : first.kept ++ r.given ≡ seen ++ mid.kept = r.split ∙ ap (λ l. r.seen ++ l) o.split ∙ sym (append_assoc r.seen o.front mid.kept) in
    let before : first.limit + length first.kept - first.taken ≤ length seen =
    omega (arith, ap length hand, length-append first.kept r.given, length-append seen mid.kept, o.most, passed, r.count, r.same) in
    rw is (Reading-gives _ _ _ _ _ _ _ r same.taken same.limit (record {
      unbroken = subst (λ l. IsUnbroken (within_limit first l)) (sym hand) (IsUnbroken-before seen mid.kept _ (IsUnbroken-append r.seen o.front r.unbroken o.unbroken) before);
      drained = refl;
      met = met;
      passed = omega (arith, passed, same.taken, same.limit);
    }))

-- an end that was met before is met again
pub again : (left : Option (List ℕ)) (first : Stream) (s : Stop) → first.kept ≡ [] → first.met ≡ Some s → IsSettled first → TakesNext left left first first (again_of s)
unfolding Reading-start
again left first stop.EndOfInput none met settled =
    let r = Reading-start left first (record { bytes = []; long = false }) (inl (refl, refl, omega arith)) settled in
    Reading-gives _ _ _ _ _ _ _ r refl refl (record { nothing = r.split ∙ none; drained = none; met = met; within = settled.ended met; at_end = inl met })
again left first stop.ReadFault none met settled =
    let r = Reading-start left first (record { bytes = []; long = false }) (inl (refl, refl, omega arith)) settled in
    Reading-gives _ _ _ _ _ _ _ r refl refl (record { unbroken = subst IsUnbroken (sym (r.split ∙ none)) tt; drained = none; met = met; within = settled.faulted met })
again left first stop.InputLimit none met settled =
    let r = Reading-start left first (record { bytes = []; long = false }) (inl (refl, refl, omega arith)) settled in
    let nothing : length first.kept ≡ 0 = ap length none in
    Reading-gives _ _ _ _ _ _ _ r refl refl (record {
      unbroken = subst (λ l. IsUnbroken (within_limit first l)) (sym (r.split ∙ none)) (IsUnbroken-before [] [] _ tt (omega (arith, nothing, settled.passed met)));
      drained = none;
      met = met;
      passed = settled.passed met;
    })
again left first stop.Memory none met settled =
    let r = Reading-start left first (record { bytes = []; long = false }) (inl (refl, refl, omega arith)) settled in
    Reading-gives _ _ _ _ _ _ _ r refl refl (record { drained = none; met = met })
