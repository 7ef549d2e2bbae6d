-- How far the lines of a source are answered.
use Rattle.std.proofs.Common.{◌≡◌, ◌≢◌, ◌≤◌, ◌+◌, ◌-◌, ◌++◌, ◌∙◌, ◌∷◌, ◌⊎◌, inl, inr, ℕ, List, [], length, take, map, sym, ap, refl, arith, subst, append_assoc, length-append, None, Some, Result, Ok, Err}
use Rattle.std.specs.List.{flat_map, AllByRecursion}
use Rattle.std.proofs.lemmas.List.{append-nil, length-map, map_push, nil_from_length}
use Rattle.std.proofs.lemmas.Grind.{flat_map-append}
use Rattle.std.proofs.Math.Seq.{take-append-add}
use Rattle.std.specs.declared.option.Option.{Option}
use Rattle.std.specs.Io.KnownBytes.{Appends, Consumes, IsAtEnd}
use Rattle.std.proofs.KnownBytes.{Consumes-nil, Consumes-trans, Appends-nil, Appends-trans}
use Rattle.amm_io.specs.Streams.{Stream, TakesNext, within_limit}
use Rattle.amm_io.specs.Traffic.{AppendsPart}
use Rattle.amm_io.specs.declared.source.IoEnd.{IoEnd}
use Rattle.amm_io.specs.declared.source.IoEnd.TheVariants as end
use Rattle.amm_io.specs.declared.stream.Stop.{Stop}
use Rattle.amm_io.specs.declared.stream.Stop.TheVariants.{EndOfInput, ReadFault, InputLimit}
use Rattle.amm_model.specs.declared.line.Line.{Line}
use Rattle.amm_model.specs.Ledger.{Ledger}
use Rattle.amm_model.specs.Lines.{parts_of, ended_parts_of, lines_of, line_of, IsUnbroken}
use Rattle.amm_model.specs.Runs.{FairStep, output_of}
use Rattle.amm_model.specs.ReplyText.{reply_text}
use Rattle.amm_engine.specs.Service.{AnswersLine, AnswersAll, StopsInReply, AreWholeLines, ServesAll, ServesEnded, ServesToLimit, BreaksOff, LacksMemory}
use Rattle.amm_model.proofs.RunLemmas.{RunBy-more}
use Rattle.amm_history.proofs.Told.{tells_averages}
use Rattle.amm_engine.proofs.Parts.{end_part, parts_of-parts, parts_of-unbroken, ended_parts_of-parts, ended_parts_of-unbroken, AllByRecursion-push, length-parts, whole_lines, lines_of-parts}

-- Each part so far was ended by a newline within the limit, and what is kept comes after them.
pub record IsOpen (limit : ℕ) (taken : List ℕ) (parts : List (List ℕ)) (lines : Stream) : Type 0 where
  pub unbroken : AllByRecursion IsUnbroken parts
  pub whole : taken ≡ flat_map end_part parts ++ lines.kept
  pub within : length (flat_map end_part parts) ≤ limit
  pub not_at_end : lines.met ≢ Some EndOfInput
  pub not_failed : lines.met ≢ Some ReadFault

-- The input ended in a last part without newline.
pub record IsClosed (limit : ℕ) (taken : List ℕ) (parts : List (List ℕ)) (lines : Stream) (AtEnd : Type 0) : Type 0 where
  pub none : lines.kept ≡ []
  pub met : lines.met ≡ Some EndOfInput
  pub at_end : AtEnd
  pub whole : parts_of taken ≡ parts
  pub within : length taken ≤ limit

-- The parts that came so far are answered, and the next one has this number.
pub record Streaming (limit : ℕ) (old : Ledger) (left_before left_now before now : Option (List ℕ)) (lines : Stream) (number : ℕ) (ledger : Ledger) : Type 0 where
  pub taken : List ℕ
  pub consumed : Consumes left_before left_now taken
  pub count : lines.taken ≡ length taken
  pub same : lines.limit ≡ limit
  pub most : lines.taken ≤ limit + 1
  pub parts : List (List ℕ)
  pub numbered : number ≡ 1 + length parts
  pub bound : length parts ≤ limit
  pub answered : AnswersAll old (map line_of parts) before now ledger
  pub state : IsOpen limit taken parts lines ⊎ IsClosed limit taken parts lines (IsAtEnd left_now)

pub Streaming-start : (limit : ℕ) (old : Ledger) (left before : Option (List ℕ)) (lines : Stream)
    → lines ≡ record { kept = []; taken = 0; limit = limit; met = None } → Streaming limit old left left before before lines 1 old
Streaming-start limit old left before lines is =
    rw is (record {
      taken = [];
      consumed = Consumes-nil left;
      count = refl;
      same = refl;
      most = omega arith;
      parts = [];
      numbered = refl;
      bound = omega arith;
      answered = record { replies = []; run = (refl, refl); averages = tells_averages old 1 [] [] old (refl, refl); written = Appends-nil before };
      state = inl (record { unbroken = tt; whole = refl; within = omega arith; not_at_end = λ e. cc; not_failed = λ e. cc });
    })

-- what stands after the parts, with the bytes of one more call
whole_after : (taken given kept : List ℕ) (parts : List (List ℕ)) → taken ≡ flat_map end_part parts ++ kept → taken ++ given ≡ flat_map end_part parts ++ (kept ++ given)
whole_after taken given kept parts whole = ap (λ l. l ++ given) whole ∙ append_assoc (flat_map end_part parts) kept given

-- one more part with its newline
whole_more : (parts : List (List ℕ)) (part kept : List ℕ) → flat_map end_part parts ++ (part ++ 10 ∷ kept) ≡ flat_map end_part (parts ++ part ∷ []) ++ kept
whole_more parts part kept =
    sym (ap (λ l. l ++ kept) (flat_map-append end_part parts (part ∷ []))
    ∙ append_assoc (flat_map end_part parts) (end_part part ++ []) kept
    ∙ ap (λ l. flat_map end_part parts ++ (l ++ kept)) (append-nil (end_part part))
    ∙ ap (λ l. flat_map end_part parts ++ l) (append_assoc part (10 ∷ []) kept))

AnswersAll-more : (old : Ledger) (front : List Line) (before now later : Option (List ℕ)) (ledger new : Ledger) (line : Line) (text : List ℕ)
    → AnswersAll old front before now ledger → AnswersLine ledger (1 + length front) line text new → Appends now later text → AnswersAll old (front ++ line ∷ []) before later new
AnswersAll-more old front before now later ledger new line text all answers written =
    let run = RunBy-more FairStep _ _ _ _ _ _ _ _ all.run answers.step in
    record {
      replies = all.replies ++ answers.replies;
      run = run;
      averages = tells_averages old 1 (front ++ line ∷ []) (all.replies ++ answers.replies) new run;
      written = subst (Appends before later) (ap (λ t. output_of all.replies ++ t) answers.is ∙ sym (flat_map-append reply_text all.replies answers.replies))
          (Appends-trans before now later _ _ all.written written);
    }

-- The next line stands after the parts, and few of the bytes taken come after it.
record HasLine (limit : ℕ) (left_before left_after : Option (List ℕ)) (parts : List (List ℕ)) (line : Line) (next : Stream) (taken : List ℕ) : Type 0 where
  part : List ℕ
  is : line ≡ line_of part
  through : List ℕ
  past : List ℕ
  split : taken ≡ through ++ past
  whole : AreWholeLines through left_after past
  near : length past ≤ 131072
  lines : parts_of through ≡ parts ++ part ∷ []
  more : length (parts ++ part ∷ []) ≤ limit
  state : IsOpen limit taken (parts ++ part ∷ []) next ⊎ IsClosed limit taken (parts ++ part ∷ []) next (IsAtEnd left_after)

met_before : (old new : Option Stop) (stop : Stop) → (new ≡ old) ⊎ ((old ≡ None) × (new ≡ Some InputLimit)) → new ≡ Some stop → (stop ≡ InputLimit → ⊥) → old ≡ Some stop
met_before old new stop (inl same) is other = sym same ∙ is
met_before old new stop (inr was) is other =
    let limit = was.1 in
    absurd (other (cc (limit, is)))

Streaming-line : (limit : ℕ) (old : Ledger) (left_before left_now left_after before now : Option (List ℕ)) (lines next : Stream) (number : ℕ) (ledger : Ledger) (line : Line)
    → (s : Streaming limit old left_before left_now before now lines number ledger) → (t : TakesNext left_now left_after lines next (Ok (Some line)))
    → IsOpen limit s.taken s.parts lines → length next.kept ≤ 131072
    → HasLine limit left_before left_after s.parts line next (s.taken ++ t.given)
Streaming-line limit old left_before left_now left_after before now lines next number ledger line s t x few =
    let count : next.taken ≡ length (s.taken ++ t.given) = omega (arith, t.count, s.count, length-append s.taken t.given) in
    let same : next.limit ≡ limit = t.same ∙ s.same in
    let shown = whole_after s.taken t.given lines.kept s.parts x.whole in
    elim t.outcome [
      | inl e ↦
          let more : List (List ℕ) = s.parts ++ e.part ∷ [] in
          let unbroken = AllByRecursion-push s.parts e.part x.unbroken e.unbroken in
          let split : s.taken ++ t.given ≡ flat_map end_part more ++ next.kept = shown ∙ ap (λ l. flat_map end_part s.parts ++ l) e.split ∙ whole_more s.parts e.part next.kept in
          let within : length (flat_map end_part more) ≤ limit = omega (arith, ap length split, length-append (flat_map end_part more) next.kept, e.within, same, count) in
          record {
            part = e.part;
            is = e.is;
            through = flat_map end_part more;
            past = next.kept;
            split = split;
            whole = whole_lines more left_after next.kept;
            near = few;
            lines = ap parts_of (sym (append-nil (flat_map end_part more))) ∙ parts_of-parts more [] unbroken ∙ append-nil more;
            more = omega (arith, within, length-parts more);
            state = inl (record {
              unbroken = unbroken;
              whole = split;
              within = within;
              not_at_end = λ is. x.not_at_end (met_before lines.met next.met EndOfInput e.met is (λ o. cc));
              not_failed = λ is. x.not_failed (met_before lines.met next.met ReadFault e.met is (λ o. cc));
            });
          }
      | inr e ↦
          let bytes : List ℕ = lines.kept ++ t.given in
          let through : List ℕ = flat_map end_part s.parts ++ bytes in
          let parts : parts_of through ≡ s.parts ++ bytes ∷ [] = parts_of-parts s.parts bytes x.unbroken ∙ ap (λ l. s.parts ++ l) (parts_of-unbroken bytes e.unbroken e.some) in
          let at_end : IsAtEnd left_after = elim e.at_end [ inl was ↦ absurd (x.not_at_end was) | inr here ↦ here ] in
          let within : length (s.taken ++ t.given) ≤ limit = omega (arith, e.within, same, count) in
          record {
            part = bytes;
            is = e.is;
            through = through;
            past = [];
            split = shown ∙ sym (append-nil through);
            whole = inr (inr (refl, at_end));
            near = omega arith;
            lines = parts;
            more = omega (arith, within, ap length shown, length-append (flat_map end_part s.parts) bytes, e.some, length-parts s.parts, length-append s.parts (bytes ∷ []));
            state = inr (record { none = e.drained; met = e.met; at_end = at_end; whole = ap parts_of shown ∙ parts; within = within });
          }
    ]

-- no last part came so far
pub Streaming-open : (limit : ℕ) (old : Ledger) (left_before left_now before now : Option (List ℕ)) (lines : Stream) (number : ℕ) (ledger : Ledger)
    → (s : Streaming limit old left_before left_now before now lines number ledger) → (lines.kept ≡ [] → lines.met ≡ Some EndOfInput → ⊥) → IsOpen limit s.taken s.parts lines
Streaming-open limit old left_before left_now before now lines number ledger s not_closed =
    elim s.state [ inl x ↦ x | inr closed ↦ absurd (not_closed closed.none closed.met) ]

-- the answer to the line that came, with the number that it has after those before it
answers_here : (limit : ℕ) (old : Ledger) (left_before left_now before now : Option (List ℕ)) (lines : Stream) (number : ℕ) (ledger new : Ledger) (line : Line) (part text : List ℕ)
    → (s : Streaming limit old left_before left_now before now lines number ledger) → line ≡ line_of part → AnswersLine ledger number line text new
    → AnswersLine ledger (1 + length (map line_of s.parts)) (line_of part) text new
answers_here limit old left_before left_now before now lines number ledger new line part text s is answers =
    subst (λ n. AnswersLine ledger n (line_of part) text new) (omega (arith, s.numbered, length-map s.parts line_of)) (subst (λ l. AnswersLine ledger number l text new) is answers)

-- a line more came, and is answered
pub Streaming-more : (limit : ℕ) (old : Ledger) (left_before left_now left_after before now later : Option (List ℕ)) (lines next : Stream) (number : ℕ) (ledger new : Ledger)
    (line : Line) (text : List ℕ)
    → Streaming limit old left_before left_now before now lines number ledger → TakesNext left_now left_after lines next (Ok (Some line))
    → (lines.kept ≡ [] → lines.met ≡ Some EndOfInput → ⊥) → length next.kept ≤ 131072 → AnswersLine ledger number line text new → Appends now later text
    → Streaming limit old left_before left_after before later next (number + 1) new
Streaming-more limit old left_before left_now left_after before now later lines next number ledger new line text s t not_closed few answers written =
    let h = Streaming-line _ _ _ _ _ _ _ _ _ _ _ _ s t (Streaming-open _ _ _ _ _ _ _ _ _ s not_closed) few in
    record {
      taken = s.taken ++ t.given;
      consumed = Consumes-trans _ _ _ _ _ s.consumed t.consumed;
      count = omega (arith, t.count, s.count, length-append s.taken t.given);
      same = t.same ∙ s.same;
      most = omega (arith, t.most, s.same);
      parts = s.parts ++ h.part ∷ [];
      numbered = omega (arith, s.numbered, length-append s.parts (h.part ∷ []));
      bound = h.more;
      answered = subst (λ l. AnswersAll old l before later new) (sym (map_push line_of s.parts h.part))
          (AnswersAll-more old (map line_of s.parts) before now later ledger new (line_of h.part) text s.answered (answers_here _ _ _ _ _ _ _ _ _ _ _ h.part text s h.is answers) written);
      state = h.state;
    }

-- The next line came, and a part of its reply is written.
record Broken (limit : ℕ) (old : Ledger) (left_before left_after before later : Option (List ℕ)) (new : Ledger) : Type 0 where
  through : List ℕ
  past : List ℕ
  taken : Consumes left_before left_after (through ++ past)
  most : length (through ++ past) ≤ limit + 1
  whole : AreWholeLines through left_after past
  near : length past ≤ 131072
  answered : StopsInReply old (lines_of through) before later new

Streaming-broken : (limit : ℕ) (old : Ledger) (left_before left_now left_after before now later : Option (List ℕ)) (lines next : Stream) (number : ℕ) (ledger new : Ledger)
    (line : Line) (text : List ℕ)
    → Streaming limit old left_before left_now before now lines number ledger → TakesNext left_now left_after lines next (Ok (Some line))
    → (lines.kept ≡ [] → lines.met ≡ Some EndOfInput → ⊥) → length next.kept ≤ 131072 → AnswersLine ledger number line text new → AppendsPart now later text
    → Broken limit old left_before left_after before later new
Streaming-broken limit old left_before left_now left_after before now later lines next number ledger new line text s t not_closed few answers part =
    let h = Streaming-line _ _ _ _ _ _ _ _ _ _ _ _ s t (Streaming-open _ _ _ _ _ _ _ _ _ s not_closed) few in
    record {
      through = h.through;
      past = h.past;
      taken = subst (Consumes left_before left_after) h.split (Consumes-trans _ _ _ _ _ s.consumed t.consumed);
      most = subst (λ l. length l ≤ limit + 1) h.split (omega (arith, t.most, t.count, s.count, s.same, length-append s.taken t.given));
      whole = h.whole;
      near = h.near;
      answered = record {
        front = map line_of s.parts;
        line = line_of h.part;
        split = ap (map line_of) h.lines ∙ map_push line_of s.parts h.part;
        between = now;
        reached = ledger;
        answered = s.answered;
        text = text;
        next = answers_here _ _ _ _ _ _ _ _ _ _ _ h.part text s h.is answers;
        part = part;
      };
    }

pub Streaming-breaks : (limit : ℕ) (old : Ledger) (left_before left_now left_after before now later : Option (List ℕ)) (lines next : Stream) (number : ℕ) (ledger new : Ledger)
    (line : Line) (text : List ℕ)
    → Streaming limit old left_before left_now before now lines number ledger → TakesNext left_now left_after lines next (Ok (Some line))
    → (lines.kept ≡ [] → lines.met ≡ Some EndOfInput → ⊥) → length next.kept ≤ 131072 → AnswersLine ledger number line text new → AppendsPart now later text
    → BreaksOff limit left_before left_after before later old new
Streaming-breaks limit old left_before left_now left_after before now later lines next number ledger new line text s t not_closed few answers part =
    let b = Streaming-broken _ _ _ _ _ _ _ _ _ _ _ _ _ _ _ s t not_closed few answers part in
    record { through = b.through; past = b.past; taken = b.taken; most = b.most; whole = b.whole; near = b.near; answered = b.answered }

pub Streaming-lacks_reply : (limit : ℕ) (old : Ledger) (left_before left_now left_after before now later : Option (List ℕ)) (lines next : Stream) (number : ℕ) (ledger new : Ledger)
    (line : Line) (text : List ℕ)
    → Streaming limit old left_before left_now before now lines number ledger → TakesNext left_now left_after lines next (Ok (Some line))
    → (lines.kept ≡ [] → lines.met ≡ Some EndOfInput → ⊥) → length next.kept ≤ 131072 → AnswersLine ledger number line text new → AppendsPart now later text
    → LacksMemory limit left_before left_after before later old new
Streaming-lacks_reply limit old left_before left_now left_after before now later lines next number ledger new line text s t not_closed few answers part =
    let b = Streaming-broken _ _ _ _ _ _ _ _ _ _ _ _ _ _ _ s t not_closed few answers part in
    record { through = b.through; past = b.past; taken = b.taken; most = b.most; whole = b.whole; answered = inr b.answered }

-- there was no memory for the next line or its answer
pub Streaming-lacks : (limit : ℕ) (old : Ledger) (left_before left_now left_after before now : Option (List ℕ)) (lines next : Stream) (number : ℕ) (ledger : Ledger) (result : Result (Option Line) IoEnd)
    → Streaming limit old left_before left_now before now lines number ledger → TakesNext left_now left_after lines next result
    → (lines.kept ≡ [] → lines.met ≡ Some EndOfInput → ⊥) → LacksMemory limit left_before left_after before now old ledger
Streaming-lacks limit old left_before left_now left_after before now lines next number ledger result s t not_closed =
    let x = Streaming-open _ _ _ _ _ _ _ _ _ s not_closed in
    let shown = whole_after s.taken t.given lines.kept s.parts x.whole in
    record {
      through = flat_map end_part s.parts;
      past = lines.kept ++ t.given;
      taken = subst (Consumes left_before left_after) shown (Consumes-trans _ _ _ _ _ s.consumed t.consumed);
      most = subst (λ l. length l ≤ limit + 1) shown (omega (arith, t.most, t.count, s.count, s.same, length-append s.taken t.given));
      whole = whole_lines s.parts left_after (lines.kept ++ t.given);
      answered = inl (subst (λ l. AnswersAll old l before now ledger) (sym (lines_of-parts s.parts x.unbroken)) s.answered);
    }

-- there was no memory to begin with
pub LacksMemory-start : (limit : ℕ) (old : Ledger) (left before : Option (List ℕ)) → LacksMemory limit left left before before old old
LacksMemory-start limit old left before =
    record {
      through = [];
      past = [];
      taken = Consumes-nil left;
      most = omega arith;
      whole = inl refl;
      answered = inl (record { replies = []; run = (refl, refl); averages = tells_averages old 1 [] [] old (refl, refl); written = Appends-nil before });
    }

-- all lines came
pub Streaming-done : (limit : ℕ) (old : Ledger) (left_before left_now left_after before now : Option (List ℕ)) (lines next : Stream) (number : ℕ) (ledger : Ledger)
    → Streaming limit old left_before left_now before now lines number ledger → TakesNext left_now left_after lines next (Ok None)
    → (lines.kept ≡ [] → lines.met ≡ Some EndOfInput → (next ≡ lines) × (left_after ≡ left_now))
    → ServesAll limit left_before left_after before now old ledger
Streaming-done limit old left_before left_now left_after before now lines next number ledger s t closed =
    let d = t.outcome in
    let within : length (s.taken ++ t.given) ≤ limit = omega (arith, d.within, t.same, s.same, t.count, s.count, length-append s.taken t.given) in
    elim s.state [
      | inl x ↦
          let shown = whole_after s.taken t.given lines.kept s.parts x.whole in
          let parts : parts_of (s.taken ++ t.given) ≡ s.parts = ap parts_of (shown ∙ ap (λ l. flat_map end_part s.parts ++ l) d.nothing)
          ∙ parts_of-parts s.parts [] x.unbroken ∙ append-nil s.parts in
          record {
            input = s.taken ++ t.given;
            taken = Consumes-trans _ _ _ _ _ s.consumed t.consumed;
            within = within;
            at_end = elim d.at_end [ inl was ↦ absurd (x.not_at_end was) | inr here ↦ here ];
            answered = subst (λ l. AnswersAll old l before now ledger) (sym (ap (map line_of) parts)) s.answered;
          }
      | inr x ↦
          let same = closed x.none x.met in
          let none : t.given ≡ [] = nil_from_length t.given (omega (arith, t.count, ap (λ (l : Stream). l.taken) same.0)) in
          record {
            input = s.taken ++ t.given;
            taken = Consumes-trans _ _ _ _ _ s.consumed t.consumed;
            within = within;
            at_end = subst IsAtEnd (sym same.1) x.at_end;
            answered = subst (λ l. AnswersAll old l before now ledger) (sym (ap (λ g. lines_of (s.taken ++ g)) none ∙ ap lines_of (append-nil s.taken) ∙ ap (map line_of) x.whole)) s.answered;
          }
    ]

-- the source failed, and the lines that are ended came
pub Streaming-ended : (limit : ℕ) (old : Ledger) (left_before left_now left_after before now : Option (List ℕ)) (lines next : Stream) (number : ℕ) (ledger : Ledger)
    → Streaming limit old left_before left_now before now lines number ledger → TakesNext left_now left_after lines next (Err end.ReadFault)
    → (lines.kept ≡ [] → lines.met ≡ Some EndOfInput → ⊥) → ServesEnded limit left_before left_after before now old ledger
Streaming-ended limit old left_before left_now left_after before now lines next number ledger s t not_closed =
    let x = Streaming-open _ _ _ _ _ _ _ _ _ s not_closed in
    let f = t.outcome in
    let parts : ended_parts_of (s.taken ++ t.given) ≡ s.parts =
    ap ended_parts_of (whole_after s.taken t.given lines.kept s.parts x.whole) ∙ ended_parts_of-parts s.parts _ x.unbroken
    ∙ ap (λ l. s.parts ++ l) (ended_parts_of-unbroken _ f.unbroken) ∙ append-nil s.parts in
    record {
      input = s.taken ++ t.given;
      taken = Consumes-trans _ _ _ _ _ s.consumed t.consumed;
      within = omega (arith, f.within, t.same, s.same, t.count, s.count, length-append s.taken t.given);
      answered = subst (λ l. AnswersAll old l before now ledger) (sym (ap (map line_of) parts)) s.answered;
    }

-- the limit is passed, and the lines that are ended within it came
pub Streaming-passed : (limit : ℕ) (old : Ledger) (left_before left_now left_after before now : Option (List ℕ)) (lines next : Stream) (number : ℕ) (ledger : Ledger)
    → Streaming limit old left_before left_now before now lines number ledger → TakesNext left_now left_after lines next (Err end.InputLimit)
    → (lines.kept ≡ [] → lines.met ≡ Some EndOfInput → ⊥) → ServesToLimit limit left_before left_after before now old ledger
Streaming-passed limit old left_before left_now left_after before now lines next number ledger s t not_closed =
    let x = Streaming-open _ _ _ _ _ _ _ _ _ s not_closed in
    let m = t.outcome in
    let front : List ℕ = flat_map end_part s.parts in
    let rest : ℕ = lines.limit + length lines.kept - lines.taken in
    let fits : limit ≡ length front + rest = omega (arith, x.within, s.count, s.same, ap length x.whole, length-append front lines.kept) in
    let cut : take limit (s.taken ++ t.given) ≡ front ++ within_limit lines (lines.kept ++ t.given)
    = ap (take limit) (whole_after s.taken t.given lines.kept s.parts x.whole) ∙ ap (λ n. take n (front ++ (lines.kept ++ t.given))) fits
    ∙ take-append-add front (lines.kept ++ t.given) rest in
    let parts : ended_parts_of (take limit (s.taken ++ t.given)) ≡ s.parts =
    ap ended_parts_of cut ∙ ended_parts_of-parts s.parts _ x.unbroken ∙ ap (λ l. s.parts ++ l) (ended_parts_of-unbroken _ m.unbroken) ∙ append-nil s.parts in
    record {
      input = s.taken ++ t.given;
      taken = Consumes-trans _ _ _ _ _ s.consumed t.consumed;
      passed = omega (arith, m.passed, t.same, s.same, t.count, s.count, length-append s.taken t.given);
      answered = subst (λ l. AnswersAll old l before now ledger) (sym (ap (map line_of) parts)) s.answered;
    }

-- no read has failed so far
pub Streaming-not_failed : (limit : ℕ) (old : Ledger) (left_before left_now before now : Option (List ℕ)) (lines : Stream) (number : ℕ) (ledger : Ledger)
    → Streaming limit old left_before left_now before now lines number ledger → lines.met ≢ Some ReadFault
Streaming-not_failed limit old left_before left_now before now lines number ledger s e =
    elim s.state [ inl x ↦ x.not_failed e | inr x ↦ let met = x.met in cc (met, e) ]
