-- The verdicts of replies, found in their bytes.
use Rattle.std.proofs.Common.{◌≡◌, ◌≢◌, ◌<◌, ◌+◌, ◌-◌, eqb, ◌++◌, ◌∙◌, ℕ, suc, zero, List, [], ◌∷◌, Bool, true, false, length, take, drop, refl, sym, ap, subst, arith, append_assoc}
use Rattle.std.specs.Prelude.{if◌then◌else◌, codes, decimal}
use Rattle.std.specs.List.{AllByRecursion, starts_with}
use Rattle.std.specs.Option.{is_some}
use Rattle.std.proofs.Math.Seq.{take-append_seam, take-length, drop-append_seam, drop-append-add}
use Rattle.std.proofs.lemmas.Bool.{ne_eqb, true≢false}
use Rattle.std.proofs.lemmas.Bool.Decides.{nat_tests}
use Rattle.std.proofs.lemmas.List.{length-append, length-drop}
use Rattle.json.specs.Print.{escape_byte}
use Rattle.memchr.specs.Find.{Passes, is_byte}
use Rattle.serde_json.specs.Data.{Data, string}
use Rattle.serde_json.specs.View.{items_of}
use Rattle.serde_json.specs.Written.{compact_text, items_text}
use Rattle.amm_model.specs.declared.reply.Answer.{Answer}
use Rattle.amm_model.specs.declared.reply.Answer.TheVariants as answers
use Rattle.amm_model.specs.declared.reply.Reply.{Reply}
use Rattle.amm_model.specs.Json.{list, whole}
use Rattle.amm_model.specs.ReplyText.{reply_text, reply_value, verdict}
use Rattle.amm_model.specs.Runs.{output_of}
use Rattle.amm_verdicts.specs.Verdicts.{refusal_in, is_refused, accepted_in, refused_in}
use Rattle.exchange.proofs.Unbroken.{AreLarge, compact_unbroken, decimal_large}

-- ---- the first place of a byte

abbrev Lacks : ℕ → List ℕ → Type 0
Lacks byte bytes = AllByRecursion (λ b. b ≢ byte) bytes

-- it stands behind what lacks it
stands : (byte : ℕ) (front more : List ℕ) → Passes (is_byte byte) (front ++ byte ∷ more) (length front)
stands byte [] more = grind (arith, nat_tests)
stands byte (b ∷ front) more = stands byte front more

is_there : (byte : ℕ) (front more : List ℕ) (at : ℕ) → Lacks byte front → ((k : ℕ) → k < at → ¬ Passes (is_byte byte) (front ++ byte ∷ more) k)
    → Passes (is_byte byte) (front ++ byte ∷ more) at → at ≡ length front
is_there byte [] more zero lacks before here = refl
is_there byte [] more (suc at) lacks before here = absurd (before 0 (omega arith) (stands byte [] more))
is_there byte (b ∷ front) more zero lacks before here = absurd (true≢false (sym here ∙ ne_eqb b byte lacks.0))
is_there byte (b ∷ front) more (suc at) lacks before here = ap suc (is_there byte front more at lacks.1 (λ k lt. before (suc k) (omega (arith, lt))) here)

is_inside : (byte : ℕ) (front more : List ℕ) → length front < length (front ++ byte ∷ more)
is_inside byte front more = omega (arith, length-append front (byte ∷ more))

-- ---- one reply

-- the word of a verdict
abbrev word_of : Bool → List ℕ
word_of refused = if refused then codes "no" else codes "ok"

told : (answer : Answer) → (rest : List Data) × (verdict answer ≡ string (word_of (is_some (refusal_in answer))) ∷ rest)
told (answers.Refused code) = (_, refl)
told (answers.Deposit balance total) = (_, refl)
told (answers.Withdraw balance total) = (_, refl)
told answers.Transfer = (_, refl)
told answers.Time = (_, refl)
told answers.FeeTo = (_, refl)
told answers.Setter = (_, refl)
told (answers.Create pool) = (_, refl)
told (answers.Mint receipt) = (_, refl)
told (answers.Burn receipt) = (_, refl)
told (answers.Swap receipt) = (_, refl)
told (answers.Skim receipt) = (_, refl)
told (answers.Flash receipt) = (_, refl)
told (answers.Sync r0 r1) = (_, refl)
told (answers.Add receipt) = (_, refl)
told (answers.Remove receipt) = (_, refl)
told (answers.SwapIn amounts) = (_, refl)
told (answers.SwapOut amounts) = (_, refl)
told (answers.QuoteOut amounts) = (_, refl)
told (answers.QuoteIn amounts) = (_, refl)
told (answers.Split number quote) = (_, refl)
told (answers.Settle delivered) = (_, refl)
told (answers.Certificate quote) = (_, refl)
told (answers.Pool pair b0 b1 supply) = (_, refl)
told (answers.Balance n) = (_, refl)
told (answers.Total n) = (_, refl)
told (answers.Observe number observation) = (_, refl)
told (answers.Average averages) = (_, refl)
told (answers.Consult n) = (_, refl)
told (answers.Window found) = (_, refl)
told (answers.Basket quote) = (_, refl)
told (answers.Cycle quote) = (_, refl)

-- what stands before the first string of a reply
abbrev before_word : ℕ → List ℕ
before_word line = 91 ∷ (decimal line ++ 44 ∷ [])

large_lack : (bytes : List ℕ) → AreLarge bytes → Lacks 34 (bytes ++ 44 ∷ [])
large_lack [] large = ((λ e. omega (arith, e)), tt)
large_lack (b ∷ bytes) large = ((λ e. omega (arith, large.0, e)), large_lack bytes large.1)

before_lacks : (line : ℕ) → Lacks 34 (before_word line)
before_lacks line = ((λ e. omega (arith, e)), large_lack (decimal line) (decimal_large line))

-- a string, and what stands behind it
abbrev string_before : List ℕ → List ℕ → List ℕ
string_before word rest = 34 ∷ (word ++ 34 ∷ rest)

reply_parts : (reply : Reply) → (rest : List ℕ) × (compact_text (reply_value reply) ≡ before_word reply.line ++ string_before (word_of (is_refused reply)) rest)
unfolding escape_byte
reply_parts reply =
    let t = told reply.answer in
    (_, ap (λ ds. compact_text (list (whole reply.line ∷ ds))) t.1 ∙ by (is_refused reply) t.0)
  where
    by : (refused : Bool) (ds : List Data) → compact_text (list (whole reply.line ∷ string (word_of refused) ∷ ds)) ≡ before_word reply.line ++ string_before (word_of refused) (items_text true (items_of ds))
    by true ds = ap (λ s. 91 ∷ s) (sym (append_assoc (decimal reply.line) (44 ∷ []) (string_before (codes "no") (items_text true (items_of ds)))))
    by false ds = ap (λ s. 91 ∷ s) (sym (append_assoc (decimal reply.line) (44 ∷ []) (string_before (codes "ok") (items_text true (items_of ds)))))

-- ---- the replies that are left

-- what is behind a front, as a slice
pub behind_front : (bytes : List ℕ) (n : ℕ) → take (length bytes - n) (drop n bytes) ≡ drop n bytes
behind_front bytes n =
    let size : length bytes - n ≡ length (drop n bytes) = sym (length-drop n bytes) in
    ap (λ k. take k (drop n bytes)) size ∙ take-length (drop n bytes)

-- each reply counts once
pub one_counted : (refuses : Bool) → (if refuses then 0 else 1) + (if refuses then 1 else 0) ≡ 1
one_counted true = refl
one_counted false = refl

-- The verdicts so far, and those of the replies that are left, are those of all.
pub record Counts (rest : List ℕ) (a r : ℕ) (all : List Reply) : Type 0 where
  pub left : List Reply
  pub is : rest ≡ output_of left
  pub accepted : accepted_in left + a ≡ accepted_in all
  pub refused : refused_in left + r ≡ refused_in all

-- a reply and its newline, and the replies behind it
laid : (reply : Reply) (replies : List Reply) → output_of (reply ∷ replies) ≡ compact_text (reply_value reply) ++ 10 ∷ output_of replies
unfolding reply_text
laid reply replies = append_assoc (compact_text (reply_value reply)) (10 ∷ []) (output_of replies)

pub counts_more : (rest : List ℕ) (accepted refused end : ℕ) (refuses : Bool) (all : List Reply) → Counts rest accepted refused all
    → end < length rest → ((k : ℕ) → k < end → ¬ Passes (is_byte 10) rest k) → Passes (is_byte 10) rest end
    → ((reply : Reply) → take end rest ≡ compact_text (reply_value reply) → refuses ≡ is_refused reply)
    → Counts (drop (end + 1) rest) ((if refuses then 0 else 1) + accepted) ((if refuses then 1 else 0) + refused) all
counts_more rest accepted refused end refuses all c inside before here verdict_is = by c.left c.is c.accepted c.refused
  where
    by : (left : List Reply) → rest ≡ output_of left → accepted_in left + accepted ≡ accepted_in all → refused_in left + refused ≡ refused_in all
        → Counts (drop (end + 1) rest) ((if refuses then 0 else 1) + accepted) ((if refuses then 1 else 0) + refused) all
    by [] is a r = absurd (omega (arith, inside, ap length is))
    by (reply ∷ replies) is a r =
        let text : List ℕ = compact_text (reply_value reply) in
        let whole_is : rest ≡ text ++ 10 ∷ output_of replies = is ∙ laid reply replies in
        let at : end ≡ length text =
        is_there 10 text (output_of replies) end (compact_unbroken (reply_value reply))
        (subst (λ (bytes : List ℕ). (k : ℕ) → k < end → ¬ Passes (is_byte 10) bytes k) whole_is before)
        (subst (λ (bytes : List ℕ). Passes (is_byte 10) bytes end) whole_is here) in
        let front : take end rest ≡ text = rw (at, whole_is) (take-append_seam text (10 ∷ output_of replies)) in
        let behind : drop (end + 1) rest ≡ output_of replies = rw (at, whole_is) (drop-append-add text (10 ∷ output_of replies) 1) in
        let same : refuses ≡ is_refused reply = verdict_is reply front in
        record {
          left = replies;
          is = behind;
          accepted = rw same (omega (arith, a));
          refused = rw same (omega (arith, r));
        }

-- without a newline there is no reply
pub counts_all : (rest : List ℕ) (accepted refused : ℕ) (all : List Reply) → Counts rest accepted refused all
    → ((k : ℕ) → k < length rest → ¬ Passes (is_byte 10) rest k) → (accepted ≡ accepted_in all) × (refused ≡ refused_in all)
counts_all rest accepted refused all c none = by c.left c.is c.accepted c.refused
  where
    by : (left : List Reply) → rest ≡ output_of left → accepted_in left + accepted ≡ accepted_in all → refused_in left + refused ≡ refused_in all
        → (accepted ≡ accepted_in all) × (refused ≡ refused_in all)
    by [] is a r = (omega (arith, a), omega (arith, r))
    by (reply ∷ replies) is a r =
        let text : List ℕ = compact_text (reply_value reply) in
        let whole_is : rest ≡ text ++ 10 ∷ output_of replies = is ∙ laid reply replies in
        absurd ((subst (λ (bytes : List ℕ). (k : ℕ) → k < length bytes → ¬ Passes (is_byte 10) bytes k) whole_is none)
        (length text) (is_inside 10 text (output_of replies)) (stands 10 text (output_of replies)))

-- ---- the verdict of one reply

-- the word that is looked for stands in a reply exactly where it refuses
pub word_found : (reply : Reply) (bytes : List ℕ) (quote : ℕ) → bytes ≡ compact_text (reply_value reply)
    → ((k : ℕ) → k < quote → ¬ Passes (is_byte 34) bytes k) → Passes (is_byte 34) bytes quote
    → (rest : List ℕ) × (drop quote bytes ≡ string_before (word_of (is_refused reply)) rest)
word_found reply bytes quote is before here =
    let parts = reply_parts reply in
    let whole_is = is ∙ parts.1 in
    let front : List ℕ = before_word reply.line in
    let behind : List ℕ = word_of (is_refused reply) ++ 34 ∷ parts.0 in
    let at : quote ≡ length front =
    is_there 34 front behind quote (before_lacks reply.line)
    (subst (λ (b : List ℕ). (k : ℕ) → k < quote → ¬ Passes (is_byte 34) b k) whole_is before)
    (subst (λ (b : List ℕ). Passes (is_byte 34) b quote) whole_is here) in
    (parts.0, rw (at, whole_is) (drop-append_seam front (34 ∷ behind)))

-- each reply has a string
pub word_stands : (reply : Reply) (bytes : List ℕ) → bytes ≡ compact_text (reply_value reply) → ((k : ℕ) → k < length bytes → ¬ Passes (is_byte 34) bytes k) → ⊥
word_stands reply bytes is none =
    let parts = reply_parts reply in
    let whole_is = is ∙ parts.1 in
    let front : List ℕ = before_word reply.line in
    let behind : List ℕ = word_of (is_refused reply) ++ 34 ∷ parts.0 in
    (subst (λ (b : List ℕ). (k : ℕ) → k < length b → ¬ Passes (is_byte 34) b k) whole_is none)
    (length front) (is_inside 34 front behind) (stands 34 front behind)

-- and is found there
pub word_tells : (bytes : List ℕ) (quote : ℕ) (refused : Bool) (rest : List ℕ) → drop quote bytes ≡ string_before (word_of refused) rest
    → starts_with eqb (take (length bytes - quote) (drop quote bytes)) (34 ∷ 110 ∷ 111 ∷ 34 ∷ []) ≡ refused
word_tells bytes quote refused rest is =
    ap (λ l. starts_with eqb l (34 ∷ 110 ∷ 111 ∷ 34 ∷ [])) (behind_front bytes quote ∙ is) ∙ by refused
  where
    by : (p : Bool) → starts_with eqb (string_before (word_of p) rest) (34 ∷ 110 ∷ 111 ∷ 34 ∷ []) ≡ p
    by true = refl
    by false = refl
