-- A whole certificate: what was read of its ten values, and the value that it is.
use Rattle.std.proofs.Common.{◌≡◌, ℕ, ◌<◌, ◌≤◌, ◌^◌, List, [], ◌∷◌, length, get_or, map, Result, Ok, Err, refl, sym, ap, subst, ◌∙◌, arith}
use Rattle.std.specs.Prelude.{codes, IfOk}
use Rattle.std.specs.List.{All}
use Rattle.serde_json.specs.Data.{Data, string}
use Rattle.amm_model.specs.declared.fault.Refusal.{Refusal}
use Rattle.amm_model.specs.declared.fault.Fault.{Fault}
use Rattle.amm_model.specs.declared.fault.Fault.TheVariants as faults
use Rattle.amm_model.specs.declared.problem.Part.{Part}
use Rattle.amm_model.specs.declared.problem.ProblemPool.{ProblemPool}
use Rattle.amm_model.specs.declared.route.Quote.{Quote}
use Rattle.amm_model.specs.Outcome.{Fails, Gives}
use Rattle.amm_model.specs.Forms.{as_token}
use Rattle.amm_model.specs.Json.{list, whole, wide}
use Rattle.amm_model.specs.Routing.{ProblemView, AreOpenParts, AreParts, ArePrices, IsProblem, IsProblemOf, one_part}
use Rattle.amm_names.specs.Names.{Name}
use Rattle.amm_model.specs.Certificate.{pool_value, prices_value, legs_value, IsVersionFor, IsWritable, IsCertifiable, IsValueOf}
use Rattle.amm_model.proofs.Guards.{given, same_answer}
use Rattle.amm_model.proofs.Problems.{no_part, one_problem, tokens_differ}
use Rattle.amm_cert.specs.declared.reader.Head.{Head}
use Rattle.amm_cert.specs.Finds.{Finds}
use Rattle.amm_cert.specs.Rows.{as_title, as_unsigned, as_wide, as_prices, as_legs, as_problem_pools, heading_of, quote_over}
use Rattle.amm_cert.proofs.Forms.{list-same, unsigned-is, unsigned-of, token-is, token-of, title-is, title-of, wide-is, wide-of}
use Rattle.amm_cert.proofs.Parts.{also, done, AreAmounts, AreNamed, FitsLeg, problem_pools-is, problem_pools-of, prices-is, prices-of, legs-is, legs-of}

-- ---- what stands before the pools

record HeadIs (a b c d e : Data) (head : Head) : Type 0 where
  pub title : a ≡ string (codes "amm-split-certificate")
  pub version : b ≡ whole head.version
  pub source : c ≡ string head.s
  pub target : d ≡ string head.t
  pub amount : e ≡ whole head.d

heading-is : (a b c d e : Data) (head : Head) → heading_of a b c d e ≡ Ok head → HeadIs a b c d e head
heading-is a b c d e head h =
    let title = given (as_title a) _ head h in
    let version = given (as_unsigned b) _ head title.after in
    let source = given (as_token c) _ head version.after in
    let target = given (as_token d) _ head source.after in
    let amount = given (as_unsigned e) _ head target.after in
    subst (λ (x : Head). HeadIs a b c d e x) (same_answer _ head amount.after) (record {
      title = title-is a title.value title.was;
      version = unsigned-is b version.value version.was;
      source = token-is c source.value source.was;
      target = token-is d target.value target.was;
      amount = unsigned-is e amount.value amount.was;
    })

heading-of : (v d : ℕ) (s t : List ℕ) → as_token (string s) ≡ Ok s → as_token (string t) ≡ Ok t →
    heading_of (string (codes "amm-split-certificate")) (whole v) (string s) (string t) (whole d) ≡ Ok (record { version = v; s = s; t = t; d = d })
heading-of v d s t source target = rw (title-of, unsigned-of v, source, target, unsigned-of d) refl

-- ---- a quote over a problem

record OverIs (problem : ProblemView) (p l m b : Data) (q : Quote) : Type 0 where
  pub same : problem ≡ q.problem
  pub prices : p ≡ prices_value q
  pub priced : length q.prices ≡ length q.problem.tokens
  pub fit : ArePrices q.prices
  pub legs : l ≡ legs_value q
  pub few : length q.route.legs ≤ 256
  pub over : All (FitsLeg q.problem.pools) q.route.legs
  pub delivered : m ≡ whole q.delivered
  pub bound : b ≡ wide q.bound

over-is : (problem : ProblemView) (p l m b : Data) (q : Quote) → quote_over problem p l m b ≡ Ok q → OverIs problem p l m b q
over-is problem p l m b q h =
    let prices = given (as_prices problem.tokens p) _ q h in
    let legs = given (as_legs problem.pools l) _ q prices.after in
    let delivered = given (as_unsigned m) _ q legs.after in
    let bound = given (as_wide b) _ q delivered.after in
    let ps = prices-is problem.tokens p prices.value prices.was in
    let ls = legs-is problem.pools l legs.value legs.was in
    subst (λ (x : Quote). OverIs problem p l m b x) (same_answer _ q bound.after) (record {
      same = refl;
      prices = ps.0;
      priced = ps.1;
      fit = ps.2;
      legs = ls.0;
      few = ls.1;
      over = ls.2;
      delivered = unsigned-is m delivered.value delivered.was;
      bound = (wide-is b bound.value bound.was).0;
    })

named : (problem : ProblemView) → IsProblem problem → AreNamed problem.pools
named problem sound = record { ascend = sound.parts.names; differ = tokens_differ problem.pools sound.spelled.each }

amounts : (problem : ProblemView) → IsProblem problem → All AreAmounts problem.pools
amounts problem sound k d below =
    let r = sound.parts.reserves k d below in
    let b = sound.parts.balances k d below in
    record { name = sound.spelled.each k d below; r0 = omega (arith, r.1); r1 = omega (arith, r.3); b0 = omega (arith, b.1); b1 = omega (arith, b.3) }

legs_fit : (q : Quote) → IsWritable q → All (FitsLeg q.problem.pools) q.route.legs
legs_fit q ok k d below = record { there = ok.there k d below; input = (ok.amounts k d below).0; output = (ok.amounts k d below).1 }

over-of : (q : Quote) → IsCertifiable q → quote_over q.problem (prices_value q) (legs_value q) (whole q.delivered) (wide q.bound) ≡ Ok q
over-of q ok =
    rw (prices-of q.problem.tokens q.prices ok.writable.priced ok.prices, legs-of q.problem.pools q.route.legs (named q.problem ok.problem) ok.writable.few (legs_fit q ok.writable), unsigned-of q.delivered, wide-of q.bound ok.bound) refl

-- the one part has one token, and one amount of it
same_source : (s t : Name) (d e : ℕ) → one_part s d ≡ one_part t e → s ≡ t
same_source s t d e same = ap (λ (parts : List Part). (get_or parts 0 no_part).token) same

same_amount : (s t : Name) (d e : ℕ) → one_part s d ≡ one_part t e → d ≡ e
same_amount s t d e same = ap (λ (parts : List Part). (get_or parts 0 no_part).amount) same

-- ---- all ten

pub value-is :
    (a b c d e f g h i j : Data) (head : Head) (pools : List ProblemPool) (problem : ProblemView) (q : Quote) →
    heading_of a b c d e ≡ Ok head → as_problem_pools f ≡ Ok pools → IsVersionFor head.version pools → IsProblemOf head.s head.t head.d pools problem →
    quote_over problem g h i j ≡ Ok q → q.delivered < 2 ^ 64 → q.bound < 2 ^ 128 → IsValueOf (list (a ∷ b ∷ c ∷ d ∷ e ∷ f ∷ g ∷ h ∷ i ∷ j ∷ [])) q
value-is a b c d e f g h i j head pools problem q heads pooled known made over small bounded =
    let hd = heading-is a b c d e head heads in
    let ov = over-is problem g h i j q over in
    let of_q : IsProblemOf head.s head.t head.d pools q.problem = subst (IsProblemOf head.s head.t head.d pools) ov.same made in
    let in_pools : pools ≡ q.problem.pools = sym of_q.over in
    let source : q.problem.s ≡ head.s = same_source q.problem.s head.s q.problem.d head.d of_q.sources in
    let amount : q.problem.d ≡ head.d = same_amount q.problem.s head.s q.problem.d head.d of_q.sources in
    record {
      version = head.version;
      known = subst (IsVersionFor head.version) in_pools known;
      spelled = ap list (
          also hd.title (also hd.version (also (hd.source ∙ ap string (sym source)) (also (hd.target ∙ ap string (sym of_q.target)) (also (hd.amount ∙ ap whole (sym amount))
          (also (problem_pools-is f pools pooled ∙ ap (λ ps. list (map pool_value ps)) in_pools) (also ov.prices (also ov.legs (also ov.delivered (also ov.bound done)))))))))
          );
      sound = record {
        problem = of_q.sound;
        prices = ov.fit;
        writable = record {
          priced = ov.priced;
          few = ov.few;
          there = λ k x below. (ov.over k x below).there;
          amounts = λ k x below. ((ov.over k x below).input, (ov.over k x below).output);
        };
        delivered = small;
        bound = bounded;
      };
    }

ten : (a b c d e f g h i j a' b' c' d' e' f' g' h' i' j' : Data) →
    (a ∷ b ∷ c ∷ d ∷ e ∷ f ∷ g ∷ h ∷ i ∷ j ∷ []) ≡ (a' ∷ b' ∷ c' ∷ d' ∷ e' ∷ f' ∷ g' ∷ h' ∷ i' ∷ j' ∷ []) →
    (a ≡ a') × (b ≡ b') × (c ≡ c') × (d ≡ d') × (e ≡ e') × (f ≡ f') × (g ≡ g') × (h ≡ h') × (i ≡ i') × (j ≡ j')
ten a b c d e f g h i j a' b' c' d' e' f' g' h' i' j' same = (cc, cc, cc, cc, cc, cc, cc, cc, cc, cc)

-- What is read of the ten values of a certificate of a quote.
pub record Reads (a b c d e f g h i j : Data) (q : Quote) : Type 0 where
  pub version : ℕ
  pub known : IsVersionFor version q.problem.pools
  pub heads : heading_of a b c d e ≡ Ok (record { version = version; s = q.problem.s; t = q.problem.t; d = q.problem.d })
  pub pooled : as_problem_pools f ≡ Ok q.problem.pools
  pub over : quote_over q.problem g h i j ≡ Ok q
  pub sound : IsProblem q.problem

pub value-reads : (a b c d e f g h i j : Data) (q : Quote) → IsValueOf (list (a ∷ b ∷ c ∷ d ∷ e ∷ f ∷ g ∷ h ∷ i ∷ j ∷ [])) q → Reads a b c d e f g h i j q
value-reads a b c d e f g h i j q is =
    let p = q.problem in
    let sound : IsProblem p = is.sound.problem in
    let e10 = ten a b c d e f g h i j
    (string (codes "amm-split-certificate")) (whole is.version) (string p.s) (string p.t) (whole p.d) (list (map pool_value p.pools)) (prices_value q) (legs_value q) (whole q.delivered) (wide q.bound)
    (list-same _ _ is.spelled) in
    record {
      version = is.version;
      known = is.known;
      heads =
          ap (λ x. heading_of x b c d e) e10.0 ∙ (ap (λ x. heading_of (string (codes "amm-split-certificate")) x c d e) e10.1
          ∙ (ap (λ x. heading_of (string (codes "amm-split-certificate")) (whole is.version) x d e) e10.2
          ∙ (ap (λ x. heading_of (string (codes "amm-split-certificate")) (whole is.version) (string p.s) x e) e10.3
          ∙ (ap (λ x. heading_of (string (codes "amm-split-certificate")) (whole is.version) (string p.s) (string p.t) x) e10.4
          ∙ heading-of is.version p.d p.s p.t (token-of p.s (sound.spelled.sources 0 no_part (omega arith))) (token-of p.t sound.spelled.target)))));
      pooled = ap as_problem_pools e10.5 ∙ problem_pools-of p.pools (amounts p sound);
      over =
          ap (λ x. quote_over p x h i j) e10.6 ∙ (ap (λ x. quote_over p (prices_value q) x i j) e10.7
          ∙ (ap (λ x. quote_over p (prices_value q) (legs_value q) x j) e10.8 ∙ (ap (λ x. quote_over p (prices_value q) (legs_value q) (whole q.delivered) x) e10.9 ∙ over-of q is.sound)));
      sound = sound;
    }

-- ---- searches among values

-- nothing fits where what was meant is refused
pub finds-none : {X Y : Type 0} (P : X → Type 0) (meant : Result Y Refusal) (e : Fault) → Fails e meant → ((x : X) → P x → (y : Y) × (meant ≡ Ok y)) → Finds P (Err e)
finds-none P meant faults.Memory fails reads = tt
finds-none P meant (faults.Refused why) fails reads = λ x fit. let made = reads x fit in cc

-- what fits the one fits the other
pub finds-also : {X : Type 0} (P Q : X → Type 0) (result : Result X Fault) → ((x : X) → P x → Q x) → ((x : X) → Q x → P x) → Finds P result → Finds Q result
finds-also P Q (Ok x) there back found = there x found
finds-also P Q (Err faults.Memory) there back found = tt
finds-also P Q (Err (faults.Refused why)) there back found = λ x fit. found x (back x fit)

-- a call that gives what is meant finds it
pub finds-given : {X : Type 0} (P : X → Type 0) (result : Result X Fault) (meant : Result X Refusal) → Gives (λ x. x) result meant →
    ((x : X) → result ≡ Ok x → meant ≡ Ok x → P x) → ((x : X) → P x → meant ≡ Ok x) → Finds P result
finds-given P (Ok x) meant gives there back = there x refl gives
finds-given P (Err e) meant gives there back = finds-none P meant e gives (λ x fit. (x, back x fit))

-- ---- how many values

pub ten_values : (ds : List Data) (q : Quote) → IsValueOf (list ds) q → length ds ≡ 10
ten_values ds q is =
    let p = q.problem in
    let spelled : List Data = string (codes "amm-split-certificate") ∷ whole is.version ∷ string p.s ∷ string p.t ∷ whole p.d ∷ list (map pool_value p.pools) ∷ prices_value q ∷ legs_value q ∷ whole q.delivered ∷ wide q.bound ∷ [] in
    ap (length {A = Data}) (list-same ds spelled is.spelled)

-- ---- the ten values, step by step

module _ (a b c d e f g h i j : Data) where
  -- the ten values are a certificate of the quote
  abbrev IsOfTen : Quote → Type 0
  IsOfTen q = IsValueOf (list (a ∷ b ∷ c ∷ d ∷ e ∷ f ∷ g ∷ h ∷ i ∷ j ∷ [])) q

  pub head-none : (why : Fault) → Fails why (heading_of a b c d e) → Finds IsOfTen (Err why)
  head-none why fails =
      finds-none IsOfTen (heading_of a b c d e) why fails
      (λ q is. let r = value-reads a b c d e f g h i j q is in let head : Head = record { version = r.version; s = q.problem.s; t = q.problem.t; d = q.problem.d } in (head, r.heads))

  pub pools-none : (why : Fault) → Fails why (as_problem_pools f) → Finds IsOfTen (Err why)
  pools-none why fails = finds-none IsOfTen (as_problem_pools f) why fails (λ q is. (q.problem.pools, (value-reads a b c d e f g h i j q is).pooled))

  module _ (head : Head) (pools : List ProblemPool) (heads : heading_of a b c d e ≡ Ok head) (pooled : as_problem_pools f ≡ Ok pools) where
    same_head : (q : Quote) (r : Reads a b c d e f g h i j q) → head ≡ record { version = r.version; s = q.problem.s; t = q.problem.t; d = q.problem.d }
    same_head q r = same_answer _ _ (sym heads ∙ r.heads)

    same_pools : (q : Quote) (r : Reads a b c d e f g h i j q) → pools ≡ q.problem.pools
    same_pools q r = same_answer _ _ (sym pooled ∙ r.pooled)

    pub version-none : (q : Quote) → ¬ IsVersionFor head.version pools → IsOfTen q → ⊥
    version-none q unknown is =
        let r = value-reads a b c d e f g h i j q is in
        let version : r.version ≡ head.version = ap (λ x. x.version) (sym (same_head q r)) in
        unknown (subst (λ v. IsVersionFor v pools) version (subst (IsVersionFor r.version) (sym (same_pools q r)) r.known))

    -- the quote's problem is that of the parts read
    of_parts : (q : Quote) (r : Reads a b c d e f g h i j q) → IsProblemOf head.s head.t head.d pools q.problem
    of_parts q r =
        record {
          sources = ap (λ x. one_part x.s x.d) (sym (same_head q r));
          target = ap (λ x. x.t) (sym (same_head q r));
          over = sym (same_pools q r);
          sound = r.sound;
        }

    pub parts-none : (q : Quote) → ¬ AreParts head.s head.t head.d pools → IsOfTen q → ⊥
    parts-none q unfit is =
        let r = value-reads a b c d e f g h i j q is in
        let made = of_parts q r in
        unfit (
        subst (λ x. AreOpenParts x head.t pools) made.sources (subst (λ x. AreParts q.problem.s x q.problem.d pools) made.target
        (subst (λ x. AreParts q.problem.s q.problem.t q.problem.d x) made.over made.sound.parts))
        )

    ok_fact : (P : Quote → Type 0) (result : Result Quote Fault) (x : Quote) → result ≡ Ok x → IfOk result P → P x
    ok_fact P result x was holds = subst (λ (r : Result Quote Fault). IfOk r P) was holds

    pub quote-found : (problem : ProblemView) (result : Result Quote Fault) → IsVersionFor head.version pools → IsProblemOf head.s head.t head.d pools problem →
        Gives {X = Quote} {Y = Quote} (λ q. q) result (quote_over problem g h i j) → IfOk result (λ q. q.delivered < 2 ^ 64) → IfOk result (λ q. q.bound < 2 ^ 128) → Finds IsOfTen result
    quote-found problem result known made gives small bounded =
        finds-given IsOfTen result (quote_over problem g h i j) gives
        (λ x was meant. value-is a b c d e f g h i j head pools problem x heads pooled known made meant (ok_fact (λ q. q.delivered < 2 ^ 64) result x was small) (ok_fact (λ q. q.bound < 2 ^ 128) result x was bounded))
        (λ q is.
        let r = value-reads a b c d e f g h i j q is in
        ap (λ x. quote_over x g h i j) (one_problem head.s head.t head.d pools problem q.problem made (of_parts q r)) ∙ r.over)
