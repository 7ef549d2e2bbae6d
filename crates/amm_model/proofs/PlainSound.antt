-- Soundness and rest are kept by the operations that leave every pair as it is.
use Rattle.std.proofs.Common.{◌≡◌, ◌≢◌, ◌≤◌, ◌<◌, ◌+◌, ◌++◌, ◌∷◌, [], ℕ, nat_lt, nat_le, true, false, ◌||◌, List, length, Ok, Err, IsSome, inl, inr, refl, sym, ap, ◌∙◌, subst, arith, length-append}
use Rattle.std.specs.Prelude.{All, if◌then◌else◌}
use Rattle.std.specs.Map.{keys_of}
use Rattle.std.specs.List.{IsDistinct}
use Rattle.std.proofs.lemmas.List.Folds.{list_any-append}
use Rattle.std.proofs.lemmas.Bool.{or_right}
use Rattle.std.proofs.lemmas.Bool.Decides.{nat_tests}
use Rattle.amm_names.specs.declared.holder.Holder.{Holder}
use Rattle.amm_names.specs.declared.holder.Holder.TheVariants as holders
use Rattle.amm_names.specs.declared.holder.Asset.{Asset}
use Rattle.amm_names.specs.declared.holder.Asset.TheVariants as assets
use Rattle.amm_names.specs.Pools.{pool_token0, pool_token1}
use Rattle.amm_model.specs.declared.pair.PairRecord.{PairRecord}
use Rattle.amm_model.specs.declared.route.Quote.{Quote}
use Rattle.amm_model.specs.declared.fault.Refusal.TheVariants as code
use Rattle.amm_model.specs.Ledger.{Ledger, HoldingsByAsset, Pairs, holdings_of, sum_held, balance, total, is_listed, pair_of, with_more}
use Rattle.amm_model.specs.Outcome.{Made, ledger_only}
use Rattle.amm_model.specs.Postings.{list_token, issue, retire, transfer, set_time}
use Rattle.amm_model.specs.declared.limits.TheConstants.{AMOUNT_LIMIT, TOKEN_LIMIT, QUOTE_LIMIT}
use Rattle.amm_model.specs.Pools.{same_name, asset0, asset1}
use Rattle.amm_model.specs.SplitAnswers.{IsSplitAnswer}
use Rattle.amm_model.specs.Formulas.{IsBacked}
use Rattle.amm_model.specs.Sound.{IsSoundPair, IsKnown, IsSound, IsAtRest}
use Rattle.amm_model.specs.Laws.{ZeroKept, TokenTotalsKept, Deposited, Withdrawn}
use Rattle.amm_model.proofs.Guards.{past_refusal, same_answer}
use Rattle.amm_model.proofs.Names.{asset_cases, same_name_itself}
use Rattle.amm_model.proofs.Balances.{Rest, Added, added_added, Taken, taken_kept}
use Rattle.amm_model.proofs.Transfers.{Sent, transfer_sent, retire_taken}
use Rattle.amm_model.proofs.Soundness.{tokens_apart}
use Rattle.amm_model.specs.Observations.{AreInTime}
use Rattle.amm_model.proofs.InTime.{in_time_same, in_time_later}

-- every pair stays as it is, and no pool and not the zero holder lose anything
pub record Plain (old new : Ledger) : Type 0 where
  pub pairs : new.pairs ≡ old.pairs
  pub listed : (token : List ℕ) → is_listed old.tokens token ≡ true → is_listed new.tokens token ≡ true
  pub held : (asset : Asset) (pool : List ℕ) → balance old asset (holders.Pool pool) ≤ balance new asset (holders.Pool pool)
  pub zero : ZeroKept old new
  pub shares : (pool : List ℕ) → total new (assets.Share pool) ≡ total old (assets.Share pool)

-- the totals are within their limit and known, and the counts within theirs
pub record Counted (ledger : Ledger) : Type 0 where
  pub totals : (asset : Asset) → total ledger asset ≤ AMOUNT_LIMIT
  pub known : (asset : Asset) → total ledger asset ≢ 0 → IsKnown ledger asset
  pub tokens : length ledger.tokens ≤ TOKEN_LIMIT
  pub time : ledger.time ≤ AMOUNT_LIMIT
  pub quotes : length ledger.quotes ≤ QUOTE_LIMIT
  pub answers : All IsSplitAnswer ledger.quotes
  pub observations : AreInTime ledger.time ledger.observations

pub plain_known : (old new : Ledger) → Plain old new → (asset : Asset) → IsKnown old asset → IsKnown new asset
plain_known old new plain (assets.Token name) is = plain.listed name is
plain_known old new plain (assets.Share pool) is = subst (λ (ps : Pairs). IsSome (pair_of ps pool)) (sym plain.pairs) is

pub plain_sound : (old new : Ledger) → IsSound old → Plain old new → Counted new → IsSound new
plain_sound old new sound plain counted = record {
  pairs = λ pool pair is. same_pair pool pair (sound.pairs pool pair (sym (ap (λ (ps : Pairs). pair_of ps pool) plain.pairs) ∙ is));
  names = subst (λ (ps : Pairs). IsDistinct same_name (keys_of ps)) (sym plain.pairs) sound.names;
  totals = counted.totals;
  known = counted.known;
  tokens = counted.tokens;
  count = omega (arith, ap length plain.pairs, sound.count);
  time = counted.time;
  quotes = counted.quotes;
  answers = counted.answers;
  observations = counted.observations;
} where
  same_pair : (pool : List ℕ) (pair : PairRecord) → IsSoundPair old pool pair → IsSoundPair new pool pair
  same_pair pool pair was = record {
    listed = (plain.listed (pool_token0 pool) was.listed.0, plain.listed (pool_token1 pool) was.listed.1);
    small = was.small;
    covered = λ free. record {
      first = omega (arith, (was.covered free).first, plain.held (asset0 pool) pool);
      second = omega (arith, (was.covered free).second, plain.held (asset1 pool) pool);
    };
    backed = subst (λ (s : ℕ). IsBacked s pair.r0 pair.r1 pair.k_last) (sym (plain.shares pool)) was.backed;
    kept = elim was.kept [ inl none ↦ inl (plain.shares pool ∙ none) | inr some ↦ inr (omega (arith, plain.zero (assets.Share pool))) ];
  }

-- where every pair is as it was, none becomes locked
pub rest_from : (old new : Ledger) → IsAtRest old → new.pairs ≡ old.pairs → IsSound new → IsAtRest new
rest_from old new rest same sound = record {
  sound = sound;
  unlocked = λ pool pair is. rest.unlocked pool pair (sym (ap (λ (ps : Pairs). pair_of ps pool) same) ∙ is);
}

-- ---- only balances change

rest_counted : (old new : Ledger) → IsSound old → Rest old new → ((asset : Asset) → total new asset ≤ AMOUNT_LIMIT) → ((asset : Asset) → total new asset ≢ 0 → IsKnown new asset) → Counted new
rest_counted old new sound rest totals known = record {
  totals = totals;
  known = known;
  tokens = omega (arith, ap length rest.tokens, sound.tokens);
  time = omega (arith, rest.time, sound.time);
  quotes = omega (arith, ap length rest.quotes, sound.quotes);
  answers = subst (λ (qs : List Quote). All IsSplitAnswer qs) (sym rest.quotes) sound.answers;
  observations = in_time_same old.time new.time old.observations new.observations rest.time rest.observations sound.observations;
}

still_listed : (old new : Ledger) → new.tokens ≡ old.tokens → (token : List ℕ) → is_listed old.tokens token ≡ true → is_listed new.tokens token ≡ true
still_listed old new same token is = ap (λ (ts : List (List ℕ)). is_listed ts token) same ∙ is

-- ---- transfer

not_user : (user pool : List ℕ) → holders.Pool pool ≢ holders.User user
not_user user pool e = cc

zero_no_user : (user : List ℕ) → holders.Zero ≢ holders.User user
zero_no_user user e = cc

pub sent_plain : (asset : Asset) (user : List ℕ) (n : ℕ) (old new : Ledger) → Sent asset (holders.User user) n old new → Plain old new
sent_plain asset user n old new sent = record {
  pairs = sent.rest.pairs;
  listed = still_listed old new sent.rest.tokens;
  held = λ q pool. sent.grown q (holders.Pool pool) (not_user user pool);
  zero = λ q. sent.grown q holders.Zero (zero_no_user user);
  shares = λ pool. sent.totals (assets.Share pool);
}

module _ (old : Ledger) (asset : Asset) (user : List ℕ) (to : Holder) (n : ℕ) (made : Made (Unit {0})) (is : transfer old asset (holders.User user) to n ≡ Ok made) where
  pub transfer_plain : Plain old made.ledger
  transfer_plain = sent_plain asset user n old made.ledger (transfer_sent old asset (holders.User user) to n made is)

  pub transfer_sound : IsSound old → IsSound made.ledger
  transfer_sound sound =
      let sent = transfer_sent old asset (holders.User user) to n made is in
      plain_sound old made.ledger sound transfer_plain (rest_counted old made.ledger sound sent.rest
      (λ q. omega (arith, sent.totals q, sound.totals q))
      (λ q some. plain_known old made.ledger transfer_plain q (sound.known q (λ none. some (sent.totals q ∙ none)))))

  pub transfer_totals : TokenTotalsKept old made.ledger
  transfer_totals token = (transfer_sent old asset (holders.User user) to n made is).totals (assets.Token token)

-- ---- issue

-- what an accepted issue leaves
pub issue_added : (l : Ledger) (a : Asset) (h : Holder) (n : ℕ) (made : Made (Unit {0})) → issue l a h n ≡ Ok made → (total l a + n ≤ AMOUNT_LIMIT) × Added a h n l made.ledger
unfolding issue
issue_added l a h n made is =
    let past = past_refusal (nat_lt AMOUNT_LIMIT (total l a + n)) code.TotalLimit _ made is in
    let told : nat_lt AMOUNT_LIMIT (total l a + n) ≡ false = past.0 in
    let fits : total l a + n ≤ AMOUNT_LIMIT = grind (arith, nat_tests) in
    let e = same_answer (record { ledger = with_more l a h n; answer = tt }) made past.1 in
    (fits, subst (λ (k : Made (Unit {0})). Added a h n l k.ledger) e (added_added l a h n))

share_no_token : (pool name : List ℕ) → assets.Share pool ≢ assets.Token name
share_no_token pool name e = cc

module _ (old : Ledger) (token : List ℕ) (to : Holder) (n : ℕ) (made : Made (Unit {0})) (is : issue old (assets.Token token) to n ≡ Ok made) where
  more : (total old (assets.Token token) + n ≤ AMOUNT_LIMIT) × Added (assets.Token token) to n old made.ledger
  more = issue_added old (assets.Token token) to n made is

  pub issue_plain : Plain old made.ledger
  issue_plain = record {
    pairs = more.1.rest.pairs;
    listed = still_listed old made.ledger more.1.rest.tokens;
    held = λ q pool. more.1.grown q (holders.Pool pool);
    zero = λ q. more.1.grown q holders.Zero;
    shares = λ pool. more.1.totals (assets.Share pool) (share_no_token pool token);
  }

  pub issue_sound : is_listed old.tokens token ≡ true → IsSound old → IsSound made.ledger
  issue_sound listed sound =
      plain_sound old made.ledger sound issue_plain (rest_counted old made.ledger sound more.1.rest
      (λ q. elim (asset_cases q (assets.Token token)) [
        | inl e ↦ subst (λ (k : Asset). total made.ledger k ≤ AMOUNT_LIMIT) (sym e) (omega (arith, more.0, more.1.whole))
        | inr apart ↦ omega (arith, more.1.totals q apart, sound.totals q)
      ])
      (λ q some. elim (asset_cases q (assets.Token token)) [
        | inl e ↦ subst (λ (k : Asset). IsKnown made.ledger k) (sym e) (issue_plain.listed token listed)
        | inr apart ↦ plain_known old made.ledger issue_plain q (sound.known q (λ none. some (more.1.totals q apart ∙ none)))
      ]))

  pub issue_rest : is_listed old.tokens token ≡ true → IsAtRest old → IsAtRest made.ledger
  issue_rest listed rest = rest_from old made.ledger rest more.1.rest.pairs (issue_sound listed rest.sound)

  pub issue_deposited : Deposited token n old made.ledger
  issue_deposited = record { here = more.1.whole; others = λ other apart. more.1.totals (assets.Token other) (tokens_apart other token apart) }

-- ---- retire

module _ (old : Ledger) (token user : List ℕ) (n : ℕ) (made : Made (Unit {0})) (is : retire old (assets.Token token) (holders.User user) n ≡ Ok made) where
  less : Taken (assets.Token token) (holders.User user) n old made.ledger
  less = (retire_taken old (assets.Token token) (holders.User user) n made is).1

  stays : (q : Asset) (p : Holder) → p ≢ holders.User user → balance old q p ≤ balance made.ledger q p
  stays = taken_kept (assets.Token token) (holders.User user) n old made.ledger less

  pub retire_plain : Plain old made.ledger
  retire_plain = record {
    pairs = less.rest.pairs;
    listed = still_listed old made.ledger less.rest.tokens;
    held = λ q pool. stays q (holders.Pool pool) (not_user user pool);
    zero = λ q. stays q holders.Zero (zero_no_user user);
    shares = λ pool. less.totals (assets.Share pool) (share_no_token pool token);
  }

  fewer : (q : Asset) → total made.ledger q ≤ total old q
  fewer q = elim (asset_cases q (assets.Token token)) [
    | inl e ↦ subst (λ (k : Asset). total made.ledger k ≤ total old k) (sym e) (omega (arith, less.whole))
    | inr apart ↦ omega (arith, less.totals q apart)
  ]

  pub retire_sound : IsSound old → IsSound made.ledger
  retire_sound sound =
      plain_sound old made.ledger sound retire_plain (rest_counted old made.ledger sound less.rest
      (λ q. omega (arith, fewer q, sound.totals q))
      (λ q some. plain_known old made.ledger retire_plain q (sound.known q (λ none. some (omega (arith, fewer q))))))

  pub retire_rest : IsAtRest old → IsAtRest made.ledger
  retire_rest rest = rest_from old made.ledger rest less.rest.pairs (retire_sound rest.sound)

  pub retire_withdrawn : Withdrawn token n old made.ledger
  retire_withdrawn = record { here = less.whole; others = λ other apart. less.totals (assets.Token other) (tokens_apart other token apart) }

-- ---- the settings and the time

-- other settings, and another time
module _ (old : Ledger) (fee_to : Holder) (setter : List ℕ) (time : ℕ) where
  abbrev set_to : Ledger
  set_to = record old { fee_to = fee_to; setter = setter; time = time }

  pub set_plain : Plain old set_to
  set_plain = record { pairs = refl; listed = λ token is. is; held = λ q pool. omega arith; zero = λ q. omega arith; shares = λ pool. refl }

  pub set_sound : old.time ≤ time → time ≤ AMOUNT_LIMIT → IsSound old → IsSound set_to
  set_sound later limit sound = plain_sound old set_to sound set_plain record {
    totals = sound.totals;
    known = λ q some. plain_known old set_to set_plain q (sound.known q some);
    tokens = sound.tokens;
    time = limit;
    quotes = sound.quotes;
    answers = sound.answers;
    observations = in_time_later old.time time old.observations later sound.observations;
  }

abbrev pub at_time : Ledger → ℕ → Ledger
at_time old time = record old { time = time }

module _ (old : Ledger) (time : ℕ) (made : Made (Unit {0})) (is : set_time old time ≡ Ok made) where
  allowed : (nat_lt time old.time ≡ false) × (ledger_only (at_time old time) ≡ Ok made)
  allowed = past_refusal (nat_lt time old.time) code.TimeBack (ledger_only (at_time old time)) made is

  later : at_time old time ≡ made.ledger
  later = ap (λ (k : Made (Unit {0})). k.ledger) (same_answer (record { ledger = at_time old time; answer = tt }) made allowed.1)

  not_back : old.time ≤ time
  not_back = let told : nat_lt time old.time ≡ false = allowed.0 in grind (arith, nat_tests)

  pub set_time_plain : Plain old made.ledger
  set_time_plain = subst (Plain old) later (set_plain old old.fee_to old.setter time)

  pub set_time_sound : time ≤ AMOUNT_LIMIT → IsSound old → IsSound made.ledger
  set_time_sound limit sound = subst IsSound later (set_sound old old.fee_to old.setter time not_back limit sound)

  pub set_time_totals : TokenTotalsKept old made.ledger
  set_time_totals token = ap (λ (l : Ledger). total l (assets.Token token)) (sym later)

-- ---- list

abbrev pub one_more : Ledger → List ℕ → Ledger
one_more old token = record old { tokens = old.tokens ++ token ∷ [] }

listed_before : (tokens : List (List ℕ)) (token name : List ℕ) → is_listed tokens name ≡ true → is_listed (tokens ++ token ∷ []) name ≡ true
listed_before tokens token name is = list_any-append (same_name name) tokens (token ∷ []) ∙ ap (λ b. b || is_listed (token ∷ []) name) is

listed_last : (tokens : List (List ℕ)) (token : List ℕ) → is_listed (tokens ++ token ∷ []) token ≡ true
listed_last tokens token = list_any-append (same_name token) tokens (token ∷ []) ∙ or_right (is_listed tokens token) (is_listed (token ∷ []) token) (ap (λ b. b || false) (same_name_itself token))

one_more_plain : (old : Ledger) (token : List ℕ) → Plain old (one_more old token)
one_more_plain old token = record { pairs = refl; listed = listed_before old.tokens token; held = λ q pool. omega arith; zero = λ q. omega arith; shares = λ pool. refl }

-- nothing but the list of tokens changed, and the token is in it now
pub record Listed (token : List ℕ) (old new : Ledger) : Type 0 where
  pub holdings : new.holdings ≡ old.holdings
  pub plain : Plain old new
  pub counted : IsSound old → Counted new
  pub here : is_listed new.tokens token ≡ true

one_more_listed : (old : Ledger) (token : List ℕ) → length old.tokens < TOKEN_LIMIT → Listed token old (one_more old token)
one_more_listed old token room = record {
  holdings = refl;
  plain = one_more_plain old token;
  counted = λ sound. record {
    totals = sound.totals;
    known = λ q some. plain_known old (one_more old token) (one_more_plain old token) q (sound.known q some);
    tokens = omega (arith, length-append old.tokens (token ∷ []));
    time = sound.time;
    quotes = sound.quotes;
    answers = sound.answers;
    observations = sound.observations;
  };
  here = listed_last old.tokens token;
}

listed_already : (old : Ledger) (token : List ℕ) → is_listed old.tokens token ≡ true → Listed token old old
listed_already old token is = record {
  holdings = refl;
  plain = record { pairs = refl; listed = λ name there. there; held = λ q pool. omega arith; zero = λ q. omega arith; shares = λ pool. refl };
  counted = λ sound. record { totals = sound.totals; known = sound.known; tokens = sound.tokens; time = sound.time; quotes = sound.quotes; answers = sound.answers; observations = sound.observations };
  here = is;
}

pub list_listed : (old : Ledger) (token : List ℕ) (made : Made (Unit {0})) → list_token old token ≡ Ok made → Listed token old made.ledger
list_listed old token made is =
    elim (is_listed old.tokens token) as (λ b. is_listed old.tokens token ≡ b → (if b then ledger_only old else (if nat_le TOKEN_LIMIT (length old.tokens) then Err code.TokenLimit else ledger_only (one_more old token))) ≡ Ok made → Listed token old made.ledger) [
      | true ↦ λ there gives. subst (λ (k : Made (Unit {0})). Listed token old k.ledger) (same_answer (record { ledger = old; answer = tt }) made gives) (listed_already old token there)
      | false ↦ λ absent gives. (let past = past_refusal (nat_le TOKEN_LIMIT (length old.tokens)) code.TokenLimit (ledger_only (one_more old token)) made gives in
          let told : nat_le TOKEN_LIMIT (length old.tokens) ≡ false = past.0 in
          let room : length old.tokens < TOKEN_LIMIT = grind (arith, nat_tests) in
          subst (λ (k : Made (Unit {0})). Listed token old k.ledger) (same_answer (record { ledger = one_more old token; answer = tt }) made past.1) (one_more_listed old token room))
    ] refl is

module _ (old : Ledger) (token : List ℕ) (made : Made (Unit {0})) (is : list_token old token ≡ Ok made) where
  named : Listed token old made.ledger
  named = list_listed old token made is

  pub list_plain : Plain old made.ledger
  list_plain = named.plain

  pub list_sound : IsSound old → IsSound made.ledger
  list_sound sound = plain_sound old made.ledger sound named.plain (named.counted sound)

  pub list_rest : IsAtRest old → IsAtRest made.ledger
  list_rest rest = rest_from old made.ledger rest named.plain.pairs (list_sound rest.sound)

  pub list_totals : TokenTotalsKept old made.ledger
  list_totals name = ap (λ (all : HoldingsByAsset). sum_held (holdings_of all (assets.Token name))) named.holdings
