-- Soundness is kept where all but one pool keep what they are and have.
use Rattle.std.proofs.Common.{◌≡◌, ◌≢◌, ◌≤◌, ℕ, true, List, length, Option, Some, IsSome, inl, inr, refl, sym, ap, ◌∙◌, subst, arith}
use Rattle.std.specs.Prelude.{All}
use Rattle.std.specs.Map.{keys_of}
use Rattle.std.proofs.lemmas.Map.{keys-set_value, length-set_value}
use Rattle.std.specs.List.{IsDistinct}
use Rattle.amm_names.specs.declared.holder.Holder.{Holder}
use Rattle.amm_names.specs.declared.holder.Holder.TheVariants as holders
use Rattle.amm_names.specs.declared.holder.Asset.{Asset}
use Rattle.amm_names.specs.declared.holder.Asset.TheVariants as assets
use Rattle.amm_model.specs.declared.pair.PairRecord.{PairRecord}
use Rattle.amm_model.specs.declared.route.Quote.{Quote}
use Rattle.amm_names.specs.Pools.{pool_token0, pool_token1}
use Rattle.amm_model.specs.Ledger.{Ledger, Pairs, balance, total, is_listed, pair_of, with_pair}
use Rattle.amm_model.proofs.InTime.{in_time_same}
use Rattle.amm_model.specs.declared.limits.TheConstants.{AMOUNT_LIMIT, TOKEN_LIMIT, QUOTE_LIMIT}
use Rattle.amm_model.specs.Pools.{supply, same_name, asset0, asset1}
use Rattle.amm_model.specs.Sound.{IsSoundPair, IsKnown, IsSound}
use Rattle.amm_model.specs.SplitAnswers.{IsSplitAnswer}
use Rattle.amm_model.specs.Formulas.{IsBacked}
use Rattle.amm_model.proofs.Names.{name_cases, asset_cases, pair_of-set_other, some_there, one_value}
use Rattle.amm_model.proofs.Balances.{Rest, rest_same, Taken, taken_kept}
use Rattle.amm_model.proofs.Transfers.{Sent}

-- all pools but this one keep their record and their supply, and lose nothing; the zero holder
-- loses nothing
pub record OnlyAt (pool : List ℕ) (old new : Ledger) : Type 0 where
  pub tokens : new.tokens ≡ old.tokens
  pub time : new.time ≡ old.time
  pub fee_to : new.fee_to ≡ old.fee_to
  pub setter : new.setter ≡ old.setter
  pub quotes : new.quotes ≡ old.quotes
  pub observations : new.observations ≡ old.observations
  pub names : keys_of new.pairs ≡ keys_of old.pairs
  pub count : length new.pairs ≡ length old.pairs
  pub pairs : (other : List ℕ) → other ≢ pool → pair_of new.pairs other ≡ pair_of old.pairs other
  pub held : (asset : Asset) (other : List ℕ) → other ≢ pool → balance old asset (holders.Pool other) ≤ balance new asset (holders.Pool other)
  pub zero : (asset : Asset) → balance old asset holders.Zero ≤ balance new asset holders.Zero
  pub totals : (asset : Asset) → asset ≢ assets.Share pool → total new asset ≡ total old asset

pools_apart : (x y : List ℕ) → x ≢ y → holders.Pool x ≢ holders.Pool y
pools_apart x y apart e = apart (let same : x ≡ y = cc in same)

zero_apart : (x : List ℕ) → holders.Zero ≢ holders.Pool x
zero_apart x e = cc

pub share_not_token : (pool name : List ℕ) → assets.Token name ≢ assets.Share pool
share_not_token pool name e = cc

pub shares_apart : (x y : List ℕ) → x ≢ y → assets.Share x ≢ assets.Share y
shares_apart x y apart e = apart (let same : x ≡ y = cc in same)

pub tokens_apart : (x y : List ℕ) → x ≢ y → assets.Token x ≢ assets.Token y
tokens_apart x y apart e = apart (let same : x ≡ y = cc in same)

pub only_at_then : (pool : List ℕ) (a b c : Ledger) → OnlyAt pool a b → OnlyAt pool b c → OnlyAt pool a c
only_at_then pool a b c first second = record {
  tokens = second.tokens ∙ first.tokens;
  time = second.time ∙ first.time;
  fee_to = second.fee_to ∙ first.fee_to;
  setter = second.setter ∙ first.setter;
  quotes = second.quotes ∙ first.quotes;
  observations = second.observations ∙ first.observations;
  names = second.names ∙ first.names;
  count = second.count ∙ first.count;
  pairs = λ other apart. second.pairs other apart ∙ first.pairs other apart;
  held = λ q other apart. omega (arith, first.held q other apart, second.held q other apart);
  zero = λ q. omega (arith, first.zero q, second.zero q);
  totals = λ q apart. second.totals q apart ∙ first.totals q apart;
}

-- where balances alone changed
pub rest_only : (pool : List ℕ) (old new : Ledger) → Rest old new → ((asset : Asset) (p : Holder) → p ≢ holders.Pool pool → balance old asset p ≤ balance new asset p)
    → ((asset : Asset) → asset ≢ assets.Share pool → total new asset ≡ total old asset) → OnlyAt pool old new
rest_only pool old new rest kept totals = record {
  tokens = rest.tokens;
  time = rest.time;
  fee_to = rest.fee_to;
  setter = rest.setter;
  quotes = rest.quotes;
  observations = rest.observations;
  names = ap keys_of rest.pairs;
  count = ap length rest.pairs;
  pairs = λ other apart. ap (λ (ps : Pairs). pair_of ps other) rest.pairs;
  held = λ q other apart. kept q (holders.Pool other) (pools_apart other pool apart);
  zero = λ q. kept q holders.Zero (zero_apart pool);
  totals = totals;
}

pub same_only : (pool : List ℕ) (a : Ledger) → OnlyAt pool a a
same_only pool a = rest_only pool a a (rest_same a) (λ q p apart. omega arith) (λ q apart. refl)

-- the record of the pool alone
pub with_pair_only : (l : Ledger) (pool : List ℕ) (new : PairRecord) → IsSome (pair_of l.pairs pool) → OnlyAt pool l (with_pair l pool new)
with_pair_only l pool new there = record {
  tokens = refl;
  time = refl;
  fee_to = refl;
  setter = refl;
  quotes = refl;
  observations = refl;
  names = keys-set_value (same_name pool) l.pairs new;
  count = length-set_value (same_name pool) l.pairs new;
  pairs = λ other apart. pair_of-set_other l.pairs pool new other there apart;
  held = λ q other apart. omega arith;
  zero = λ q. omega arith;
  totals = λ q apart. refl;
}

-- what a pool sends is its own loss alone
pub sent_only : (asset : Asset) (pool : List ℕ) (n : ℕ) (old new : Ledger) → Sent asset (holders.Pool pool) n old new → OnlyAt pool old new
sent_only asset pool n old new sent = rest_only pool old new sent.rest sent.grown (λ q apart. sent.totals q)

-- shares of the pool that the pool gave up
pub taken_only : (pool : List ℕ) (n : ℕ) (old new : Ledger) → Taken (assets.Share pool) (holders.Pool pool) n old new → OnlyAt pool old new
taken_only pool n old new taken = rest_only pool old new taken.rest (taken_kept (assets.Share pool) (holders.Pool pool) n old new taken) taken.totals

-- the other pools stay sound, so only this one is left to show
pub sound_but_at : (pool : List ℕ) (old new : Ledger) (now : PairRecord) → IsSound old → OnlyAt pool old new → pair_of new.pairs pool ≡ Some now → supply new pool ≤ AMOUNT_LIMIT → IsSoundPair new pool now → IsSound new
sound_but_at pool old new now sound only there limit this = record {
  pairs = λ other pair is. elim (name_cases other pool) [
    | inl e ↦ subst (λ (k : List ℕ). IsSoundPair new k pair) (sym e) (here pair (ap (pair_of new.pairs) (sym e) ∙ is))
    | inr apart ↦ kept other pair apart (sound.pairs other pair (sym (only.pairs other apart) ∙ is))
  ];
  names = subst (λ (ks : List (List ℕ)). IsDistinct same_name ks) (sym only.names) sound.names;
  totals = λ q. elim (asset_cases q (assets.Share pool)) [
    | inl e ↦ subst (λ (k : Asset). total new k ≤ AMOUNT_LIMIT) (sym e) limit
    | inr apart ↦ omega (arith, only.totals q apart, sound.totals q)
  ];
  known = λ q some. elim (asset_cases q (assets.Share pool)) [
    | inl e ↦ subst (λ (k : Asset). IsKnown new k) (sym e) (some_there (pair_of new.pairs pool) now there)
    | inr apart ↦ still q apart (sound.known q (λ none. some (only.totals q apart ∙ none)))
  ];
  tokens = subst (λ (ts : List (List ℕ)). length ts ≤ TOKEN_LIMIT) (sym only.tokens) sound.tokens;
  count = omega (arith, only.count, sound.count);
  time = omega (arith, only.time, sound.time);
  quotes = subst (λ (qs : List Quote). length qs ≤ QUOTE_LIMIT) (sym only.quotes) sound.quotes;
  answers = subst (λ (qs : List Quote). All IsSplitAnswer qs) (sym only.quotes) sound.answers;
  observations = in_time_same old.time new.time old.observations new.observations only.time only.observations sound.observations;
} where
  here : (pair : PairRecord) → pair_of new.pairs pool ≡ Some pair → IsSoundPair new pool pair
  here pair is = subst (λ (p : PairRecord). IsSoundPair new pool p) (one_value (pair_of new.pairs pool) now pair there is) this

  kept : (other : List ℕ) (pair : PairRecord) → other ≢ pool → IsSoundPair old other pair → IsSoundPair new other pair
  kept other pair apart was =
      let same : supply new other ≡ supply old other = only.totals (assets.Share other) (shares_apart other pool apart) in
      record {
        listed = subst (λ (ts : List (List ℕ)). (is_listed ts (pool_token0 other) ≡ true) × (is_listed ts (pool_token1 other) ≡ true)) (sym only.tokens) was.listed;
        small = was.small;
        covered = λ free. record {
          first = omega (arith, (was.covered free).first, only.held (asset0 other) other apart);
          second = omega (arith, (was.covered free).second, only.held (asset1 other) other apart);
        };
        backed = subst (λ (s : ℕ). IsBacked s pair.r0 pair.r1 pair.k_last) (sym same) was.backed;
        kept = elim was.kept [ inl none ↦ inl (same ∙ none) | inr some ↦ inr (omega (arith, only.zero (assets.Share other))) ];
      }

  still : (q : Asset) → q ≢ assets.Share pool → IsKnown old q → IsKnown new q
  still (assets.Token name) apart is = ap (λ (ts : List (List ℕ)). is_listed ts name) only.tokens ∙ is
  still (assets.Share other) apart is = subst (λ (o : Option PairRecord). IsSome o) (sym (only.pairs other (λ e. apart (ap assets.Share e)))) is
