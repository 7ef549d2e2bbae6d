-- The codes of the ledger and its parts, by which a model may have them as its value.
use Rattle.std.specs.Prelude.{ℕ, List, refl}
use Rattle.std.specs.Coded.{Coded, code_by, coded×, coded_ℕ, coded_list}
use Rattle.std.specs.FinMap as map
use Rattle.amm_model.specs.Ledger.{Holdings, HoldingsByAsset, Pairs, Ledger}
use Rattle.amm_names.specs.contracts.holder.Holder as holder
use Rattle.amm_names.specs.contracts.holder.Asset as asset
use Rattle.amm_model.specs.contracts.pair.PairRecord as pair
use Rattle.amm_model.specs.contracts.route.Quote as quote
use Rattle.amm_model.specs.contracts.observation.Observation as observation
use Rattle.amm_model.specs.declared.route.Quote.{Quote}
use Rattle.amm_model.specs.declared.observation.Observation.{Observation}
use Rattle.amm_names.specs.declared.holder.Holder.{Holder}

abbrev pub holdings_code : Coded Holdings
holdings_code = map.code holder.the_row.coded coded_ℕ

abbrev pub holdings_by_asset_code : Coded HoldingsByAsset
holdings_by_asset_code = map.code asset.the_row.coded holdings_code

abbrev pub ledger_code : Coded Ledger
ledger_code =
    code_by (HoldingsByAsset × (List (List ℕ) × (Pairs × (Holder × (List ℕ × (ℕ × (List Quote × List Observation)))))))
    (coded× holdings_by_asset_code (coded× (coded_list (coded_list coded_ℕ)) (coded× (coded_list (coded× (coded_list coded_ℕ) pair.the_row.coded)) (coded× holder.the_row.coded (coded× (coded_list coded_ℕ) (coded× coded_ℕ (coded× (coded_list quote.the_row.coded) (coded_list observation.the_row.coded))))))))
    (λ l. (l.holdings, (l.tokens, (l.pairs, (l.fee_to, (l.setter, (l.time, (l.quotes, l.observations))))))))
    (λ p. record { holdings = p.0; tokens = p.1.0; pairs = p.1.1.0; fee_to = p.1.1.1.0; setter = p.1.1.1.1.0; time = p.1.1.1.1.1.0; quotes = p.1.1.1.1.1.1.0; observations = p.1.1.1.1.1.1.1 }) (λ _. refl)
