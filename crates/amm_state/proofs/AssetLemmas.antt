-- What the tables of all assets give at an asset.
use Rattle.std.proofs.Common.{◌≡◌, ℕ, Bool, true, false, cond, List, [], ◌∷◌, Option, None, Some, refl, sym, ap, ◌∙◌}
use Rattle.std.specs.Option.{unwrap_or, option_map}
use Rattle.std.specs.Map.{lookup}
use Rattle.std.specs.Cmp.{eq_by_cmp_equiv}
use Rattle.std.specs.FinMap as map
use Rattle.std.specs.FinSet as set
use Rattle.amm_names.specs.declared.holder.Holder.{Holder}
use Rattle.amm_names.specs.declared.holder.Asset.{Asset}
use Rattle.amm_names.specs.contracts.holder.AssetPartialEq.TheImpl as asset_is
use Rattle.amm_names.specs.Order.{asset_cmp, same_asset}
use Rattle.amm_model.specs.Ledger.{Holdings, HoldingsByAsset, amount, holdings_of, set_holdings}
use Rattle.amm_names.proofs.OrderLemmas.{asset_equal, asset_eq, asset_total, asset_antisymmetric}
use Rattle.amm_model.specs.Tidy.{IsTidyByAsset}
use Rattle.amm_model.proofs.LedgerLemmas.{holdings_of-empty, holdings_of-set_holdings, IsTidyByAsset-empty, IsTidyByAsset-set_holdings, same_holdings, holdings_of-set_here, same_asset_itself}
use Rattle.amm_state.specs.Rows.{Holders, AssetTable, empty_table, with_row}
use Rattle.amm_state.proofs.RowLemmas.{read_first}
use Rattle.amm_state.specs.Assets.{Rows, Tables, holders_at, holdings_in, rows_in, tables_of, table_at, with_table, with_amount}

abbrev pub eq : Asset → Asset → Bool
eq = (asset_is.ghosts).eq

abbrev pub Entries : Type 0
Entries = List (Asset × AssetTable)

abbrev pub table_in : Entries → Asset → AssetTable
table_in entries q = unwrap_or (lookup (eq q) entries) empty_table

pub holdings_of-holdings_in : (entries : Entries) (q : Asset) → holdings_of (holdings_in entries) q ≡ (table_in entries q).held
unfolding holdings_in
holdings_of-holdings_in [] q = holdings_of-empty q
holdings_of-holdings_in (e ∷ entries) q =
    holdings_of-set_holdings (holdings_in entries) e.0 e.1.held q ∙ ap (cond (same_asset q e.0) e.1.held) (holdings_of-holdings_in entries q)
    ∙ ap (λ b. cond b e.1.held ((table_in entries q).held)) (sym (asset_eq q e.0)) ∙ sym (read_first (λ t. t.held) (eq q e.0) e.1 empty_table (lookup (eq q) entries))

pub IsTidyByAsset-holdings_in : (entries : Entries) → IsTidyByAsset (holdings_in entries)
unfolding holdings_in
IsTidyByAsset-holdings_in [] = IsTidyByAsset-empty
IsTidyByAsset-holdings_in (e ∷ entries) = IsTidyByAsset-set_holdings (holdings_in entries) e.0 e.1.held (IsTidyByAsset-holdings_in entries)

row_first : (b : Bool) (t : AssetTable) (o : Option AssetTable) → cond b (Some t.rows) (option_map (λ x. x.rows) o) ≡ option_map (λ x. x.rows) (cond b (Some t) o)
row_first true t o = refl
row_first false t o = refl

pub get-rows_in : (entries : Entries) (q : Asset) → map.get (rows_in entries) q ≡ option_map (λ t. t.rows) (lookup (eq q) entries)
unfolding rows_in
get-rows_in [] q = map.get-empty asset_cmp q
get-rows_in (e ∷ entries) q =
    map.get-insert asset_total (rows_in entries) e.0 e.1.rows q ∙ ap (cond (same_asset q e.0) (Some e.1.rows)) (get-rows_in entries q)
    ∙ ap (λ b. cond b (Some e.1.rows) (option_map (λ t. t.rows) (lookup (eq q) entries))) (sym (asset_eq q e.0)) ∙ row_first (eq q e.0) e.1 (lookup (eq q) entries)

same_either_way : (a q : Asset) → eq a q ≡ same_asset q a
same_either_way a q = asset_eq a q ∙ (eq_by_cmp_equiv asset_total).symm a q

-- entries that differ at one asset alone
module _ (old new : Entries) (a : Asset) (t : AssetTable) (updates : (q : Asset) → lookup (eq q) new ≡ cond (eq a q) (Some t) (lookup (eq q) old)) where
  holdings_in-updated : holdings_in new ≡ set_holdings (holdings_in old) a t.held
  holdings_in-updated =
      same_holdings _ _ (IsTidyByAsset-holdings_in new) (IsTidyByAsset-set_holdings _ a t.held (IsTidyByAsset-holdings_in old)) (λ q.
      holdings_of-holdings_in new q ∙ ap (λ o. (unwrap_or o empty_table).held) (updates q) ∙ read_first (λ x. x.held) (eq a q) t empty_table (lookup (eq q) old)
      ∙ ap (λ b. cond b t.held ((table_in old q).held)) (same_either_way a q)
      ∙ ap (cond (same_asset q a) t.held) (sym (holdings_of-holdings_in old q)) ∙ sym (holdings_of-set_holdings (holdings_in old) a t.held q))

  rows_in-updated : rows_in new ≡ map.insert (rows_in old) a t.rows
  rows_in-updated =
      map.same_map asset_total asset_antisymmetric _ _ (λ q.
      get-rows_in new q ∙ ap (option_map (λ x. x.rows)) (updates q) ∙ sym (row_first (eq a q) t (lookup (eq q) old))
      ∙ ap (λ b. cond b (Some t.rows) (option_map (λ x. x.rows) (lookup (eq q) old))) (same_either_way a q)
      ∙ ap (cond (same_asset q a) (Some t.rows)) (sym (get-rows_in old q)) ∙ sym (map.get-insert asset_total (rows_in old) a t.rows q))

  pub tables_of-updated : tables_of new ≡ with_table (tables_of old) a t
  tables_of-updated = λ i. record { holdings = holdings_in-updated i; rows = rows_in-updated i }

-- entries with the same look-ups
pub tables_of-same : (old new : Entries) → ((q : Asset) → lookup (eq q) new ≡ lookup (eq q) old) → tables_of new ≡ tables_of old
tables_of-same old new is = λ i. record { holdings = holdings i; rows = rows i }
  where
    holdings : holdings_in new ≡ holdings_in old
    holdings = same_holdings _ _ (IsTidyByAsset-holdings_in new) (IsTidyByAsset-holdings_in old) (λ q.
        holdings_of-holdings_in new q ∙ ap (λ o. (unwrap_or o empty_table).held) (is q) ∙ sym (holdings_of-holdings_in old q))

    rows : rows_in new ≡ rows_in old
    rows = map.same_map asset_total asset_antisymmetric _ _ (λ q. get-rows_in new q ∙ ap (option_map (λ x. x.rows)) (is q) ∙ sym (get-rows_in old q))

rows_or : (o : Option AssetTable) → unwrap_or (option_map (λ x. x.rows) o) set.empty ≡ (unwrap_or o empty_table).rows
rows_or None = refl
rows_or (Some t) = refl

holders_at-rows_in : (entries : Entries) (q : Asset) → holders_at (rows_in entries) q ≡ (table_in entries q).rows
unfolding holders_at
holders_at-rows_in entries q = ap (λ o. unwrap_or o set.empty) (get-rows_in entries q) ∙ rows_or (lookup (eq q) entries)

pub table_at-tables_of : (entries : Entries) (q : Asset) → table_at (tables_of entries) q ≡ table_in entries q
table_at-tables_of entries q = λ i. record { held = holdings_of-holdings_in entries q i; rows = holders_at-rows_in entries q i }

-- a table that is written back leaves all as it was
pub tables_of-rewritten : (old new : Entries) (a : Asset) (t : AssetTable) → ((q : Asset) → lookup (eq q) new ≡ cond (eq a q) (Some t) (lookup (eq q) old)) → Some t ≡ lookup (eq a) old → tables_of new ≡ tables_of old
tables_of-rewritten old new a t updates was = tables_of-same old new (λ q. updates q
    ∙ elim (eq a q) as (λ b. eq a q ≡ b → cond b (Some t) (lookup (eq q) old) ≡ lookup (eq q) old) [
      | true ↦ λ e. was ∙ ap (λ k. lookup (eq k) old) (asset_equal a q e)
      | false ↦ λ e. refl
    ] refl)

-- the table of an asset, as a look-up found it
pub found_table : (entries : Entries) (a : Asset) (o : Option AssetTable) (tables : Tables) → tables_of entries ≡ tables → o ≡ lookup (eq a) entries → unwrap_or o empty_table ≡ table_at tables a
found_table entries a o tables view is = ap (λ x. unwrap_or x empty_table) is ∙ sym (table_at-tables_of entries a) ∙ ap (λ (t : Tables). table_at t a) view

-- the table that was found is changed
pub put_in_place : (old new : Entries) (a : Asset) (t w : AssetTable) (change : AssetTable → AssetTable) (tables : Tables) → tables_of old ≡ tables
    → ((q : Asset) → lookup (eq q) new ≡ cond (eq a q) (Some w) (lookup (eq q) old)) → Some t ≡ lookup (eq a) old → w ≡ change t
    → tables_of new ≡ with_table tables a (change (table_at tables a))
put_in_place old new a t w change tables view updates was is =
    tables_of-updated old new a w updates ∙ ap (with_table (tables_of old) a) is ∙ ap (λ (ts : Tables). with_table ts a (change t)) view
    ∙ ap (λ (x : AssetTable). with_table tables a (change x)) (found_table old a (Some t) tables view was)

-- a table is added for the asset
pub put_new : (old new : Entries) (a : Asset) (w : AssetTable) (change : AssetTable → AssetTable) (tables : Tables) → tables_of old ≡ tables
    → ((q : Asset) → lookup (eq q) new ≡ cond (eq a q) (Some w) (lookup (eq q) old)) → None ≡ lookup (eq a) old → w ≡ change empty_table
    → tables_of new ≡ with_table tables a (change (table_at tables a))
put_new old new a w change tables view updates was is =
    tables_of-updated old new a w updates ∙ ap (with_table (tables_of old) a) is ∙ ap (λ (ts : Tables). with_table ts a (change empty_table)) view
    ∙ ap (λ (x : AssetTable). with_table tables a (change x)) (found_table old a None tables view was)

pub holders_at-insert : (rows : Rows) (a : Asset) (hs : Holders) (q : Asset) → holders_at (map.insert rows a hs) q ≡ cond (same_asset q a) hs (holders_at rows q)
unfolding holders_at
holders_at-insert rows a hs q = rw (map.get-insert asset_total rows a hs q) (read_first (λ x. x) (same_asset q a) hs set.empty (map.get rows q))

-- the table of an asset, as it was just put
table_at-with_table : (tables : Tables) (a : Asset) (t : AssetTable) → table_at (with_table tables a t) a ≡ t
table_at-with_table tables a t =
    let rows = holders_at-insert tables.rows a t.rows a ∙ ap (λ b. cond b t.rows (holders_at tables.rows a)) (same_asset_itself a) in
    λ i. record { held = holdings_of-set_here tables.holdings a t.held i; rows = rows i }

over : {X : Type 0} (b : Bool) (x y z : X) → cond b y (cond b x z) ≡ cond b y z
over true x y z = refl
over false x y z = refl

-- of two tables that are put for an asset the second stays
with_table-again : (entries : Entries) (a : Asset) (t w : AssetTable) → with_table (with_table (tables_of entries) a t) a w ≡ with_table (tables_of entries) a w
with_table-again entries a t w = λ i. record { holdings = holdings i; rows = rows i }
  where
    all : HoldingsByAsset
    all = holdings_in entries

    tidy : (held : Holdings) → IsTidyByAsset (set_holdings all a held)
    tidy held = IsTidyByAsset-set_holdings all a held (IsTidyByAsset-holdings_in entries)

    holdings : set_holdings (set_holdings all a t.held) a w.held ≡ set_holdings all a w.held
    holdings = same_holdings _ _ (IsTidyByAsset-set_holdings _ a w.held (tidy t.held)) (tidy w.held) (λ q.
        holdings_of-set_holdings (set_holdings all a t.held) a w.held q ∙ ap (cond (same_asset q a) w.held) (holdings_of-set_holdings all a t.held q)
        ∙ over (same_asset q a) t.held w.held (holdings_of all q) ∙ sym (holdings_of-set_holdings all a w.held q))

    rows : map.insert (map.insert (rows_in entries) a t.rows) a w.rows ≡ map.insert (rows_in entries) a w.rows
    rows = map.same_map asset_total asset_antisymmetric _ _ (λ q.
        map.get-insert asset_total (map.insert (rows_in entries) a t.rows) a w.rows q ∙ ap (cond (same_asset q a) (Some w.rows)) (map.get-insert asset_total (rows_in entries) a t.rows q)
        ∙ over (same_asset q a) (Some t.rows) (Some w.rows) (map.get (rows_in entries) q) ∙ sym (map.get-insert asset_total (rows_in entries) a w.rows q))

-- two rows of one table, written at once
pub with_amount-twice : (entries : Entries) (a : Asset) (f : Holder) (x : ℕ) (h : Holder) (y : ℕ)
    → with_table (tables_of entries) a (with_row (with_row (table_at (tables_of entries) a) f x) h y) ≡ with_amount (with_amount (tables_of entries) a f x) a h y
with_amount-twice entries a f x h y =
    let t : AssetTable = with_row (table_at (tables_of entries) a) f x in
    sym (ap (λ (w : AssetTable). with_table (with_table (tables_of entries) a t) a (with_row w h y)) (table_at-with_table (tables_of entries) a t) ∙ with_table-again entries a t (with_row t h y))

-- what a holder has in the table, once another row of it is written
pub amount-with_amount : (tables : Tables) (a : Asset) (f : Holder) (x : ℕ) (q : Holder) → amount (with_row (table_at tables a) f x).held q ≡ amount (holdings_of (with_amount tables a f x).holdings a) q
amount-with_amount tables a f x q = ap (λ (held : Holdings). amount held q) (sym (holdings_of-set_here tables.holdings a (with_row (table_at tables a) f x).held))
