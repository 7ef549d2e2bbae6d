use Rattle.amm_rows.proofs.RowsBack.{row_back}
use Rattle.amm_rows.proofs.law.rows_read_back.Goals as goal

pub returns : goal.returns
returns c = row_back
