-- What an accepted creation promises of the ledger that it leaves.
use Rattle.std.proofs.Common.{◌≡◌, ℕ, List, Ok}
use Rattle.std.specs.Prelude.{IsTrue}
use Rattle.amm_names.specs.Names.{is_token_name}
use Rattle.amm_names.specs.Pools.{is_fee}
use Rattle.amm_model.specs.Ledger.{Ledger}
use Rattle.amm_model.specs.Outcome.{Made}
use Rattle.amm_model.specs.Factory.{create}
use Rattle.amm_model.specs.Later.{Later}
use Rattle.amm_factory.proofs.Creation.{create_kept}

pub later_create : (ledger : Ledger) (a b : List ℕ) (fee : ℕ) (made : Made (List ℕ)) → IsTrue (is_token_name a) → IsTrue (is_token_name b) → IsTrue (is_fee fee) → create ledger a b fee ≡ Ok made → Later ledger made.ledger
later_create ledger a b fee made first second at_a_fee is = (create_kept ledger a b fee made first second at_a_fee is).later
