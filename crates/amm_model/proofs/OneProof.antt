-- That steps fit has one proof at most, so a type can keep it.
use Rattle.std.specs.Prelude.{Bool, true, suc, length, slice_index_or, List, IsTrue}
use Rattle.std.specs.List.{All}
use Rattle.std.specs.Coded.{×_prop, Π_prop, →_prop, Unit-prop, le_prop, Coded-set, coded_bool, coded_ℕ}
use Rattle.amm_names.specs.Pools.{is_fee}
use Rattle.amm_model.specs.declared.route_path.RoutePath.{RoutePath}
use Rattle.amm_model.specs.declared.command.AddWant.{AddWant}
use Rattle.amm_model.specs.declared.command.RemoveWant.{RemoveWant}
use Rattle.amm_model.specs.Swap.{IsFee}
use Rattle.amm_model.specs.CommandView as view
use Rattle.amm_model.specs.CommandView.{Move, Moves}
use Rattle.amm_model.specs.Fits.{IsPath, FitsAdd, FitsRemove, FitsMove, FitMoves}

truth : (b : Bool) → IsProp (IsTrue b)
truth b = Coded-set coded_bool b true

all_prop : {X : Type 0} (P : X → Type 0) → ((x : X) → IsProp (P x)) → (xs : List X) → IsProp (All P xs)
all_prop P one xs = Π_prop (λ k. Π_prop (λ d. →_prop (one (slice_index_or xs k d))))

path_prop : (path : RoutePath) → IsProp (IsPath path)
path_prop path x y = λ i. record {
  fees = all_prop IsFee (λ fee. truth (is_fee fee)) path.fees x.fees y.fees i;
  between = Coded-set coded_ℕ (suc (length path.fees)) (length path.tokens) x.between y.between i;
  least = le_prop x.least y.least i;
  most = le_prop x.most y.most i;
}

add_prop : (want : AddWant) → IsProp (FitsAdd want)
add_prop want x y = λ i. record {
  fee = truth (is_fee want.fee) x.fee y.fee i;
  a_desired = le_prop x.a_desired y.a_desired i;
  b_desired = le_prop x.b_desired y.b_desired i;
  a_min = le_prop x.a_min y.a_min i;
  b_min = le_prop x.b_min y.b_min i;
}

remove_prop : (want : RemoveWant) → IsProp (FitsRemove want)
remove_prop want x y = λ i. record {
  fee = truth (is_fee want.fee) x.fee y.fee i;
  shares = le_prop x.shares y.shares i;
  a_min = le_prop x.a_min y.a_min i;
  b_min = le_prop x.b_min y.b_min i;
}

mutual
  pub move_prop : (m : Move) → IsProp (FitsMove m)
  move_prop (view.transfer asset to n) = le_prop
  move_prop (view.create a b fee) = truth (is_fee fee)
  move_prop (view.mint pool to) = Unit-prop
  move_prop (view.burn pool to) = Unit-prop
  move_prop (view.swap pool out0 out1 to) = ×_prop le_prop le_prop
  move_prop (view.skim pool to) = Unit-prop
  move_prop (view.sync pool) = Unit-prop
  move_prop (view.flash pool out0 out1 steps) = ×_prop le_prop (×_prop le_prop (moves_prop steps))
  move_prop (view.add want to deadline) = ×_prop (add_prop want) le_prop
  move_prop (view.remove want to deadline) = ×_prop (remove_prop want) le_prop
  move_prop (view.swap_in path x min to deadline) = ×_prop (path_prop path) (×_prop le_prop (×_prop le_prop le_prop))
  move_prop (view.swap_out path y max to deadline) = ×_prop (path_prop path) (×_prop le_prop (×_prop le_prop le_prop))
  move_prop (view.settle quote deadline) = ×_prop le_prop le_prop

  pub moves_prop : (ms : Moves) → IsProp (FitMoves ms)
  moves_prop view.no_moves = Unit-prop
  moves_prop (view.move m ms) = ×_prop (move_prop m) (moves_prop ms)
