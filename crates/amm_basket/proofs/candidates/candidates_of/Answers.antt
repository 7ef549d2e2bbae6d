use Rattle.std.proofs.Common.{◌≡◌, ◌+◌, List, arith, ap, sym, subst, ◌∙◌, drop, get_or, length, [], ◌∷◌, ◌<◌, ◌≤◌}
use Rattle.std.proofs.lemmas.List.{drop_all, drop_more, get_or_default}
use Rattle.amm_model.specs.declared.problem.Part.{Part}
use Rattle.amm_basket.specs.Candidates.{no_part}
use Rattle.amm_basket.proofs.InTurn.{Selling, all_sold, most_more, most_of_all, one_sold}
use Rattle.amm_basket.proofs.candidates.candidates_of.Goals as goal

pub loop-i-preserved : goal.loop-i-preserved
loop-i-preserved c =
    let problem = c.args.problem.now in
    let i = c.loop-i.i in
    let below : c.loop-i.i < length c.args.problem.now.parts = omega (arith, c.loop-i-test.true, ap length c.parts-parts.ensures.list) in
    let part : c.index-parts-i.result ≡ get_or c.args.problem.now.parts c.loop-i.i no_part = c.index-parts-i.is ∙ (ap (λ (ps : List Part). get_or ps c.loop-i.i c.index-parts-i.result) c.parts-parts.ensures.list ∙ get_or_default problem.parts i c.index-parts-i.result no_part below) in
    record {
      alone = c.in_ok-alone.ensures.delivers;
      value = c.in_ok-alone.ensures.value;
      most = most_more problem c.index-parts-i.result i c.loop-i.alone.amount c.in_ok-alone.alone.amount part c.in_ok-alone.ensures.more c.loop-i.invariant.most c.in_ok-alone.ensures.ways;
      selling = one_sold problem c.index-parts-i.result (drop (i + 1) problem.parts) c.loop-i.used.items c.sell.new.used.items c.loop-i.whole.items c.sell.new.legs.items c.in_ok-sell.ensures
          (subst (λ (left : List Part). Selling c.args.problem.now left c.loop-i.used.items c.loop-i.whole.items)
          (drop_more problem.parts i no_part below ∙ ap (λ (p : Part). p ∷ drop (c.loop-i.i + 1) c.args.problem.now.parts) (sym part)) c.loop-i.invariant.selling);
    }

pub returns : goal.returns
returns c =
    let problem = c.args.problem.now in
    let end : length c.args.problem.now.parts ≤ c.loop-i.i = omega (arith, c.loop-i-test.false, ap length c.parts-parts.ensures.list) in
    let none : drop c.loop-i.i c.args.problem.now.parts ≡ [] = drop_all c.loop-i.i c.args.problem.now.parts end in
    record {
      alone = c.loop-i.invariant.alone;
      value = c.loop-i.invariant.value;
      most = most_of_all problem c.loop-i.i c.loop-i.alone.amount end c.loop-i.invariant.most;
      in_turn = rw c.from_vec.ensures (all_sold problem c.loop-i.used.items c.loop-i.whole.items c.parts-parts.ensures.sound
          (subst (λ (left : List Part). Selling c.args.problem.now left c.loop-i.used.items c.loop-i.whole.items) none c.loop-i.invariant.selling));
    }
