use Rattle.std.proofs.Common.{◌≡◌, List, arith, subst, sym}
use Rattle.std.specs.Prelude.{◌↔◌, Contains}
use Rattle.std.specs.List.{IsDistinct}
use Rattle.std.specs.Map.{keys_of}
use Rattle.std.proofs.lemmas.Map.Entries.{length-keys_of}
use Rattle.amm_model.specs.Pools.{same_name}
use Rattle.amm_names.specs.Names.{Name}
use Rattle.amm_graph.proofs.Markets.{gathered, same_names, sorted_names}
use Rattle.amm_graph.proofs.market.names_of.Goals as goal

pub returns-clause-ascending : goal.returns-clause-ascending
returns-clause-ascending c =
    let pairs = c.args.book.now.ledger.pairs in
    let all : c.loop-i.names.items ≡ keys_of pairs = gathered c.loop-i.names.items (keys_of pairs) c.loop-i.i c.loop-i.invariant (omega (arith, length-keys_of pairs)) in
    sorted_names c.loop-i.names.items c.sort_unstable.new.self.items c.sort_unstable.ensures.permutation c.sort_unstable.ensures.sorted
    (subst (λ (ks : List Name). IsDistinct same_name ks) (sym all) c.requires.apart)

pub returns-clause-names : goal.returns-clause-names
returns-clause-names c =
    let pairs = c.args.book.now.ledger.pairs in
    let all : c.loop-i.names.items ≡ keys_of pairs = gathered c.loop-i.names.items (keys_of pairs) c.loop-i.i c.loop-i.invariant (omega (arith, length-keys_of pairs)) in
    subst (λ (ks : List Name). (name : Name) → Contains c.sort_unstable.new.self.items name ↔ Contains ks name) all
    (same_names c.loop-i.names.items c.sort_unstable.new.self.items c.sort_unstable.ensures.permutation)
