use Rattle.std.proofs.Common.{◌≡◌, Some, sym, ap, ◌∙◌}
use Rattle.std.specs.Option.{option_copied}
use Rattle.amm_model.specs.Ledger.{pair_of}
use Rattle.amm_path.proofs.sides.side_of.Goals as goal

pub seen_from-requires : goal.seen_from-requires
seen_from-requires c =
    let there : pair_of c.args.book.now.ledger.pairs c.in-Some.pool ≡ Some c.in-Some-pair.pair.now = sym c.pair.ensures ∙ ap option_copied c.in-Some-pair.is in
    let small = (c.requires.sound.pairs c.in-Some.pool c.in-Some-pair.pair.now there).small in
    (small.r0, small.r1)
