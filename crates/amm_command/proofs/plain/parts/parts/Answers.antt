use Rattle.std.proofs.Common.{◌∷◌, map, sym, ap, ◌∙◌}
use Rattle.json.specs.Lex.{token, comma}
use Rattle.json.specs.Token.{begin_array}
use Rattle.amm_command.specs.Rows.{part_value}
use Rattle.amm_command.proofs.Lists.{items_plain}
use Rattle.amm_command.proofs.Baskets.{parts_fit, parts_flat}
use Rattle.amm_command.proofs.plain.parts.parts.Goals as goal

pub returns-then-are_parts-clause-text : goal.returns-then-are_parts-clause-text
returns-then-are_parts-clause-text c =
    rw c.from_vec.ensures (c.if-not-comma.ensures ∙ ap (λ s. comma ∷ s) (c.if-not-open.ensures ∙ ap (λ s. token begin_array ∷ s) c.in_ok-found.ensures.text))

pub returns-then-are_parts-clause-fits : goal.returns-then-are_parts-clause-fits
returns-then-are_parts-clause-fits c =
    rw c.from_vec.ensures (parts_fit c.in_ok-found.found.items c.in_ok-found.ensures.parts.fits (rw c.deref.ensures.value at (sym c.if-are_parts.ensures)))

pub returns-then-are_parts-clause-plain : goal.returns-then-are_parts-clause-plain
returns-then-are_parts-clause-plain c =
    rw c.from_vec.ensures (items_plain (map part_value c.in_ok-found.found.items) c.in_ok-found.ensures.parts.plain)

pub returns-then-are_parts-clause-flat : goal.returns-then-are_parts-clause-flat
returns-then-are_parts-clause-flat c = rw c.from_vec.ensures (parts_flat c.in_ok-found.found.items)
