-- The values of an array.
use Rattle.std.proofs.Common.{◌≡◌, List, [], ◌∷◌, map, Vec, Global, Ok, refl, ap}
use Rattle.serde_json.specs.Data.{Data, Items, no_items, item}
use Rattle.serde_json.specs.declared.value.Value.{Value}
use Rattle.serde_json.specs.declared.value.Value.TheVariants.{Array}
use Rattle.serde_json.specs.View.{view, items_view, items_of}
use Rattle.serde_json.proofs.Views.{view-Array}
use Rattle.amm_model.specs.Json.{elements}
use Rattle.amm_model.specs.Forms.{as_list}

elements-items_view : (vs : List Value) → elements (items_view vs) ≡ map view vs
elements-items_view [] = refl
elements-items_view (v ∷ vs) = ap (λ ds. view v ∷ ds) (elements-items_view vs)

pub list_viewed : (vs : Vec Value Global) → as_list (view (Array vs)) ≡ Ok (map view vs.items)
list_viewed vs = rw view-Array (ap Ok (elements-items_view vs.items))

-- a list in an array and back
pub elements-items_of : (ds : List Data) → elements (items_of ds) ≡ ds
elements-items_of [] = refl
elements-items_of (d ∷ ds) = ap (λ es. d ∷ es) (elements-items_of ds)

pub items_of-elements : (ds : Items) → items_of (elements ds) ≡ ds
items_of-elements no_items = refl
items_of-elements (item d ds) = ap (item d) (items_of-elements ds)
