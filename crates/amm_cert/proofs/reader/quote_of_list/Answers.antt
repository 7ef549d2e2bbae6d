use Rattle.std.proofs.Common.{◌≡◌, ◌∙◌, List, [], ◌∷◌, length, get_or, map, subst, sym, arith}
use Rattle.std.proofs.Math.ListN.{length-map}
use Rattle.serde_json.specs.View.{view}
use Rattle.serde_json.specs.declared.value.Value.{Value}
use Rattle.amm_model.specs.declared.route.Quote.{Quote}
use Rattle.amm_model.specs.Json.{list}
use Rattle.amm_model.specs.Certificate.{IsValueOf}
use Rattle.amm_cert.specs.Finds.{Finds}
use Rattle.amm_cert.proofs.Whole.{ten_values}
use Rattle.amm_cert.proofs.reader.quote_of_list.Goals as goal
use Rattle.amm_cert.proofs.reader.quote_of_list.Goals.{in_default-via-then-values-lt10, in_default-via-else-values-lt10+else-values-lt11}

listed :
    {X : Type 0} (xs : List X) (a b c d e f g h i j : X) → length xs ≡ 10 → a ≡ get_or xs 0 a → b ≡ get_or xs 1 b → c ≡ get_or xs 2 c → d ≡ get_or xs 3 d →
    e ≡ get_or xs 4 e → f ≡ get_or xs 5 f → g ≡ get_or xs 6 g → h ≡ get_or xs 7 h → i ≡ get_or xs 8 i → j ≡ get_or xs 9 j → xs ≡ a ∷ b ∷ c ∷ d ∷ e ∷ f ∷ g ∷ h ∷ i ∷ j ∷ []
listed (a' ∷ b' ∷ c' ∷ d' ∷ e' ∷ f' ∷ g' ∷ h' ∷ i' ∷ j' ∷ []) a b c d e f g h i j n p0 p1 p2 p3 p4 p5 p6 p7 p8 p9 = cc
listed _ a b c d e f g h i j n p0 p1 p2 p3 p4 p5 p6 p7 p8 p9 = absurd (omega arith)

pub returns-in-len10 : goal.returns-in-len10
returns-in-len10 c =
    let many : length c.args.values.now ≡ 10 = omega arith in
    let e = listed c.args.values.now _ _ _ _ _ _ _ _ _ _ many c.title-item.is c.version-item.is c.s-item.is c.t-item.is c.d-item.is c.pools-item.is c.prices-item.is c.legs-item.is c.delivered-item.is c.bound-item.is in
    let P : List Value → Type 0 = λ vs. Finds {X = Quote} (λ q. IsValueOf (list (map view vs)) q) c.quote.result in
    subst P (sym e) c.quote.ensures

pub returns-in_default : goal.returns-in_default
returns-in_default c = λ q is.
    let many : length c.args.values.now ≡ 10 = sym (length-map c.args.values.now view) ∙ ten_values (map view c.args.values.now) q is in
    elim c.in_default.branch [ in_default-via-then-values-lt10 w ↦ grind (arith, w) | in_default-via-else-values-lt10+else-values-lt11 w ↦ grind (arith, w) ]
