-- Arrays as what they send, value by value.
use Rattle.std.proofs.Common.{◌≡◌, ℕ, ◌+◌, ◌<◌, Bool, true, false, ◌||◌, List, [], ◌∷◌, ◌++◌, length, take, map, get_or, suc, Some, refl, subst, sym, ap, add-one}
use Rattle.std.specs.Prelude.{⊤}
use Rattle.std.proofs.Math.Seq.{take-suc}
use Rattle.std.proofs.lemmas.List.{map-append, length-map}
use Rattle.serde.specs.Event.{Log, Logs, seq_begins, seq_ends}
use Rattle.serde_json.specs.Data.{Data}
use Rattle.serde_json.specs.View.{items_of}
use Rattle.serde_json.specs.Written.{has_float}
use Rattle.serde_json.specs.Events.{items_len, SendsValue, SendsItems}
use Rattle.amm_model.specs.Json.{list}
use Rattle.amm_text.specs.Sends.{SendsEach, SendsFront}

items_len-items_of : (ds : List Data) → items_len (items_of ds) ≡ length ds
items_len-items_of [] = refl
items_len-items_of (d ∷ ds) = ap suc (items_len-items_of ds)

items_sent : (ds : List Data) (first last new : Log) → SendsEach ds first last → Logs last new seq_ends → SendsItems (items_of ds) first new
items_sent [] first last new each ended = subst (λ l. Logs l new seq_ends) each ended
items_sent (d ∷ ds) first last new each ended = (each.0, each.1, items_sent ds each.0 last new each.2 ended)

-- an array that was begun, filled and ended
pub list_sent : (ds : List Data) (old last new : Log) → SendsFront (length ds) ds old last → Logs last new seq_ends → SendsValue (list ds) old new
list_sent ds old last new front ended =
    (front.0, subst (λ n. Logs old front.0 (seq_begins (Some n))) (sym (items_len-items_of ds)) front.1, items_sent ds front.0 last new front.2 ended)

pub each-append : (ds es : List Data) (old mid new : Log) → SendsEach ds old mid → SendsEach es mid new → SendsEach (ds ++ es) old new
each-append [] es old mid new before more = subst (λ l. SendsEach es l new) before more
each-append (d ∷ ds) es old mid new before more = (before.0, before.1, each-append ds es before.0 mid new before.2 more)

-- more values behind the front
pub front-more : (n : ℕ) (ds es : List Data) (old mid new : Log) → SendsFront n ds old mid → SendsEach es mid new → SendsFront n (ds ++ es) old new
front-more n ds es old mid new front more = (front.0, front.1, each-append ds es front.0 mid new front.2 more)

-- one value more, in a loop over what the values are made of
pub each-more :
    {X : Type 0} (value : X → Data) (xs : List X) (i : ℕ) (x d : X) (old mid new : Log) → i < length xs → x ≡ get_or xs i d →
    SendsEach (map value (take i xs)) old mid → SendsValue (value x) mid new → SendsEach (map value (take (i + 1) xs)) old new
each-more value xs i x d old mid new lt is before sent =
    rw (add-one, take-suc xs i d lt, ← is, map-append) (each-append (map value (take i xs)) (value x ∷ []) old mid new before (new, sent, refl))

-- an array of what is made of each
pub listed :
    {X : Type 0} (value : X → Data) (xs : List X) (old first last new : Log) → Logs old first (seq_begins (Some (length xs))) →
    SendsEach (map value xs) first last → Logs last new seq_ends → SendsValue (list (map value xs)) old new
listed value xs old first last new begun each ended =
    list_sent (map value xs) old last new (first, subst (λ n. Logs old first (seq_begins (Some n))) (sym (length-map xs value)) begun, each) ended

-- ---- values with no float, whose text is the compact one

-- none of these has a float
abbrev pub ArePlain : List Data → Type 0
ArePlain [] = ⊤
ArePlain (d ∷ ds) = (has_float d ≡ false) × ArePlain ds

or_false : (a b : Bool) → a ≡ false → b ≡ false → (a || b) ≡ false
or_false true b left right = left
or_false false b left right = right

pub list_plain : (ds : List Data) → ArePlain ds → has_float (list ds) ≡ false
list_plain [] plain = refl
list_plain (d ∷ ds) plain = or_false (has_float d) (has_float (list ds)) plain.0 (list_plain ds plain.1)

pub all_plain : {X : Type 0} (value : X → Data) → ((x : X) → has_float (value x) ≡ false) → (xs : List X) → ArePlain (map value xs)
all_plain value each [] = tt
all_plain value each (x ∷ xs) = (each x, all_plain value each xs)
